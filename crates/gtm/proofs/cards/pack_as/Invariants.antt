-- The message stays in the buffer.
use Rattle.std.proofs.Common.{◌≤◌, length}
use Rattle.gtm.proofs.cards.pack_as.Given as goal

abbrev pub invariant-loop-word : goal.invariant-loop-word
invariant-loop-word l = l.n ≤ length l.file
