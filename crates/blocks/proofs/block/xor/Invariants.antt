use Rattle.std.specs.Prelude.{◌≡◌}
use Rattle.blocks.proofs.Loop.{part}
use Rattle.blocks.specs.Block.{◌⊕◌}
use Rattle.blocks.proofs.block.xor.Given as goal

abbrev pub invariant-loop-i : goal.invariant-loop-i
invariant-loop-i l = l.s ≡ part l.i (l.initial.s ⊕ l.b) l.initial.s
