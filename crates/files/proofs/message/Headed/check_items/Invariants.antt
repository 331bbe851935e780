use Rattle.std.specs.Prelude.{◌≡◌, ◌≤◌}
use Rattle.fips197.proofs.Kit.{length}
use Rattle.files.specs.Message.{behind, refuse_items}
use Rattle.files.specs.Refusals.{none}
use Rattle.files.proofs.message.Headed.check_items.Given as goal

abbrev pub invariant-loop-k : goal.invariant-loop-k
invariant-loop-k l = (l.at ≤ length l.s) × (refuse_items l.s l.k ≡ none) × (l.at ≡ behind l.s l.k) × (length l.s ≤ 65536)
