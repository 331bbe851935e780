use Rattle.std.specs.Prelude.{◌+◌, ◌≤◌}
use Rattle.fips197.proofs.Kit.{length}
use Rattle.sizes.specs.Sizes.{family_of}
use Rattle.decoding.specs.Decoding.{agrees_in}
use Rattle.decoding.proofs.Picking.{Compared}
use Rattle.decoding.proofs.clear_agreeing.Given as goal

abbrev pub invariant-loop-row : goal.invariant-loop-row
invariant-loop-row l = (l.row ≤ l.i + 1) × Compared (family_of l.code) (agrees_in l.d) (length l.initial.marks) l.initial.marks l.marks l.others l.row
