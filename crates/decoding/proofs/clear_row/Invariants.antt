use Rattle.fips197.proofs.Kit.{length}
use Rattle.decoding.specs.Decoding.{Cleared}
use Rattle.decoding.proofs.Picking.{picked}
use Rattle.decoding.proofs.clear_row.Given as goal

abbrev pub invariant-loop-j : goal.invariant-loop-j
invariant-loop-j l = Cleared (picked l.j-items l.j-index) (length l.initial.marks) l.initial.marks l.marks
