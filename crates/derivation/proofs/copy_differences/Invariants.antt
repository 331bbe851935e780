use Rattle.std.specs.Prelude.{◌≡◌}
use Rattle.fips197.proofs.Kit.{length}
use Rattle.blocks.proofs.Loop.{part}
use Rattle.plane.specs.Table.{differences}
use Rattle.derivation.proofs.copy_differences.Given as goal

abbrev pub invariant-loop-i : goal.invariant-loop-i
invariant-loop-i l = (length l.list ≡ length l.initial.list) × (l.list ≡ part l.i (differences l.s) l.initial.list)
