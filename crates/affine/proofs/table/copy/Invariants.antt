use Rattle.std.specs.Prelude.{◌≡◌}
use Rattle.fips197.proofs.Kit.{length}
use Rattle.blocks.proofs.Loop.{part}
use Rattle.affine.proofs.table.copy.Given as goal

abbrev pub invariant-loop-k : goal.invariant-loop-k
invariant-loop-k l = (length l.out ≡ length l.initial.out) × (l.out ≡ part l.k l.from l.initial.out)
