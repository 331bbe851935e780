use Rattle.std.specs.Prelude.{◌≡◌}
use Rattle.fips197.proofs.Kit.{length}
use Rattle.blocks.proofs.Loop.{part}
use Rattle.plane.specs.Plane.{plane}
use Rattle.plane.proofs.walk.write_made.Given as goal

abbrev pub invariant-loop-k : goal.invariant-loop-k
invariant-loop-k l = (length l.out ≡ length l.initial.out) × (l.out ≡ part l.k ((plane l.s).made l.i) l.initial.out)
