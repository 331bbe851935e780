use Rattle.std.specs.Prelude.{◌≡◌}
use Rattle.fips197.proofs.Kit.{length}
use Rattle.affine.proofs.Steps.{Met}
use Rattle.affine.proofs.field.Field.write_tags.Given as goal

abbrev pub invariant-loop-t : goal.invariant-loop-t
invariant-loop-t l = (length l.out ≡ length l.initial.out) × Met l.self.s l.course l.tags l.t l.initial.out l.out l.n
