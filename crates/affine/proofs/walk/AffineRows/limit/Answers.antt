-- By the definition.
use Rattle.fips197.proofs.Kit.{refl, arith}
use Rattle.affine.specs.Affine.{affine_family}
use Rattle.affine.proofs.Computing.{sized-low}
use Rattle.affine.proofs.walk.AffineRows.limit.Goals as goal

pub overflow_sub-result : goal.overflow_sub-result
overflow_sub-result c = omega (arith, sized-low c.args.self.now.field.s c.args.self.now.l c.args.self.now.size)

pub returns : goal.returns
unfolding affine_family
returns c = refl
