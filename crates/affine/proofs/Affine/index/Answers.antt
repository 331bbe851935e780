-- By its test.
use Rattle.fips197.proofs.Kit.{arith, eq-eqb, ne_eqb}
use Rattle.affine.specs.Walk.{size_index}
use Rattle.affine.proofs.Computing.{sized-low}
use Rattle.affine.proofs.Affine.index.Goals as goal

pub overflow_sub-result : goal.overflow_sub-result
overflow_sub-result c = omega (arith, sized-low c.args.self.now.field.s c.args.self.now.l c.args.self.now.size)

pub returns-then-self-eq2 : goal.returns-then-self-eq2
unfolding size_index
returns-then-self-eq2 c = rw (eq-eqb _ _ c.if-self-eq2.true)

pub returns-else-self-eq2 : goal.returns-else-self-eq2
unfolding size_index
returns-else-self-eq2 c = rw (ne_eqb _ _ c.if-self-eq2.false)
