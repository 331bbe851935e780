-- By its test.
use Rattle.fips197.proofs.Kit.{eq-eqb, ne_eqb}
use Rattle.affine.specs.Field.{polynomial}
use Rattle.affine.proofs.field.Field.polynomial.Goals as goal

pub returns-then-self-eq2 : goal.returns-then-self-eq2
unfolding polynomial
returns-then-self-eq2 c = rw (eq-eqb _ _ c.if-self-eq2.true)

pub returns-else-self-eq2 : goal.returns-else-self-eq2
unfolding polynomial
returns-else-self-eq2 c = rw (ne_eqb _ _ c.if-self-eq2.false)
