-- By its test.
use Rattle.fips197.proofs.Kit.{eq-eqb, ne_eqb}
use Rattle.affine.specs.Walk.{course_of}
use Rattle.affine.proofs.field.Field.course_of.Goals as goal

pub returns-then-line-eq0 : goal.returns-then-line-eq0
unfolding course_of
returns-then-line-eq0 c = rw (eq-eqb _ _ c.if-line-eq0.true, c.product.ensures, c.inverse.ensures)

pub returns : goal.returns
unfolding course_of
returns c =
    rw (ne_eqb _ _ c.if-line-eq0.false, c.product-3.ensures, c.product-2.ensures, c.inverse-turned.ensures)
