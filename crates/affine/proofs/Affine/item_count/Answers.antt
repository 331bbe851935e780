-- By its test.
use Rattle.fips197.proofs.Kit.{arith, eq-eqb, ne_eqb}
use Rattle.affine.specs.Walk.{through_count}
use Rattle.affine.proofs.Computing.{elements_few, sized-offered}
use Rattle.affine.proofs.Affine.item_count.Goals as goal

pub overflow_add-result : goal.overflow_add-result
overflow_add-result c = omega (arith, c.elements.ensures, (elements_few c.args.self.now.field.s (sized-offered _ _ c.args.self.now.size)).1)

pub returns-then-p-eq1 : goal.returns-then-p-eq1
unfolding through_count
returns-then-p-eq1 c = rw (eq-eqb _ _ c.if-p-eq1.true)

pub returns-else-p-eq1 : goal.returns-else-p-eq1
unfolding through_count
returns-else-p-eq1 c = rw (ne_eqb _ _ c.if-p-eq1.false, c.elements.ensures)
