-- By its test (Computing).
use Rattle.std.specs.Prelude.{◌*◌, ◌^◌}
use Rattle.fips197.proofs.Kit.{arith, lt-ltb, le-ltb}
use Rattle.affine.specs.Field.{element_times_x}
use Rattle.affine.proofs.Computing.{elements_few}
use Rattle.affine.proofs.field.Field.times_x.Goals as goal

pub overflow_mul-a : goal.overflow_mul-a
overflow_mul-a c = omega (arith, c.requires, (elements_few c.args.self.s c.args.self.here).1)

pub returns-then-a-elements : goal.returns-then-a-elements
unfolding element_times_x
returns-then-a-elements c = rw (lt-ltb (c.args.a * 2) (2 ^ c.args.self.s) (omega (arith, c.if-a-elements.true, c.elements.ensures)))

pub overflow_mul-result-2 : goal.overflow_mul-result-2
overflow_mul-result-2 c = omega (arith, c.requires, (elements_few c.args.self.s c.args.self.here).1)

pub returns : goal.returns
unfolding element_times_x
returns c =
    rw (le-ltb (c.args.a * 2) (2 ^ c.args.self.s) (omega (arith, c.if-a-elements.false, c.elements.ensures)), c.polynomial.ensures)
