-- By its test.
use Rattle.std.specs.Prelude.{◌^◌}
use Rattle.fips197.proofs.Kit.{arith, le-leb, lt-leb}
use Rattle.affine.specs.Lines.{chosen}
use Rattle.affine.proofs.field.Field.chosen.Goals as goal

pub returns-then-k-elements : goal.returns-then-k-elements
unfolding chosen
returns-then-k-elements c =
    let a = c.args in
    rw (le-leb a.k (2 ^ a.self.s) (omega (arith, c.if-k-elements.true, c.elements.ensures)))

pub returns : goal.returns
unfolding chosen
returns c =
    let a = c.args in
    rw (lt-leb a.k (2 ^ a.self.s) (omega (arith, c.if-k-elements.false, c.elements.ensures)))
