-- By its kind: a place is a point, and points are few (Steps).
use Rattle.std.specs.Prelude.{◌+◌, ◌*◌, ◌≤◌}
use Rattle.fips197.proofs.Kit.{arith, bit_xor}
use Rattle.affine.specs.Walk.{place_on}
use Rattle.affine.proofs.Computing.{points_few}
use Rattle.affine.proofs.Steps.{sloping_place}
use Rattle.affine.proofs.field.Field.place_on.Goals as goal

pub returns-in-Level : goal.returns-in-Level
unfolding place_on
returns-in-Level c = rw (c.in-Level.is, c.elements-q.ensures)

pub returns-in-Sloped : goal.returns-in-Sloped
unfolding place_on
returns-in-Sloped c = rw (c.in-Sloped.is, c.elements-q.ensures, c.product.ensures)

pub overflow_add-result-in-Sloped : goal.overflow_add-result-in-Sloped
overflow_add-result-in-Sloped c =
    let few : let b = c in b.args.t * b.elements-q.result + bit_xor b.in-Sloped.start b.product.result + 1 ≤ 64 =
    rw (c.elements-q.ensures, c.product.ensures)
    (omega (arith, sloping_place c.args.self.s c.args.self.here c.in-Sloped.start c.in-Sloped.slope c.args.t (rw c.in-Sloped.is at c.requires.0) c.requires.1, (points_few c.args.self.s c.args.self.here).1)) in
    omega (arith, few)

pub overflow_add-result-in-Sloped-2 : goal.overflow_add-result-in-Sloped-2
overflow_add-result-in-Sloped-2 c =
    let few : let b = c in b.args.t * b.elements-q.result + bit_xor b.in-Sloped.start b.product.result + 1 ≤ 64 =
    rw (c.elements-q.ensures, c.product.ensures)
    (omega (arith, sloping_place c.args.self.s c.args.self.here c.in-Sloped.start c.in-Sloped.slope c.args.t (rw c.in-Sloped.is at c.requires.0) c.requires.1, (points_few c.args.self.s c.args.self.here).1)) in
    omega (arith, few)
