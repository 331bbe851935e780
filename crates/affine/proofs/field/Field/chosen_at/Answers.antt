-- By its test.
use Rattle.std.specs.Prelude.{◌≤◌, ◌^◌, ◌-◌, ◌<◌}
use Rattle.fips197.proofs.Kit.{arith, eq-eqb, ne_eqb}
use Rattle.affine.specs.Lines.{x_of, y_of}
use Rattle.affine.specs.Walk.{chosen_at}
use Rattle.affine.proofs.Computing.{elements_few, reduced-low}
use Rattle.affine.proofs.Steps.{product-low}
use Rattle.affine.proofs.field.Field.chosen_at.Goals as goal

pub returns-then-x-eq0 : goal.returns-then-x-eq0
unfolding chosen_at x_of y_of
returns-then-x-eq0 c =
    rw (eq-eqb _ _ (rw c.elements-q.ensures at c.if-x-eq0.true), c.elements-q.ensures)

pub inverse-requires : goal.inverse-requires
inverse-requires c =
    rw c.elements-q.ensures (reduced-low c.args.self.s c.args.self.here (c.args.p - 1))

pub overflow_add-result-2 : goal.overflow_add-result-2
overflow_add-result-2 c =
    let low : c.product.result < 2 ^ c.args.self.s = rw c.product.ensures (product-low _ c.args.self.here _ _) in
    omega (arith, (elements_few c.args.self.s c.args.self.here).1)

pub returns : goal.returns
unfolding chosen_at x_of y_of
returns c =
    rw (c.product.ensures, c.inverse.ensures, c.elements-q.ensures, ne_eqb _ _ (rw c.elements-q.ensures at c.if-x-eq0.false))

pub nonzero_rem-x : goal.nonzero_rem-x
nonzero_rem-x c =
    let some : (4 ≤ c.elements-q.result) × (c.elements-q.result ≤ 8) =
    let e = elements_few c.args.self.s c.args.self.here in
    (omega (arith, c.elements-q.ensures, e.0), omega (arith, c.elements-q.ensures, e.1)) in
    omega (arith, some.0)

pub overflow_add-result : goal.overflow_add-result
overflow_add-result c =
    let some : (4 ≤ c.elements-q.result) × (c.elements-q.result ≤ 8) =
    let e = elements_few c.args.self.s c.args.self.here in
    (omega (arith, c.elements-q.ensures, e.0), omega (arith, c.elements-q.ensures, e.1)) in
    omega (arith, some.1)

pub nonzero_div-p : goal.nonzero_div-p
nonzero_div-p c =
    let some : (4 ≤ c.elements-q.result) × (c.elements-q.result ≤ 8) =
    let e = elements_few c.args.self.s c.args.self.here in
    (omega (arith, c.elements-q.ensures, e.0), omega (arith, c.elements-q.ensures, e.1)) in
    omega (arith, some.0)
