-- By the definition.
use Rattle.std.specs.Prelude.{◌*◌, ◌+◌, ◌-◌, ◌≤◌}
use Rattle.fips197.proofs.Kit.{ap, ℕ, arith}
use Rattle.affine.specs.Lines.{points, affine_items}
use Rattle.affine.specs.Affine.{affine_family}
use Rattle.affine.proofs.Computing.{points_few, elements_few, sized-offered, sized-high}
use Rattle.affine.proofs.walk.AffineRows.items.Goals as goal

pub overflow_mul-result : goal.overflow_mul-result
unfolding points
overflow_mul-result c =
    let square : (16 ≤ c.elements-q.result * c.elements-q.result) × (c.elements-q.result * c.elements-q.result ≤ 64) =
    rw c.elements-q.ensures (points_few c.args.self.now.field.s (sized-offered _ _ c.args.self.now.size)) in
    omega (arith, square.1)

pub overflow_sub-result : goal.overflow_sub-result
unfolding points
overflow_sub-result c =
    let square : (16 ≤ c.elements-q.result * c.elements-q.result) × (c.elements-q.result * c.elements-q.result ≤ 64) =
    rw c.elements-q.ensures (points_few c.args.self.now.field.s (sized-offered _ _ c.args.self.now.size)) in
    omega (arith, square.0)

pub overflow_add-result : goal.overflow_add-result
unfolding points
overflow_add-result c =
    let square : (16 ≤ c.elements-q.result * c.elements-q.result) × (c.elements-q.result * c.elements-q.result ≤ 64) =
    rw c.elements-q.ensures (points_few c.args.self.now.field.s (sized-offered _ _ c.args.self.now.size)) in
    let a = c.args in
    omega (arith, square.1, sized-high a.self.now.field.s a.self.now.l c.args.self.now.size, (elements_few a.self.now.field.s (sized-offered _ _ c.args.self.now.size)).1)

pub returns : goal.returns
unfolding affine_family affine_items points
returns c = ap (λ (q : ℕ). c.args.self.now.l + (q * q - 1)) c.elements-q.ensures
