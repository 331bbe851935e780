-- The size's 64 entries are among the 640 (Tables).
use Rattle.std.specs.Prelude.{◌≡◌, ◌+◌, ◌-◌, ◌*◌, ◌≤◌}
use Rattle.fips197.proofs.Kit.{arith}
use Rattle.affine.proofs.Tables.{index_high}
use Rattle.affine.proofs.Affine.part.Goals as goal

pub returns : goal.returns
returns c =
    let x = c.index-at.result in
    let e : 64 * x + 64 - 64 * x ≡ 64 = omega arith in
    rw (e, c.index-at.ensures)

pub overflow_mul-at : goal.overflow_mul-at
overflow_mul-at c =
    let few : c.index-at.result ≤ 9 =
    omega (arith, c.index-at.ensures, index_high c.args.self.now.field.s c.args.self.now.l c.args.self.now.size) in
    omega (arith, few)

pub overflow_add-result : goal.overflow_add-result
overflow_add-result c =
    let few : c.index-at.result ≤ 9 =
    omega (arith, c.index-at.ensures, index_high c.args.self.now.field.s c.args.self.now.l c.args.self.now.size) in
    omega (arith, few)

pub slice_bounds-result-end : goal.slice_bounds-result-end
slice_bounds-result-end c =
    let few : c.index-at.result ≤ 9 =
    omega (arith, c.index-at.ensures, index_high c.args.self.now.field.s c.args.self.now.l c.args.self.now.size) in
    omega (arith, few, c.requires)
