-- As many as the test counts (Tables).
use Rattle.std.specs.Prelude.{◌≡◌, ◌*◌, ◌+◌, ◌-◌, ◌≤◌}
use Rattle.fips197.proofs.Kit.{sym, ap, ◌∙◌, ℕ, arith}
use Rattle.affine.specs.Affine.{affine_family}
use Rattle.affine.proofs.Computing.{elements_few, sized-offered}
use Rattle.affine.proofs.Tables.{row_count_lem, rows-high}
use Rattle.affine.proofs.walk.AffineRows.rows.Goals as goal

pub overflow_sub-result : goal.overflow_sub-result
overflow_sub-result c = omega (arith, c.elements.ensures, (elements_few c.args.self.now.field.s (sized-offered _ _ c.args.self.now.size)).0)

pub overflow_mul-result : goal.overflow_mul-result
unfolding affine_family
overflow_mul-result c =
    let counted : (affine_family c.args.self.now.field.s c.args.self.now.l).rows ≡ c.args.self.now.l * (c.elements.result - 1) + 1 =
    row_count_lem _ _ c.args.self.now.size ∙ ap (λ (q : ℕ). c.args.self.now.l * (q - 1) + 1) (sym c.elements.ensures) in
    let few : (affine_family c.args.self.now.field.s c.args.self.now.l).rows ≤ 64 = rows-high _ _ c.args.self.now.size in
    omega (arith, counted, few)

pub overflow_add-result : goal.overflow_add-result
unfolding affine_family
overflow_add-result c =
    let counted : (affine_family c.args.self.now.field.s c.args.self.now.l).rows ≡ c.args.self.now.l * (c.elements.result - 1) + 1 =
    row_count_lem _ _ c.args.self.now.size ∙ ap (λ (q : ℕ). c.args.self.now.l * (q - 1) + 1) (sym c.elements.ensures) in
    let few : (affine_family c.args.self.now.field.s c.args.self.now.l).rows ≤ 64 = rows-high _ _ c.args.self.now.size in
    omega (arith, counted, few)

pub returns : goal.returns
unfolding affine_family
returns c =
    let counted : (affine_family c.args.self.now.field.s c.args.self.now.l).rows ≡ c.args.self.now.l * (c.elements.result - 1) + 1 =
    row_count_lem _ _ c.args.self.now.size ∙ ap (λ (q : ℕ). c.args.self.now.l * (q - 1) + 1) (sym c.elements.ensures) in
    sym counted
