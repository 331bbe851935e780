-- By its tests.
use Rattle.std.specs.Prelude.{◌+◌, ◌-◌, ◌^◌, ◌≤◌, ◌<◌}
use Rattle.fips197.proofs.Kit.{◌∙◌, ap, ℕ, arith, eq-eqb, ne_eqb}
use Rattle.affine.specs.declared.Course.{Course}
use Rattle.affine.specs.Walk.{start_of, through_at, through_count, place_on}
use Rattle.affine.proofs.Computing.{points_few, elements_few, sized-offered, sized-high}
use Rattle.affine.proofs.Steps.{start_low, place_few, count_nine}
use Rattle.affine.proofs.Affine.item_at.Goals as goal

pub overflow_add-result : goal.overflow_add-result
overflow_add-result c = omega (arith, c.requires.2, count_nine c.args.self.now.field.s c.args.self.now.l c.args.p c.args.self.now.size)

pub returns-then-p-eq1 : goal.returns-then-p-eq1
unfolding through_at
returns-then-p-eq1 c = rw (eq-eqb _ _ c.if-p-eq1.true)

pub returns-then-k-eq0 : goal.returns-then-k-eq0
unfolding through_at
returns-then-k-eq0 c = rw (ne_eqb _ _ c.if-p-eq1.false, eq-eqb _ _ c.if-k-eq0.true) c.chosen_at.ensures

pub place_on-requires : goal.place_on-requires
unfolding through_count
place_on-requires c =
    let place : c.args.k - 1 < 2 ^ c.args.self.now.field.s =
    let e : c.args.k < 2 ^ c.args.self.now.field.s + 1 = rw (ne_eqb _ 1 c.if-p-eq1.false) at c.requires.2 in
    omega (arith, c.if-k-eq0.false) in
    let start : start_of c.args.course < 2 ^ c.args.self.now.field.s =
    rw c.requires.1 (start_low c.args.self.now.field.s (sized-offered _ _ c.args.self.now.size) _) in
    (start, place)

pub returns : goal.returns
unfolding through_at
returns c =
    rw (ne_eqb _ 1 c.if-p-eq1.false, ne_eqb _ 0 c.if-k-eq0.false)
    (ap (λ (x : ℕ). c.args.self.now.l + x - 1) c.place_on.ensures ∙ ap (λ (x : Course). c.args.self.now.l + place_on c.args.self.now.field.s x (c.args.k - 1) - 1) c.requires.1)

pub chosen_at-requires : goal.chosen_at-requires
chosen_at-requires c = c.requires.0

pub overflow_add-result-2 : goal.overflow_add-result-2
unfolding through_count
overflow_add-result-2 c =
    let place : c.args.k - 1 < 2 ^ c.args.self.now.field.s =
    let e : c.args.k < 2 ^ c.args.self.now.field.s + 1 = rw (ne_eqb _ 1 c.if-p-eq1.false) at c.requires.2 in
    omega (arith, c.if-k-eq0.false) in
    let start : start_of c.args.course < 2 ^ c.args.self.now.field.s =
    rw c.requires.1 (start_low c.args.self.now.field.s (sized-offered _ _ c.args.self.now.size) _) in
    let point : (1 ≤ c.place_on.result) × (c.place_on.result ≤ 64) =
    let here = sized-offered c.args.self.now.field.s c.args.self.now.l c.args.self.now.size in
    let w = place_few c.args.self.now.field.s here c.args.course (c.args.k - 1) start place in
    rw c.place_on.ensures (w.0, omega (arith, w.1, (points_few c.args.self.now.field.s here).1)) in
    let few : c.args.self.now.l ≤ 9 =
    omega (arith, sized-high c.args.self.now.field.s c.args.self.now.l c.args.self.now.size, (elements_few c.args.self.now.field.s (sized-offered _ _ c.args.self.now.size)).1) in
    omega (arith, point.1, few)

pub overflow_sub-result : goal.overflow_sub-result
unfolding through_count
overflow_sub-result c =
    let place : c.args.k - 1 < 2 ^ c.args.self.now.field.s =
    let e : c.args.k < 2 ^ c.args.self.now.field.s + 1 = rw (ne_eqb _ 1 c.if-p-eq1.false) at c.requires.2 in
    omega (arith, c.if-k-eq0.false) in
    let start : start_of c.args.course < 2 ^ c.args.self.now.field.s =
    rw c.requires.1 (start_low c.args.self.now.field.s (sized-offered _ _ c.args.self.now.size) _) in
    let point : (1 ≤ c.place_on.result) × (c.place_on.result ≤ 64) =
    let here = sized-offered c.args.self.now.field.s c.args.self.now.l c.args.self.now.size in
    let w = place_few c.args.self.now.field.s here c.args.course (c.args.k - 1) start place in
    rw c.place_on.ensures (w.0, omega (arith, w.1, (points_few c.args.self.now.field.s here).1)) in
    omega (arith, point.0)
