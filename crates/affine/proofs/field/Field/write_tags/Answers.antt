-- Each turn takes the next place of the course (Steps).
use Rattle.std.specs.Prelude.{◌≡◌, ◌++◌, ◌-◌, ◌≤◌, ◌^◌}
use Rattle.fips197.proofs.Kit.{refl, ap, ◌∙◌, subst, List, ℕ, arith, length, length-set, get_or, drop}
use Rattle.affine.specs.Walk.{place_on, met}
use Rattle.affine.proofs.Computing.{elements_few, points_few}
use Rattle.affine.proofs.Walks.{met_few}
use Rattle.affine.proofs.Steps.{met-none, met-one, place_few}
use Rattle.affine.proofs.field.Field.write_tags.Goals as goal
use Rattle.affine.proofs.field.Field.write_tags.Goals.{then-tag-ne0, else-tag-ne0}

pub loop-t-init : goal.loop-t-init
unfolding met
loop-t-init c = (refl, (refl, refl))

pub place_on-requires : goal.place_on-requires
place_on-requires c =
    (c.requires.0, omega (arith, c.loop-t-test.true, c.elements-q.ensures))

pub bounds-tags-place_on : goal.bounds-tags-place_on
bounds-tags-place_on c =
    let point : (1 ≤ c.place_on.result) × (c.place_on.result ≤ 64) =
    let a = c.args in
    let w = place_few a.self.s c.args.self.here a.course c.loop-t.t c.requires.0 (omega (arith, c.loop-t-test.true, c.elements-q.ensures)) in
    rw c.place_on.ensures (w.0, omega (arith, w.1, (points_few a.self.s c.args.self.here).1)) in
    omega (arith, point.0, point.1, c.requires.1)

pub bounds-out-n : goal.bounds-out-n
bounds-out-n c =
    let room : let l = c in l.loop-t.n ≤ 7 =
    let a = c.args in
    omega (
      arith,
      c.loop-t-test.true,
      c.elements-q.ensures,
      (elements_few a.self.s c.args.self.here).1,
      c.loop-t.invariant.1.0,
      met_few a.self.s a.course a.tags.now c.loop-t.t,
    ) in
    omega (arith, room, c.loop-t.invariant.0, c.requires.2)

pub loop-t-preserved : goal.loop-t-preserved
loop-t-preserved c =
    let room : let l = c in l.loop-t.n ≤ 7 =
    let a = c.args in
    omega (
      arith,
      c.loop-t-test.true,
      c.elements-q.ensures,
      (elements_few a.self.s c.args.self.here).1,
      c.loop-t.invariant.1.0,
      met_few a.self.s a.course a.tags.now c.loop-t.t,
    ) in
    let entry : let a = c.args in c.from-tag.result ≡ get_or a.tags.now (place_on a.self.s a.course c.loop-t.t - 1) 0 =
    let a = c.args in
    c.from-tag.ensures ∙ ap (λ (p : ℕ). get_or a.tags.now (p - 1) 0) c.place_on.ensures in
    let a = c.args in
    let o = a.out.now in
    let m = c.loop-t.invariant.1 in
    elim c.if-tag-ne0.branch [
      | then-tag-ne0 w ↦ (
        rw w.out-is (length-set c.loop-t.out c.loop-t.n c.from-tag.result ∙ c.loop-t.invariant.0),
        rw (w.out-is, w.n-is) (met-one a.self.s a.course a.tags.now c.loop-t.t o c.loop-t.out c.loop-t.n c.from-tag.result entry w.if-tag-ne0.true
            (omega (arith, room, c.requires.2, m.0)) m),
      )
      | else-tag-ne0 w ↦ (
        rw w.out-is c.loop-t.invariant.0,
        rw (w.out-is, w.n-is) (met-none a.self.s a.course a.tags.now c.loop-t.t o c.loop-t.out c.loop-t.n c.from-tag.result entry
            (omega (arith, w.if-tag-ne0.false)) m),
      )
    ]

pub returns : goal.returns
returns c =
    let a = c.args in
    let o = a.out.now in
    let m = c.loop-t.invariant.1 in
    let list : ℕ → List ℕ = met a.self.s a.course a.tags.now in
    let e : c.loop-t.t ≡ 2 ^ a.self.s = omega (arith, c.elements-q.ensures) in
    record {
      written = subst (λ (t : ℕ). c.loop-t.out ≡ list t ++ drop (length (list t)) o) e m.1;
      count = subst (λ (t : ℕ). c.loop-t.n ≡ length (list t)) e m.0;
    }

pub overflow_sub-place_on : goal.overflow_sub-place_on
overflow_sub-place_on c =
    let point : (1 ≤ c.place_on.result) × (c.place_on.result ≤ 64) =
    let a = c.args in
    let w = place_few a.self.s c.args.self.here a.course c.loop-t.t c.requires.0 (omega (arith, c.loop-t-test.true, c.elements-q.ensures)) in
    rw c.place_on.ensures (w.0, omega (arith, w.1, (points_few a.self.s c.args.self.here).1)) in
    omega (arith, point.0)

pub offset_bounds-out-n : goal.offset_bounds-out-n
offset_bounds-out-n c =
    let room : let l = c in l.loop-t.n ≤ 7 =
    let a = c.args in
    omega (
      arith,
      c.loop-t-test.true,
      c.elements-q.ensures,
      (elements_few a.self.s c.args.self.here).1,
      c.loop-t.invariant.1.0,
      met_few a.self.s a.course a.tags.now c.loop-t.t,
    ) in
    omega (arith, room)

pub overflow_add-n : goal.overflow_add-n
overflow_add-n c =
    let room : let l = c in l.loop-t.n ≤ 7 =
    let a = c.args in
    omega (
      arith,
      c.loop-t-test.true,
      c.elements-q.ensures,
      (elements_few a.self.s c.args.self.here).1,
      c.loop-t.invariant.1.0,
      met_few a.self.s a.course a.tags.now c.loop-t.t,
    ) in
    omega (arith, room)
