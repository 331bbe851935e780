-- Through the row's point, or nothing where there is no such row (Walks).
use Rattle.std.specs.Prelude.{◌≡◌, ◌≤◌, ◌++◌}
use Rattle.fips197.proofs.Kit.{sym, ap, ◌∙◌, true, ℕ, drop}
use Rattle.incidence.specs.Count.{inside}
use Rattle.incidence.specs.Family.{items_of}
use Rattle.incidence.proofs.Listing.{written_as, written_none}
use Rattle.incidence.proofs.Counting.{inside-low, inside-high, inside_of}
use Rattle.affine.specs.Lines.{points, row_count}
use Rattle.affine.specs.Affine.{affine_family}
use Rattle.affine.specs.Walk.{dual, course_of, firsts, through_at, through_count}
use Rattle.affine.proofs.Meeting.{x_low, y_low}
use Rattle.affine.proofs.Disjunct.{F}
use Rattle.affine.proofs.Listings.{firsts-length}
use Rattle.affine.proofs.Walks.{items-along, items_out, point_low, point_high}
use Rattle.affine.proofs.Affine.list_items.Goals as goal

pub point_of-p-requires : goal.point_of-p-requires
unfolding affine_family
point_of-p-requires c =
    let row : inside (row_count c.args.self.now.field.s c.args.self.now.l) c.args.row ≡ true =
    inside_of c.args.row c.rows.ensures c.inside.ensures c.if-inside.true in
    (inside-low _ c.args.row row, inside-high _ c.args.row row)

pub dual-requires : goal.dual-requires
unfolding affine_family
dual-requires c =
    let row : inside (row_count c.args.self.now.field.s c.args.self.now.l) c.args.row ≡ true =
    inside_of c.args.row c.rows.ensures c.inside.ensures c.if-inside.true in
    let low : 1 ≤ c.point_of-p.result =
    rw c.point_of-p.ensures (point_low c.args.self.now.field.s c.args.self.now.l c.args.self.now.size c.args.row (inside-low _ c.args.row row) (inside-high _ c.args.row row)) in
    low

pub course_of-requires : goal.course_of-requires
unfolding dual affine_family
course_of-requires c =
    let row : inside (row_count c.args.self.now.field.s c.args.self.now.l) c.args.row ≡ true =
    inside_of c.args.row c.rows.ensures c.inside.ensures c.if-inside.true in
    let low : 1 ≤ c.point_of-p.result =
    rw c.point_of-p.ensures (point_low c.args.self.now.field.s c.args.self.now.l c.args.self.now.size c.args.row (inside-low _ c.args.row row) (inside-high _ c.args.row row)) in
    let high : c.point_of-p.result ≤ points c.args.self.now.field.s =
    rw c.point_of-p.ensures (point_high c.args.self.now.field.s c.args.self.now.l c.args.self.now.size c.args.row (inside-low _ c.args.row row) (inside-high _ c.args.row row)) in
    let f = F c.args.self.now.field.s c.args.self.now.l c.args.self.now.size in
    rw c.dual.ensures (y_low c.args.self.now.field.s f c.point_of-p.result low high, x_low c.args.self.now.field.s f c.point_of-p.result)

pub write_items-requires : goal.write_items-requires
unfolding affine_family
write_items-requires c =
    let row : inside (row_count c.args.self.now.field.s c.args.self.now.l) c.args.row ≡ true =
    inside_of c.args.row c.rows.ensures c.inside.ensures c.if-inside.true in
    let low : 1 ≤ c.point_of-p.result =
    rw c.point_of-p.ensures (point_low c.args.self.now.field.s c.args.self.now.l c.args.self.now.size c.args.row (inside-low _ c.args.row row) (inside-high _ c.args.row row)) in
    record { le_p = (low, c.course_of.ensures ∙ ap (course_of c.args.self.now.field.s) c.dual.ensures); in_bounds = c.requires }

pub returns-then-inside : goal.returns-then-inside
unfolding affine_family
returns-then-inside c =
    let row : inside (row_count c.args.self.now.field.s c.args.self.now.l) c.args.row ≡ true =
    inside_of c.args.row c.rows.ensures c.inside.ensures c.if-inside.true in
    let i = c.args.row in
    let s = c.args.self.now.field.s in
    let l = c.args.self.now.l in
    let f = through_at s l c.point_of-p.result in
    let n = through_count s l c.point_of-p.result in
    let e : firsts f n ≡ items_of (affine_family s l) i =
    rw c.point_of-p.ensures (sym (items-along s l c.args.self.now.size i (inside-low _ i row) (inside-high _ i row))) in
    let r = written_as c.args.out.now e
    (c.write_items.ensures.written ∙ ap (λ (k : ℕ). firsts f n ++ drop k c.args.out.now) (sym (firsts-length f n)), c.write_items.ensures.count ∙ sym (firsts-length f n)) in
    record { written = r.0; count = r.1 }

pub returns-else-inside : goal.returns-else-inside
unfolding affine_family
returns-else-inside c =
    let r = written_none c.args.out.now
    (items_out c.args.self.now.field.s c.args.self.now.l c.args.self.now.size c.args.row (inside_of c.args.row c.rows.ensures c.inside.ensures c.if-inside.false)) in
    record { written = r.0; count = r.1 }
