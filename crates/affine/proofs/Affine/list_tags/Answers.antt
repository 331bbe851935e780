-- Along the item's line, or nothing where there is no such item (Walks); the table has the tag at each point (Tables).
use Rattle.std.specs.Prelude.{◌≡◌, ◌^◌}
use Rattle.fips197.proofs.Kit.{refl, sym, true}
use Rattle.incidence.specs.Count.{inside}
use Rattle.incidence.specs.Family.{tags_of}
use Rattle.incidence.proofs.Listing.{written_as, written_none}
use Rattle.incidence.proofs.Counting.{inside-low, inside-high, inside_of}
use Rattle.affine.specs.Field.{polynomial, element_times_x, product_over, product}
use Rattle.affine.specs.Lines.{points, x_of, y_of, on_line, chosen, affine_items, is_row}
use Rattle.affine.specs.Elimination.{has}
use Rattle.affine.specs.Affine.{affine_family}
use Rattle.affine.specs.Walk.{met, size_index}
use Rattle.affine.proofs.Computing.{sized-offered}
use Rattle.affine.proofs.Tables.{begins, part_test, ranks, tag_set, tag_list, row_tags, entries, point_tags_lem, point_tags_test, point_tags, part_long}
use Rattle.affine.proofs.Walks.{card_proper, tags-along, tags_out}
use Rattle.affine.proofs.Steps.{start_low}
use Rattle.affine.proofs.Affine.list_tags.Goals as goal

pub line_of-requires : goal.line_of-requires
unfolding affine_family
line_of-requires c =
    let item : inside (affine_items c.args.self.now.field.s c.args.self.now.l) c.args.item ≡ true =
    inside_of c.args.item c.items.ensures c.inside.ensures c.if-inside.true in
    inside-low _ c.args.item item

pub course_of-course-requires : goal.course_of-course-requires
unfolding affine_family
course_of-course-requires c =
    let item : inside (affine_items c.args.self.now.field.s c.args.self.now.l) c.args.item ≡ true =
    inside_of c.args.item c.items.ensures c.inside.ensures c.if-inside.true in
    let j = c.args.item in
    let p = card_proper c.args.self.now.field.s c.args.self.now.l c.args.self.now.size j (inside-low _ j item) (inside-high _ j item) in
    rw c.line_of.ensures (p.low_a, p.low_b)

pub write_tags-requires : goal.write_tags-requires
write_tags-requires c =
    (rw c.course_of-course.ensures (start_low _ (sized-offered _ _ c.args.self.now.size) _), part_long c.args.self.now.field.s c.args.self.now.l c.args.self.now.size _ c.part.ensures refl, c.requires)

pub returns-then-inside : goal.returns-then-inside
unfolding part_test ranks tag_set tag_list row_tags entries point_tags_lem point_tags_test begins has size_index points x_of y_of on_line chosen is_row polynomial element_times_x product_over product affine_family
returns-then-inside c =
    let item : inside (affine_items c.args.self.now.field.s c.args.self.now.l) c.args.item ≡ true =
    inside_of c.args.item c.items.ensures c.inside.ensures c.if-inside.true in
    let a = c.args in
    let e : met a.self.now.field.s c.course_of-course.result c.part.result.now (2 ^ a.self.now.field.s) ≡ tags_of (affine_family a.self.now.field.s a.self.now.l) a.item =
    rw (c.course_of-course.ensures, c.line_of.ensures)
    (sym (tags-along a.self.now.field.s a.self.now.l c.args.self.now.size c.part.result.now (point_tags a.self.now.field.s a.self.now.l c.args.self.now.size _ c.part.ensures refl) a.item (inside-low _ a.item item) (inside-high _ a.item item))) in
    let r = written_as a.out.now e (c.write_tags.ensures.written, c.write_tags.ensures.count) in
    record { written = r.0; count = r.1 }

pub returns-else-inside : goal.returns-else-inside
unfolding affine_family
returns-else-inside c =
    let r = written_none c.args.out.now
    (tags_out c.args.self.now.field.s c.args.self.now.l c.args.self.now.size c.args.item (inside_of c.args.item c.items.ensures c.inside.ensures c.if-inside.false)) in
    record { written = r.0; count = r.1 }
