-- The row's entry, or nothing where there is no such row (Steps).
use Rattle.fips197.proofs.Kit.{sym}
use Rattle.incidence.proofs.Counting.{inside-low, inside-high, inside_of}
use Rattle.affine.specs.Affine.{affine_family}
use Rattle.affine.proofs.Steps.{tag_out}
use Rattle.affine.proofs.walk.AffineRows.tag_of_row.Goals as goal

pub row_tag-requires : goal.row_tag-requires
unfolding affine_family
row_tag-requires c =
    let i = c.args.row in
    let w = inside_of i c.rows.ensures c.inside.ensures c.if-inside.true in
    (inside-low _ i w, inside-high _ i w)

pub returns-else-inside : goal.returns-else-inside
unfolding affine_family
returns-else-inside c =
    sym (tag_out _ _ _ (inside_of c.args.row c.rows.ensures c.inside.ensures c.if-inside.false))
