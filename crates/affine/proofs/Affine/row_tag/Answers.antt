-- The size's part of the table (Tables).
use Rattle.fips197.proofs.Kit.{refl}
use Rattle.affine.specs.Lines.{points}
use Rattle.affine.specs.Elimination.{has}
use Rattle.affine.specs.Walk.{size_index}
use Rattle.affine.proofs.Tables.{begins, part_test, ranks, tag_set, tag_list, row_tags_test, row_tag_read}
use Rattle.affine.proofs.Affine.row_tag.Goals as goal

pub returns : goal.returns
unfolding row_tags_test part_test tag_list ranks tag_set has size_index begins points
returns c =
    row_tag_read c.args.self.now.field.s c.args.self.now.l c.args.self.now.size _ _ c.at_row.ensures refl c.requires.0 c.requires.1 refl
