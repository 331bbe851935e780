-- The counts (Tables).
use Rattle.fips197.proofs.Kit.{refl}
use Rattle.affine.specs.Affine.{tag_numbers}
use Rattle.affine.specs.Walk.{size_index}
use Rattle.affine.proofs.Tables.{number_test, numbers_test, tags_read}
use Rattle.affine.proofs.Affine.tag_count.Goals as goal

pub returns : goal.returns
unfolding numbers_test number_test size_index tag_numbers
returns c =
    tags_read c.args.self.now.field.s c.args.self.now.l c.args.self.now.size _ _ c.entry.ensures.read c.index.ensures refl
