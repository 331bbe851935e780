-- As it is written.
use Rattle.fips197.proofs.Kit.{refl}
use Rattle.files.specs.TagFile.{newest_tag_file, stamp_for}
use Rattle.files.proofs.tagfile.stamp_for.Goals as goal

pub returns : goal.returns
unfolding stamp_for newest_tag_file
returns c = refl
