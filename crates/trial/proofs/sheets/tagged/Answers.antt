-- What Tag does not refuse is taggable (checks' Checking).
use Rattle.fips197.proofs.Kit.{refl, length, rules}
use Rattle.files.proofs.Passing.{told_ok}
use Rattle.checks.proofs.Checking.{taggable}
use Rattle.trial.proofs.sheets.tagged.Goals as goal

pub in_version-requires : goal.in_version-requires
in_version-requires c =
    taggable c.args.keys.now c.args.size c.args.shelf.now (length c.args.room) _ refl (told_ok _ _ c.tag.ensures.refused (search rules))
