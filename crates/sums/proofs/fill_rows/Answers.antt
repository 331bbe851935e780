-- By its two steps (Filling).
use Rattle.sizes.specs.Sizes.{family_of}
use Rattle.sizes.proofs.Laws.{lawful_rows}
use Rattle.sums.proofs.Filling.{fill_both}
use Rattle.sums.proofs.fill_rows.Goals as goal

pub returns : goal.returns
returns c =
    fill_both (family_of c.args.code) (lawful_rows c.args.code) _ _ _ c.spread_tags.ensures c.fill_made.ensures
