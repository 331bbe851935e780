-- An entry of the plane's part of the table.
use Rattle.fips197.proofs.Kit.{refl, ap, ◌∙◌, List, get_or, ℕ}
use Rattle.plane.specs.Table.{difference_lists}
use Rattle.plane.proofs.table.difference.Goals as goal

pub differences-requires : goal.differences-requires
unfolding difference_lists
differences-requires c = refl

pub returns : goal.returns
returns c = c.from.ensures ∙ ap (λ (l : List ℕ). get_or l c.args.k 0) c.differences.ensures
