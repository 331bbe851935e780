-- By the definition.
use Rattle.plane.proofs.Walks.{tag_yes, tag_no}
use Rattle.plane.specs.Plane.{plane}
use Rattle.plane.proofs.walk.PlaneRows.tag_of_row.Goals as goal

pub returns-then-row-tags : goal.returns-then-row-tags
unfolding plane
returns-then-row-tags c = tag_yes _ _ _ c.tags.ensures c.if-row-tags.true

pub returns-else-row-tags : goal.returns-else-row-tags
unfolding plane
returns-else-row-tags c = tag_no _ _ _ c.tags.ensures c.if-row-tags.false
