-- The column is the definition's.
use Rattle.plane.specs.Table.{tag_counts, plane_tags}
use Rattle.plane.proofs.table.tags.Goals as goal

pub returns : goal.returns
unfolding plane_tags tag_counts
returns c = c.column.ensures
