-- The column is the definition's.
use Rattle.plane.specs.Table.{item_counts, plane_items}
use Rattle.plane.proofs.table.items.Goals as goal

pub returns : goal.returns
unfolding plane_items item_counts
returns c = c.column.ensures
