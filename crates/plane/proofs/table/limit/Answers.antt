-- The column is the definition's.
use Rattle.plane.specs.Table.{limits, plane_limit}
use Rattle.plane.proofs.table.limit.Goals as goal

pub returns : goal.returns
unfolding plane_limit limits
returns c = c.column.ensures
