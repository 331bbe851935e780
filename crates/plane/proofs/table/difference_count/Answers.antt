-- The column is the lists' lengths (Lookup).
use Rattle.fips197.proofs.Kit.{◌∙◌}
use Rattle.plane.proofs.Lookup.{difference_count}
use Rattle.plane.proofs.table.difference_count.Goals as goal

pub returns : goal.returns
returns c = c.column.ensures ∙ difference_count c.args.s
