-- The chain counts those that pass (Ranks).
use Rattle.fips197.proofs.Kit.{rules}
use Rattle.plane.proofs.Ranks.{many_counts}
use Rattle.plane.proofs.table.rank.Goals as goal

pub returns : goal.returns
returns c = rw many_counts (search rules)
