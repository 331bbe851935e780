-- The table is the one that its rule gives, entry by entry (TableRules).
use Rattle.fips197.specs.Field.{xtimes, product_by, ◌•◌, power_by, power}
use Rattle.fips197.proofs.TableRules.{rcon_table_lem, rcon_table}
use Rattle.fips197.proofs.schedule.rcon.Goals as goal

pub returns : goal.returns
unfolding rcon_table_lem power power_by ◌•◌ product_by xtimes
returns c = rcon_table c.args.j c.requires.0 c.requires.1
