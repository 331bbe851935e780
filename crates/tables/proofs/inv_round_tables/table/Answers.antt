-- The rule of the tables, tested at every word (TableRules).
use Rattle.fips197.proofs.Kit.{refl}
use Rattle.fips197.specs.Field.{xtimes, product_by, ◌•◌, power_by, power, inverse}
use Rattle.fips197.specs.Aes.{bit, byte_of, inv_sbox}
use Rattle.fips197.proofs.TableRules.{unaffine, way_back, inv_sbox_table_lem, inv_sbox_table, inv_sbox_lt}
use Rattle.tables.specs.RoundTables.{inv_spread, down, inv_round_entry}
use Rattle.tables.proofs.TableRules.{is_entry, tables_rule, inv_spread-bytes}
use Rattle.tables.proofs.inv_round_tables.table.Goals as goal

pub invariant_of-result : goal.invariant_of-result
unfolding inv_round_entry is_entry down inv_spread ◌•◌ product_by xtimes inv_sbox_table_lem way_back unaffine byte_of bit inverse power power_by
invariant_of-result c = record { entries = tables_rule inv_spread inv_sbox inv_sbox_table_lem _ inv_spread-bytes inv_sbox_lt inv_sbox_table refl tt }
