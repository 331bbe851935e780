-- The rule of the tables, tested at every word (TableRules).
use Rattle.fips197.proofs.Kit.{refl}
use Rattle.fips197.specs.Field.{xtimes, product_by, ◌•◌, power_by, power, inverse}
use Rattle.fips197.specs.Aes.{bit, byte_of, affine, sbox}
use Rattle.fips197.proofs.TableRules.{sbox_table_lem, sbox_table, sbox_lt}
use Rattle.tables.specs.RoundTables.{spread, down, round_entry}
use Rattle.tables.proofs.TableRules.{is_entry, tables_rule, spread-bytes}
use Rattle.tables.proofs.round_tables.table.Goals as goal

pub invariant_of-result : goal.invariant_of-result
unfolding round_entry is_entry down spread sbox_table_lem sbox affine byte_of bit inverse power power_by ◌•◌ product_by xtimes
invariant_of-result c = record { entries = tables_rule spread sbox sbox_table_lem _ spread-bytes sbox_lt sbox_table refl tt }
