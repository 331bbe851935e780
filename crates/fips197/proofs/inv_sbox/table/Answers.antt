-- The table is the one that its rule gives, entry by entry (TableRules).
use Rattle.fips197.specs.Field.{xtimes, product_by, ◌•◌, power_by, power, inverse}
use Rattle.fips197.specs.Aes.{bit, byte_of}
use Rattle.fips197.proofs.TableRules.{unaffine, way_back, inv_sbox_table_lem, inv_sbox_table}
use Rattle.fips197.proofs.inv_sbox.table.Goals as goal

pub invariant_of-result : goal.invariant_of-result
unfolding inv_sbox_table_lem way_back unaffine byte_of bit inverse power power_by ◌•◌ product_by xtimes
invariant_of-result c = record { tabulates = inv_sbox_table }
