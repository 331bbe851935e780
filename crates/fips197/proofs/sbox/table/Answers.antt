-- The table is the one that its rule gives, entry by entry (TableRules).
use Rattle.fips197.specs.Field.{xtimes, product_by, ◌•◌, power_by, power, inverse}
use Rattle.fips197.specs.Aes.{bit, byte_of, affine, sbox}
use Rattle.fips197.proofs.TableRules.{sbox_table_lem, sbox_table}
use Rattle.fips197.proofs.sbox.table.Goals as goal

pub invariant_of-result : goal.invariant_of-result
unfolding sbox_table_lem sbox affine byte_of bit inverse power power_by ◌•◌ product_by xtimes
invariant_of-result c = record { tabulates = sbox_table }
