-- Document 01's starred bench cards about the cipher, computed from the definitions.
use Rattle.std.specs.Prelude.{◌≡◌, ◌∷◌, ◌++◌}
use Rattle.fips197.proofs.Kit.{refl, []}
use Rattle.blocks.specs.Block.{◌⊕◌, zeros}
use Rattle.blocks.specs.Number.{number_of, number, big_endian}
use Rattle.fips197.specs.Field.{xtimes, product_by, ◌•◌, power_by, power, inverse}
use Rattle.fips197.specs.Aes.{bit, byte_of, affine, sbox}
use Rattle.blocks.specs.Double.{double}

-- the S-box of 53 is ed
pub sbox_of_53 : sbox 0x53 ≡ 0xed
unfolding sbox affine byte_of bit inverse power power_by ◌•◌ product_by xtimes
sbox_of_53 = refl

-- 80 and fifteen 00 doubles to fifteen 00 and 87
pub doubled-80 : double (0x80 ∷ zeros 15) ≡ zeros 15 ++ (0x87 ∷ [])
unfolding double number number_of big_endian ◌⊕◌
doubled-80 = refl
