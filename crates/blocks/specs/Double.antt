-- Doubling of 16 bytes: multiplication by x in GF(2^128) as SP 800-38B, 6.1, has it. CMAC's subkeys and document 01's tag masks use it.
-- Assumes nothing.
use Rattle.std.specs.Prelude.{ℕ, ◌+◌, ◌*◌, ◌/◌, ◌^◌, List, bit_xor}
use Rattle.blocks.specs.Block.{◌⊕◌}
use Rattle.blocks.specs.Number.{number, big_endian}

-- document 01: shift left one bit as a big-endian number; if the lost bit was 1, XOR 87 hexadecimal into the last byte
unfoldable pub double : List ℕ → List ℕ
double b = big_endian 16 (number b * 2) ⊕ big_endian 16 (0x87 * (number b / 2 ^ 127))

-- a polynomial of degree below 128, bit i the coefficient of x^i, times x modulo x^128 + x^7 + x^2 + x + 1
unfoldable pub times_x : ℕ → ℕ
times_x n = bit_xor (n * 2) ((2 ^ 128 + 0x87) * (n / 2 ^ 127))
