-- FIPS 197, section 4: bytes as elements of GF(2^8), polynomials over two elements modulo x^8 + x^4 + x^3 + x + 1.
-- Bit i of a byte is the coefficient of x^i. Addition (4.1) is bit_xor. Assumes nothing.
use Rattle.std.specs.Prelude.{ℕ, zero, suc, ◌*◌, ◌/◌, ◌%◌, eqb, if◌then◌else◌}
use Rattle.std.specs.Int.Bits.{bit_xor}

infixl 70 ◌•◌
-- 4.2, XTIMES: a byte times x; 1b hexadecimal is the modulus without x^8
unfoldable pub xtimes : ℕ → ℕ
xtimes b = bit_xor (b * 2 % 256) (0x1b * (b / 128 % 2))

-- the sum of b times x^i over those of the first n bits i of a that are 1
unfoldable pub product_by : ℕ → ℕ → ℕ → ℕ
product_by zero a b = 0
product_by (suc n) a b = bit_xor (a % 2 * b) (product_by n (a / 2) (xtimes b))

-- 4.2: the product of two bytes
unfoldable pub ◌•◌ : ℕ → ℕ → ℕ
a • b = product_by 8 a b

-- b to the power n, for n below 2^k, by the binary digits of n
unfoldable pub power_by : ℕ → ℕ → ℕ → ℕ
power_by zero b n = 1
power_by (suc k) b n = (if eqb (n % 2) 1 then b else 1) • power_by k (b • b) (n / 2)

-- b to the power n, for n below 256
unfoldable pub power : ℕ → ℕ → ℕ
power b n = power_by 8 b n

-- 4.4: the multiplicative inverse of b, which is b to the power 254; 0 goes to 0
unfoldable pub inverse : ℕ → ℕ
inverse b = power b 254
