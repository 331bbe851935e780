-- Document 02, 2.7: "Field elements are numbers below 2^s, with polynomial 7 for s = 2 and 11 for s = 3 (bits as coefficients)." The sum
-- of two elements is bit_xor. Assumes nothing.
use Rattle.std.specs.Prelude.{Bool, ◌||◌, ℕ, zero, suc, ◌-◌, ◌*◌, ◌/◌, ◌%◌, ◌^◌, eqb, ltb, if◌then◌else◌}
use Rattle.std.specs.Int.Bits.{bit_xor}

-- "for s = 2 and 3"
abbrev pub offered : ℕ → Bool
offered s = eqb s 2 || eqb s 3

-- the polynomial of s
unfoldable pub polynomial : ℕ → ℕ
polynomial s = if eqb s 2 then 7 else 11

-- an element times x
unfoldable pub element_times_x : ℕ → ℕ → ℕ
element_times_x s a = if ltb (a * 2) (2 ^ s) then a * 2 else bit_xor (a * 2) (polynomial s)

-- the sum of a times x^i over those of the first n bits i of b that are 1
unfoldable pub product_over : ℕ → ℕ → ℕ → ℕ → ℕ
product_over s zero a b = 0
product_over s (suc n) a b = bit_xor (b % 2 * a) (product_over s n (element_times_x s a) (b / 2))

-- the product of two elements; of larger numbers their lowest s bits are taken
unfoldable pub product : ℕ → ℕ → ℕ → ℕ
product s a b = product_over s s (a % 2 ^ s) (b % 2 ^ s)

-- a to the power n, and the inverse of an element, which is its power 2^s − 2; 0 goes to 0
unfoldable pub element_power : ℕ → ℕ → ℕ → ℕ
element_power s a zero = 1
element_power s a (suc n) = product s (element_power s a n) a

unfoldable pub element_inverse : ℕ → ℕ → ℕ
element_inverse s a = element_power s a (2 ^ s - 2)
