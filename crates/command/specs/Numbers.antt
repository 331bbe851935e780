-- A number typed as a word: decimal digits, at least one, that write a number below 2^64, or one below 2^32. Cited by the contracts of
-- `number_in` and `number32_in`. Assumes nothing.
use Rattle.std.specs.Prelude.{Bool, true, ◌&&◌, List, [], ◌∷◌, ℕ, ◌+◌, ◌-◌, ◌*◌, ◌^◌, leb, ltb, length, if◌then◌else◌, Option, Some, None}

-- one of the characters 0 to 9
unfoldable pub is_digit : ℕ → Bool
is_digit b = leb 48 b && leb b 57

-- no other character
unfoldable pub digits_only : List ℕ → Bool
digits_only [] = true
digits_only (b ∷ rest) = is_digit b && digits_only rest

-- the number with one digit more behind it
unfoldable pub with_digit : ℕ → ℕ → ℕ
with_digit v b = 10 * v + (b - 48)

-- and with the digits of a text behind it
unfoldable pub with_digits : ℕ → List ℕ → ℕ
with_digits v [] = v
with_digits v (b ∷ rest) = with_digits (with_digit v b) rest

-- digits, at least one, and a number that 64 bits hold
unfoldable pub is_number : List ℕ → Bool
is_number text = (ltb 0 (length text) && digits_only text) && ltb (with_digits 0 text) (2 ^ 64)

-- the number that a text writes, if it writes one
unfoldable pub parsed_number : List ℕ → Option ℕ
parsed_number text = if is_number text then Some (with_digits 0 text) else None

-- the same of a number that 32 bits hold
unfoldable pub is_number32 : List ℕ → Bool
is_number32 text = is_number text && ltb (with_digits 0 text) (2 ^ 32)

unfoldable pub parsed_number32 : List ℕ → Option ℕ
parsed_number32 text = if is_number32 text then Some (with_digits 0 text) else None
