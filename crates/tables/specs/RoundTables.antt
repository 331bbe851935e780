-- Document 02, request 2.8: tables of 256 words of 32 bits that join substitution and column mixing, and the schedule that deciphering
-- with them needs. They are parts of the engine, not of AES: its calls are stated by FIPS 197's definitions. Assumes nothing.
use Rattle.std.specs.Prelude.{◌≡◌, ◌&&◌, List, [], ◌∷◌, ℕ, ◌+◌, ◌-◌, ◌*◌, ◌%◌, ◌<◌, leb, get_or, if◌then◌else◌}
use Rattle.fips197.specs.Block.{tabulate}
use Rattle.fips197.specs.Field.{◌•◌}
use Rattle.fips197.specs.Aes.{word, sbox, inv_sbox, inv_mixed}
use Rattle.fips197.specs.Words.{bytes_of, column}

-- what a byte b in the first row of a column adds to the mixed column: the first column of the matrix of 5.1.3, times b
unfoldable pub spread : ℕ → List ℕ
spread b = 0x02 • b ∷ 0x01 • b ∷ 0x01 • b ∷ 0x03 • b ∷ []

-- likewise by the matrix of 5.3.3
unfoldable pub inv_spread : ℕ → List ℕ
inv_spread b = 0x0e • b ∷ 0x09 • b ∷ 0x0d • b ∷ 0x0b • b ∷ []

-- a column turned down by r rows: what a byte in row r adds
unfoldable pub down : ℕ → List ℕ → List ℕ
down r l = tabulate 4 (λ i. get_or l ((i + 4 - r) % 4) 0)

-- t is two tables of f, one behind the other: word x of table r is f x, turned down by r rows
pub record RoundTables (t : List ℕ) (f : ℕ → List ℕ) : Type 0 where
  pub entry : (r x : ℕ) → r < 2 → x < 256 → bytes_of (get_or t (256 * r + x) 0) ≡ down r (f x)

-- the tables of SubBytes and MixColumns, and those of their inverses
unfoldable pub round_entry : ℕ → List ℕ
round_entry x = spread (sbox x)

unfoldable pub inv_round_entry : ℕ → List ℕ
inv_round_entry x = inv_spread (inv_sbox x)

-- FIPS 197, 5.3.5, KeyExpansionEIC: word i of the deciphering schedule of w. The words of rounds 1 to 9 go through InvMixColumns.
unfoldable pub decipher_word : List ℕ → ℕ → List ℕ
decipher_word w i = if leb 4 i && leb i 39 then column inv_mixed (word w i) else word w i

-- k is the 44 words of the deciphering schedule of w
pub record DecipherWords (k w : List ℕ) : Type 0 where
  pub entry : (i : ℕ) → i < 44 → bytes_of (get_or k i 0) ≡ decipher_word w i
