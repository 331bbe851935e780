-- Big-endian numbers: the first byte counts most. Document 01: "Numbers are big-endian." Assumes nothing.
use Rattle.std.specs.Prelude.{ℕ, zero, suc, ◌+◌, ◌*◌, ◌/◌, ◌%◌, List, [], ◌∷◌, ◌++◌, length, slice_index}

-- the number that the first k bytes of s are
unfoldable pub number_of : List ℕ → ℕ → ℕ
number_of s zero = 0
number_of s (suc k) = number_of s k * 256 + slice_index s k

-- the number that all the bytes of s are
unfoldable pub number : List ℕ → ℕ
number s = number_of s (length s)

-- the last k bytes of the number n: all of it where n is below 256 to the k
unfoldable pub big_endian : ℕ → ℕ → List ℕ
big_endian zero n = []
big_endian (suc k) n = big_endian k (n / 256) ++ (n % 256 ∷ [])
