-- The engines' words: a column of the state (3.4 and 3.5) as a 32-bit number, its first byte lowest. Cited by the contracts of this crate
-- and of the engines, and by nothing above them. Assumes nothing.
use Rattle.std.specs.Prelude.{List, [], ◌∷◌, ◌++◌, ℕ, ◌/◌, ◌%◌, get_or}

-- the four bytes of a word
unfoldable pub bytes_of : ℕ → List ℕ
bytes_of x = x % 256 ∷ x / 256 % 256 ∷ x / 65536 % 256 ∷ x / 16777216 % 256 ∷ []

-- the state whose columns are four words
unfoldable pub state_of : ℕ → ℕ → ℕ → ℕ → List ℕ
state_of a b c d = bytes_of a ++ bytes_of b ++ bytes_of c ++ bytes_of d

-- each byte of a column from itself and those below it
unfoldable pub column : (ℕ → ℕ → ℕ → ℕ → ℕ) → List ℕ → List ℕ
column f l =
    f (get_or l 0 0) (get_or l 1 0) (get_or l 2 0) (get_or l 3 0) ∷
    f (get_or l 1 0) (get_or l 2 0) (get_or l 3 0) (get_or l 0 0) ∷
    f (get_or l 2 0) (get_or l 3 0) (get_or l 0 0) (get_or l 1 0) ∷
    f (get_or l 3 0) (get_or l 0 0) (get_or l 1 0) (get_or l 2 0) ∷ []
