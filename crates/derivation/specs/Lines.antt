-- What the program `patterns` prints (document 02, 2.6). Assumes nothing.
use Rattle.std.specs.Prelude.{List, [], ◌∷◌, ◌++◌, ℕ, zero, suc}
use Rattle.printing.specs.Text.{ascii, decimal, labelled}

-- the steps, a space before each
unfoldable pub words : List ℕ → List ℕ
words [] = []
words (k ∷ P) = labelled " " k ++ words P

-- "a line with the size code and then how many rows back each XORed row stands, rising, with single spaces"
unfoldable pub pattern_line : ℕ → List ℕ → List ℕ
pattern_line c P = decimal c ++ words P ++ ascii "\n"

-- "for each size, in order": the lines of the sizes 1 to n, by what is each one's pattern
unfoldable pub pattern_lines : (ℕ → List ℕ) → ℕ → List ℕ
pattern_lines pattern zero = []
pattern_lines pattern (suc n) = pattern_lines pattern n ++ pattern_line (suc n) (pattern (suc n))
