-- Text as ASCII bytes: words, and numbers in decimal. Assumes nothing.
use Rattle.std.specs.Prelude.{List, [], ◌∷◌, ◌++◌, ℕ, zero, suc, ◌+◌, ◌/◌, ◌%◌, ltb, if◌then◌else◌}
use Prim.Native.Char.{code}
use Prim.Native.String.{String, [] as end, ◌∷◌ as ◌then◌}

-- the codes of a text's characters
unfoldable pub ascii : String → List ℕ
ascii end = []
ascii (c then s) = code c ∷ ascii s

-- the decimal digits of n, at most so many: those of n / 10, where there are any, and the last one
unfoldable pub digits : ℕ → ℕ → List ℕ
digits zero n = []
digits (suc most) n = (if ltb n 10 then [] else digits most (n / 10)) ++ ((48 + n % 10) ∷ [])

-- n in decimal, with no zero in front (it has fewer than n + 2 digits)
unfoldable pub decimal : ℕ → List ℕ
decimal n = digits (suc n) n

-- a word and a number behind it
unfoldable pub labelled : String → ℕ → List ℕ
labelled word n = ascii word ++ decimal n
