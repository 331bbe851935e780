-- Document 02, 2.7 (000, section 6.5): points and lines over the field of 2^s elements, the cards and the rows that stand for them.
-- Assumes nothing.
use Rattle.std.specs.Prelude.{Bool, ℕ, ◌+◌, ◌-◌, ◌*◌, ◌/◌, ◌%◌, ◌^◌, eqb, leb, get_or, if◌then◌else◌}
use Rattle.std.specs.Int.Bits.{bit_xor}
use Rattle.incidence.specs.Count.{count_up_to, any_up_to, listed}
use Rattle.affine.specs.declared.Line.{Line}
use Rattle.affine.specs.Field.{product}

-- how many points there are: 4^s
unfoldable pub points : ℕ → ℕ
points s = 2 ^ s * 2 ^ s

-- points are numbered from 1, by y × 2^s + x rising
unfoldable pub x_of : ℕ → ℕ → ℕ
x_of s p = (p - 1) % 2 ^ s

unfoldable pub y_of : ℕ → ℕ → ℕ
y_of s p = (p - 1) / 2 ^ s

-- whether the line ax + by = c holds point p
unfoldable pub on_line : ℕ → Line → ℕ → Bool
on_line s L p = eqb (bit_xor (product s L.a (x_of s p)) (product s L.b (y_of s p))) L.c

-- "The chosen lines are the first l of y = kx for k rising, then the line x = 0": line k + 1 is y = kx, as kx + y = 0, and line 2^s + 1
-- is x = 0
unfoldable pub chosen : ℕ → ℕ → Line
chosen s k = if leb k (2 ^ s) then (record { a = k - 1; b = 1; c = 0 }) else (record { a = 1; b = 0; c = 0 })

-- "then the lines ax+by = 1, a and b not both 0, by a×2^s+b rising": line n, from 1 on, has a × 2^s + b = n
unfoldable pub crossing : ℕ → ℕ → Line
crossing s n = record { a = n / 2 ^ s; b = n % 2 ^ s; c = 1 }

-- "Cards stand for the chosen lines, then the lines ax+by = 1": how many there are, and the line of card j
unfoldable pub affine_items : ℕ → ℕ → ℕ
affine_items s l = l + (points s - 1)

unfoldable pub line_of : ℕ → ℕ → ℕ → Line
line_of s l j = if leb j l then chosen s j else crossing s (j - l)

-- "Rows stand for points of the chosen lines, by y×2^s+x rising": whether point p is one, how many there are, and the point of row i
unfoldable pub is_row : ℕ → ℕ → ℕ → Bool
is_row s l p = any_up_to (λ k. on_line s (chosen s k) p) l

unfoldable pub row_count : ℕ → ℕ → ℕ
row_count s l = count_up_to (is_row s l) (points s)

unfoldable pub point_of : ℕ → ℕ → ℕ → ℕ
point_of s l i = get_or (listed (is_row s l) (points s)) (i - 1) 0
