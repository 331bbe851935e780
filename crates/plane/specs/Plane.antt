-- Document 01, Planes (000, section 6.4): the incidence of a plane by its difference list, and the plane as a family. Assumes nothing.
use Rattle.std.specs.Prelude.{Bool, false, ◌&&◌, ◌||◌, List, [], ◌∷◌, map, ℕ, ◌+◌, ◌-◌, ◌%◌, eqb, ltb, leb, if◌then◌else◌}
use Rattle.incidence.specs.Count.{indicator, inside}
use Rattle.incidence.specs.Family.{Family}
use Rattle.plane.specs.Table.{plane_items, plane_tags, plane_limit, differences, plane_pattern}

-- whether x is a member of a list
abbrev pub member : ℕ → List ℕ → Bool
member x [] = false
member x (y ∷ ys) = eqb x y || member x ys

-- how many members of a list pass a test
abbrev pub many : (ℕ → Bool) → List ℕ → ℕ
many q [] = 0
many q (x ∷ xs) = indicator (q x) + many q xs

-- how many pairs of members of D differ by δ, modulo m
unfoldable pub pairs : ℕ → List ℕ → ℕ → ℕ
pairs m D δ = many (λ e. member ((e + δ) % m) D) D

-- "Rows and cards are numbered 1 to m. Card j is on row i when (j − i) modulo m is in D."
unfoldable pub on : ℕ → List ℕ → ℕ → ℕ → Bool
on m D i j = (inside m i && inside m j) && member ((j + m - i) % m) D

-- "Every later row is the XOR of a fixed pattern of the t rows before it": the rows that row i is made of, for i from t + 1 to m
unfoldable pub made : ℕ → ℕ → List ℕ → ℕ → List ℕ
made m t P i = if ltb t i && leb i m then map (λ k. i - k) P else []

-- "Rows 1 to t carry tags": tag i is of row i
unfoldable pub tagged : ℕ → ℕ → ℕ
tagged t i = if leb i t then i else 0

-- the plane of s
unfoldable pub plane : ℕ → Family
plane s = record {
  items = plane_items s;
  rows = plane_items s;
  tags = plane_tags s;
  limit = plane_limit s;
  on = on (plane_items s) (differences s);
  row_of_tag = tagged (plane_tags s);
  tag_of_row = tagged (plane_tags s);
  made = made (plane_items s) (plane_tags s) (plane_pattern s);
}
