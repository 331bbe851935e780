-- What the functions of the tables and the walks ask of each other; no contract that another crate relies on cites it. Assumes nothing.
use Rattle.std.specs.Prelude.{◌≡◌, Bool, true, ◌&&◌, List, [], ◌∷◌, ◌++◌, ℕ, ◌+◌, ◌-◌, ◌≤◌, ltb, leb, if◌then◌else◌}
use Rattle.incidence.specs.Family.{items_of, tags_of}
use Rattle.plane.specs.Table.{plane_items, differences}
use Rattle.plane.specs.Plane.{many, plane}

-- lists one after the other
abbrev pub joined : List (List ℕ) → List ℕ
joined [] = []
joined (l ∷ ls) = l ++ joined ls

-- the list rises from above b
abbrev pub above : ℕ → List ℕ → Bool
above b [] = true
above b (e ∷ D) = ltb b e && above e D

-- the plane of s has row i, D is its difference list, and the differences from place `turn` on lead past m
pub record Walk (s i : ℕ) (D : List ℕ) (turn : ℕ) : Type 0 where
  pub low : 1 ≤ i
  pub high : i ≤ plane_items s
  pub list : D ≡ differences s
  pub place : turn ≡ many (λ e. leb e (plane_items s - i)) D

-- the items of row i or, back, the tags of the item that stands as far from the end
unfoldable pub along : ℕ → ℕ → Bool → List ℕ
along s i back = if back then tags_of (plane s) (plane_items s + 1 - i) else items_of (plane s) i
