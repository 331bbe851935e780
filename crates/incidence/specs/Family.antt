-- A family of rows (000, sections 2.1 and 4.3): the extended test matrix, its disjunctness, the tagged rows, how the others are made of
-- them, and what a projective plane has besides. Everything above the planes and the affine sizes speaks of these names alone. Assumes
-- nothing.
use Rattle.std.specs.Prelude.{◌≡◌, Bool, true, false, not, ◌&&◌, ◌||◌, List, [], ◌∷◌, ℕ, ◌+◌, ◌≤◌, ◌<◌}
use Rattle.std.specs.Bool.{xor}
use Rattle.incidence.specs.Count.{count_up_to, any_up_to, all_up_to, listed}

-- 000, 4.3: the matrix with its extension rule. Items, rows and tags are numbered from 1.
pub record Family : Type 0 where
  -- how many items there are (document 01: cards m), rows (000: v) and tags (t), and the disjunctness (document 01: limit d)
  pub items : ℕ
  pub rows : ℕ
  pub tags : ℕ
  pub limit : ℕ
  -- whether row i holds item j
  pub on : ℕ → ℕ → Bool
  -- the row that tag k is of, and the tag of row i, 0 where it has none
  pub row_of_tag : ℕ → ℕ
  pub tag_of_row : ℕ → ℕ
  -- for a row without a tag, earlier rows whose XOR it is
  pub made : ℕ → List ℕ

-- the rows that hold item j, and the items that row i holds, rising
unfoldable pub rows_of : Family → ℕ → List ℕ
rows_of F j = listed (λ i. F.on i j) F.rows

unfoldable pub items_of : Family → ℕ → List ℕ
items_of F i = listed (F.on i) F.items

-- the tags whose rows hold item j, rising
unfoldable pub tags_of : Family → ℕ → List ℕ
tags_of F j = listed (λ k. F.on (F.row_of_tag k) j) F.tags

-- how many rows hold item j (document 02, 2.14: "the rows through that card")
abbrev pub rows_through : Family → ℕ → ℕ
rows_through F j = count_up_to (λ i. F.on i j) F.rows

-- whether row i holds one of the items 1 to n of a set, and how many rows do
abbrev pub holds_one : Family → (ℕ → Bool) → ℕ → ℕ → Bool
holds_one F set n i = any_up_to (λ j. F.on i j && set j) n

abbrev pub rows_holding : Family → (ℕ → Bool) → ℕ → ℕ
rows_holding F set n = count_up_to (holds_one F set n) F.rows

-- 000, 2.1: whether the items 1 to n of a set cover item j: each row through it holds one of them
unfoldable pub covered : Family → (ℕ → Bool) → ℕ → ℕ → Bool
covered F set n j = all_up_to (λ i. not (F.on i j) || holds_one F set n i) F.rows

-- a row that holds item j and no item of the set
pub record Separates (F : Family) (set : ℕ → Bool) (j : ℕ) : Type 0 where
  pub row : ℕ
  pub low : 1 ≤ row
  pub high : row ≤ F.rows
  pub holds : F.on row j ≡ true
  pub spares : (k : ℕ) → 1 ≤ k → k ≤ F.items → set k ≡ true → F.on row k ≡ false

-- 000, 2.1: d-disjunct. For any d or fewer items and another one, some row holds that one and none of them.
abbrev pub Disjunct : Family → ℕ → Type 0
Disjunct F d =
    (set : ℕ → Bool) → count_up_to set F.items ≤ d → (j : ℕ) → 1 ≤ j → j ≤ F.items → set j ≡ false → Separates F set j

-- the rows listed come before row i
abbrev pub Earlier : ℕ → List ℕ → Type 0
Earlier i [] = Unit {0}
Earlier i (a ∷ rest) = (1 ≤ a) × (a < i) × Earlier i rest

-- whether an odd number of the rows listed pass
unfoldable pub parity : (ℕ → Bool) → List ℕ → Bool
parity p [] = false
parity p (a ∷ rest) = xor (p a) (parity p rest)

-- what tagging and reporting rest on
pub record Lawful (F : Family) : Type 0 where
  pub disjunct : Disjunct F F.limit
  -- each tag is of a row, and that row's tag
  pub row_low : (k : ℕ) → 1 ≤ k → k ≤ F.tags → 1 ≤ F.row_of_tag k
  pub row-high : (k : ℕ) → 1 ≤ k → k ≤ F.tags → F.row_of_tag k ≤ F.rows
  pub tag_back : (k : ℕ) → 1 ≤ k → k ≤ F.tags → F.tag_of_row (F.row_of_tag k) ≡ k
  pub tag_high : (i : ℕ) → 1 ≤ i → i ≤ F.rows → F.tag_of_row i ≤ F.tags
  pub row_back : (i : ℕ) → 1 ≤ i → i ≤ F.rows → 1 ≤ F.tag_of_row i → F.row_of_tag (F.tag_of_row i) ≡ i
  -- a row without a tag is the XOR of the earlier rows that it is made of: it holds the items that an odd number of them hold
  pub earlier : (i : ℕ) → 1 ≤ i → i ≤ F.rows → F.tag_of_row i ≡ 0 → Earlier i (F.made i)
  pub adds_up : (i j : ℕ) → 1 ≤ i → i ≤ F.rows → F.tag_of_row i ≡ 0 → 1 ≤ j → j ≤ F.items → F.on i j ≡ parity (λ a. F.on a j) (F.made i)

-- what a projective plane has besides (000, section 6.4): "a card is on d+1 rows" (document 01), and "two different places share exactly
-- one row" (document 02, 2.2)
pub record Projective (F : Family) : Type 0 where
  pub weight : (j : ℕ) → 1 ≤ j → j ≤ F.items → rows_through F j ≡ F.limit + 1
  pub meet : (j k : ℕ) → 1 ≤ j → j ≤ F.items → 1 ≤ k → k ≤ F.items → (k ≡ j → ⊥) → count_up_to (λ i. F.on i j && F.on i k) F.rows ≡ 1
