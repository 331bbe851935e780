-- Document 02, 2.7: the affine family (000, section 6.5). Assumes nothing.
use Rattle.std.specs.Prelude.{◌≡◌, Bool, not, ◌&&◌, ◌↔◌, List, [], ◌∷◌, ℕ, ◌+◌, ◌-◌, ◌^◌, ◌≤◌, ◌<◌, eqb, leb, get_or, if◌then◌else◌}
use Rattle.incidence.specs.Count.{count_up_to, listed, inside}
use Rattle.incidence.specs.Family.{Family, Earlier, parity}
use Rattle.affine.specs.Field.{offered}
use Rattle.affine.specs.Lines.{on_line, affine_items, line_of, row_count, point_of}
use Rattle.affine.specs.Elimination.{has, set_of, Remainder, nothing, remainders}

-- "s = 2 and 3", "The parameter l runs from 3 to 2^s+1"
unfoldable pub sized : ℕ → ℕ → Bool
sized s l = offered s && (leb 3 l && leb l (2 ^ s + 1))

module _ (s l : ℕ) where
  -- the cards whose lines hold point p
  unfoldable pub item_set : ℕ → ℕ
  item_set p = set_of (λ j. on_line s (line_of s l j) p) (affine_items s l)

  -- what elimination leaves of each row
  unfoldable pub eliminated : List Remainder
  eliminated = remainders (affine_items s l) (λ i. item_set (point_of s l i)) (row_count s l)

  -- and of row i
  unfoldable pub remainder : ℕ → Remainder
  remainder i = get_or eliminated (i - 1) nothing

  -- "Tags go to each row that isn't a sum of earlier rows": where something is left
  unfoldable pub is_tagged : ℕ → Bool
  is_tagged i = inside (row_count s l) i && not (eqb (remainder i).last 0)

  -- "The tags stand in row order, and tag i of them, from 1, takes mask i. The limit is l−2."
  unfoldable pub affine_family : Family
  affine_family = record {
    items = affine_items s l;
    rows = row_count s l;
    tags = count_up_to is_tagged (row_count s l);
    limit = l - 2;
    on = λ i j. (inside (row_count s l) i && inside (affine_items s l) j) && on_line s (line_of s l j) (point_of s l i);
    row_of_tag = λ k. get_or (listed is_tagged (row_count s l)) (k - 1) 0;
    tag_of_row = λ i. if is_tagged i then count_up_to is_tagged i else 0;
    made = λ i. if inside (row_count s l) i && not (is_tagged i) then listed (λ a. has a (remainder i).left.rows) (i - 1) else [];
  }

-- row i of a family is a sum of earlier rows: those listed
pub record SumOfEarlier (F : Family) (i : ℕ) : Type 0 where
  pub earlier_rows : List ℕ
  pub earlier : Earlier i earlier_rows
  pub adds_up : (j : ℕ) → 1 ≤ j → j ≤ F.items → F.on i j ≡ parity (λ a. F.on a j) earlier_rows

-- "Tags go to each row that isn't a sum of earlier rows", and to no other; "The tags stand in row order"
pub record TagsByRule (F : Family) : Type 0 where
  pub exact : (i : ℕ) → 1 ≤ i → i ≤ F.rows → (1 ≤ F.tag_of_row i) ↔ (SumOfEarlier F i → ⊥)
  pub in_order : (k n : ℕ) → 1 ≤ k → k < n → n ≤ F.tags → F.row_of_tag k < F.row_of_tag n

-- "Tags for s = 2 number 8, 9, 9; for s = 3 they number 19, 23, 24, 25, 26, 27, 27.": by s and l
unfoldable pub tag_numbers : ℕ → ℕ → ℕ
tag_numbers s l = if eqb s 2 then get_or (8 ∷ 9 ∷ 9 ∷ []) (l - 3) 0 else get_or (19 ∷ 23 ∷ 24 ∷ 25 ∷ 26 ∷ 27 ∷ 27 ∷ []) (l - 3) 0
