-- The affine family is (l − 2)-disjunct, argued once over s and l: two cards share at most one row, as their lines share at most one point;
-- each card is on at least l − 1 rows, a chosen line by its 2^s points and a line ax + by = 1 by the chosen lines that it meets.
use Rattle.std.specs.Prelude.{◌≡◌, ◌&&◌, ◌+◌, ◌-◌, ◌^◌, ◌≤◌, ◌<◌}
use Rattle.fips197.proofs.Kit.{refl, ap₂, Bool, true, false, not, ℕ, arith, eqb, leb, eqb-true, eqb-false, leb-true, leb-false, not-true}
use Rattle.incidence.specs.Count.{count_up_to}
use Rattle.incidence.specs.Family.{Disjunct}
use Rattle.incidence.proofs.Booleans.{and_left, and_right, and_both}
use Rattle.incidence.proofs.Counting.{inside_yes, count_ext, count_split, any_some}
use Rattle.incidence.proofs.Pigeonhole.{pigeonhole}
use Rattle.affine.specs.Field.{element_inverse}
use Rattle.affine.specs.Lines.{points, on_line, chosen, crossing, affine_items, line_of, is_row, point_of, row_count}
use Rattle.affine.specs.Affine.{sized, affine_family}
use Rattle.affine.proofs.FieldLaws.{Field, field}
use Rattle.affine.proofs.Counts.{count_all, count-listed, count-one, count_into}
use Rattle.affine.proofs.Computing.{sized-offered, sized-low, sized-high}
use Rattle.affine.proofs.Meeting.{point_at, across, of_chosen, of_crossing, share_one_point, point_at_high, chosen-holds, same_place, one_along, meets, one_meets}

module _ (s l : ℕ) (size : sized s l ≡ true) where
  -- what the size says: there is a field, and l runs from 3 to 2^s + 1
  pub F : Field s
  F = field s (sized-offered s l size)

  least : 3 ≤ l
  least = sized-low s l size

  pub most : l ≤ 2 ^ s + 1
  most = sized-high s l size

  -- ---- rows as points

  -- a row holds a card where the card's line holds the row's point
  pub on_point : (i j : ℕ) → 1 ≤ i → i ≤ (affine_family s l).rows → 1 ≤ j → j ≤ (affine_family s l).items
      → (affine_family s l).on i j ≡ on_line s (line_of s l j) (point_of s l i)
  unfolding affine_family
  on_point i j li ui lj uj = rw (inside_yes (row_count s l) i li ui, inside_yes (affine_items s l) j lj uj)

  -- so rows are counted as points of the chosen lines
  count-points : (f : ℕ → Bool) → count_up_to (λ i. f (point_of s l i)) (affine_family s l).rows ≡ count_up_to (λ p. is_row s l p && f p) (points s)
  unfolding affine_family row_count point_of
  count-points f = count-listed f (is_row s l) (points s)

  -- a point of a chosen line is a row
  is_row_lem : (k p : ℕ) → 1 ≤ k → k ≤ l → on_line s (chosen s k) p ≡ true → is_row s l p ≡ true
  unfolding is_row
  is_row_lem k p a b h = any_some (λ k. on_line s (chosen s k) p) l k a b h

  -- "two cards share at most one row" (000, section 6.5: "any two columns have at most one 1-entry in common")
  pub share_one_row : (j k : ℕ) → 1 ≤ j → j ≤ (affine_family s l).items → 1 ≤ k → k ≤ (affine_family s l).items → (k ≡ j → ⊥)
      → count_up_to (λ i. (affine_family s l).on i j && (affine_family s l).on i k) (affine_family s l).rows ≤ 1
  unfolding affine_family
  share_one_row j k lj uj lk uk ne =
      rw (
        count_ext (λ i. (affine_family s l).on i j && (affine_family s l).on i k) (λ i. both (point_of s l i)) (affine_family s l).rows
            (λ i a b. ap₂ ◌&&◌ (on_point i j a b lj uj) (on_point i k a b lk uk)),
        count-points both,
      )
      (count-one (λ p. is_row s l p && both p) (points s)
      (λ p r lp up lr ur h g. one p r lp up lr ur (and_right (is_row s l p) (both p) h) (and_right (is_row s l r) (both r) g)))
    where
      both : ℕ → Bool
      both p = on_line s (line_of s l j) p && on_line s (line_of s l k) p

      one : (p r : ℕ) → 1 ≤ p → p ≤ points s → 1 ≤ r → r ≤ points s → both p ≡ true → both r ≡ true → p ≡ r
      one p r lp up lr ur h g =
          share_one_point s F l most j k lj uj lk uk ne p r lp up lr ur
          (and_left _ _ h) (and_right (on_line s (line_of s l j) p) _ h) (and_left _ _ g) (and_right (on_line s (line_of s l j) r) _ g)

  -- ---- how many rows a card is on

  -- a chosen line's points are all rows
  rows_of_chosen : (j : ℕ) → 1 ≤ j → j ≤ l → 2 ^ s ≤ count_up_to (λ p. is_row s l p && on_line s (chosen s j) p) (points s)
  rows_of_chosen j lj uj =
      omega (
        arith,
        count_all (2 ^ s),
        count_into (λ k. true) (λ k. point_at s (chosen s j) (k - 1)) (2 ^ s) (λ p. is_row s l p && on_line s (chosen s j) p) (points s)
            (λ k a b t. let h : on_line s (chosen s j) (point_at s (chosen s j) (k - 1)) ≡ true = chosen-holds s F j (k - 1) in
            (omega arith, point_at_high s F (chosen s j) (k - 1), and_both (is_row_lem j _ lj uj h) h))
            (λ k i a b c d t r e.
            let z : k - 1 ≡ i - 1 = same_place s F j (k - 1) (i - 1) lj (omega arith) (omega arith) e in
            omega arith),
      )

  -- a line ax + by = 1 meets all chosen lines but at most one
  rows_of_crossing : (n : ℕ) → 0 < n → n < points s → l - 1 ≤ count_up_to (λ p. is_row s l p && on_line s (crossing s n) p) (points s)
  rows_of_crossing n low high =
      omega (
        arith,
        count_all l,
        count_split (λ k. true) along l,
        count-one along l (λ k i a b c d t r. one_along s F n low high k i a (omega (arith, most)) c (omega (arith, most)) (eqb-true _ 0 t) (eqb-true _ 0 r)),
        count_into (λ k. not (along k)) met l (λ p. is_row s l p && on_line s (crossing s n) p) (points s)
            (λ k a b t. (omega arith, met-high k, and_both (is_row_lem k (met k) a b (met-chosen k)) (met-crossing k t)))
            (λ k i a b c d t r e. one_meets s F n k i (met k) a (omega (arith, most)) c (omega (arith, most)) (omega arith) (met-high k)
            (met-crossing k t) (met-chosen k) (rw e (met-chosen i))),
      )
    where
      along : ℕ → Bool
      along k = eqb (across s (crossing s n) (chosen s k)) 0

      met : ℕ → ℕ
      met k = point_at s (chosen s k) (element_inverse s (across s (crossing s n) (chosen s k)))

      met-high : (k : ℕ) → met k ≤ points s
      met-high k = point_at_high s F (chosen s k) (element_inverse s (across s (crossing s n) (chosen s k)))

      met-chosen : (k : ℕ) → on_line s (chosen s k) (met k) ≡ true
      met-chosen k = chosen-holds s F k (element_inverse s (across s (crossing s n) (chosen s k)))

      met-crossing : (k : ℕ) → not (along k) ≡ true → on_line s (crossing s n) (met k) ≡ true
      met-crossing k t = meets s F n (chosen s k) (eqb-false (across s (crossing s n) (chosen s k)) 0 (not-true (along k) t))

  -- "each card is on at least l − 1 rows" (000, section 6.5: "each column has weight at least l − 1")
  pub rows_of_card : (j : ℕ) → 1 ≤ j → j ≤ (affine_family s l).items → l - 1 ≤ count_up_to (λ i. (affine_family s l).on i j) (affine_family s l).rows
  unfolding affine_family affine_items
  rows_of_card j lj uj =
      rw (
        count_ext (λ i. (affine_family s l).on i j) (λ i. on_line s (line_of s l j) (point_of s l i)) (affine_family s l).rows (λ i a b. on_point i j a b lj uj),
        count-points (on_line s (line_of s l j)),
      )
      (go (leb j l) refl)
    where
      go : (t : Bool) → leb j l ≡ t → l - 1 ≤ count_up_to (λ p. is_row s l p && on_line s (line_of s l j) p) (points s)
      go true e = rw (of_chosen s l j e) (omega (arith, most, rows_of_chosen j lj (leb-true j l e)))
      go false e =
          let u : l < j = leb-false j l e in
          rw (of_crossing s l j e) (rows_of_crossing (j - l) (omega arith) (omega arith))

  -- hence (l − 2)-disjunct, by the pigeonhole
  pub disjunct : Disjunct (affine_family s l) (affine_family s l).limit
  unfolding affine_family
  disjunct = pigeonhole (affine_family s l) (l - 2) (λ j a b. omega (arith, least, rows_of_card j a b)) share_one_row
