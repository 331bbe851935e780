-- Elimination of the family's rows, computed with less: each row's set is made of the few cards along the lines through its point, and
-- the rows are gone through once.
use Rattle.std.specs.Prelude.{◌≡◌, ◌∷◌, ◌++◌, ◌+◌, ◌-◌, ◌≤◌, ◌<◌, ◌^◌, if◌then◌else◌}
use Rattle.fips197.proofs.Kit.{refl, sym, ap, ◌∙◌, Bool, true, false, List, [], map, ℕ, zero, suc, arith, add-zero, eqb, length, get_or, length-map}
use Rattle.blocks.proofs.Loop.{map_at}
use Rattle.incidence.specs.Count.{listed}
use Rattle.incidence.proofs.Listing.{listed-length}
use Rattle.affine.specs.declared.Course.{Course}
use Rattle.affine.specs.Lines.{points, on_line, affine_items, line_of, is_row, point_of, row_count}
use Rattle.affine.specs.Elimination.{set_of, Remainder, next, remainders}
use Rattle.affine.specs.Affine.{sized, item_set, eliminated}
use Rattle.affine.specs.Walk.{firsts, course_of, place_on, chosen_at, dual, through_count, through_at}
use Rattle.affine.proofs.Listings.{passing, passing_is}
use Rattle.affine.proofs.Walks.{items_through, point_low, point_high, point_row}

-- ---- sets from lists

set_all : List ℕ → ℕ
set_all [] = 0
set_all (x ∷ l) = 2 ^ x + set_all l

set_all_last : (l : List ℕ) (x : ℕ) → set_all (l ++ (x ∷ [])) ≡ set_all l + 2 ^ x
unfolding set_all
set_all_last [] x = omega arith
set_all_last (y ∷ l) x = omega (arith, set_all_last l x)

set_of-listed : (p : ℕ → Bool) (n : ℕ) → set_of p n ≡ set_all (listed p n)
unfolding set_of set_all
set_of-listed p zero = refl
set_of-listed p (suc n) = go (set_of-listed p n) (p (suc n))
  where
    go : set_of p n ≡ set_all (listed p n) → (b : Bool)
        → set_of p n + (if b then 2 ^ suc n else 0) ≡ set_all (if b then listed p n ++ (suc n ∷ []) else listed p n)
    go ih true = omega (arith, ih, set_all_last (listed p n) (suc n))
    go ih false = omega (arith, ih)

-- the set of the first n of f 0, f 1, ..
unfoldable pub set_up : (ℕ → ℕ) → ℕ → ℕ
set_up f zero = 0
set_up f (suc n) = set_up f n + 2 ^ f n

set_up_firsts : (f : ℕ → ℕ) (n : ℕ) → set_all (firsts f n) ≡ set_up f n
unfolding set_all set_up firsts
set_up_firsts f zero = refl
set_up_firsts f (suc n) = omega (arith, set_all_last (firsts f n) (f n), set_up_firsts f n)

-- ---- the sets of the rows

-- the card at place k through point p, with the course of its dual line at hand
unfoldable pub card_along : ℕ → ℕ → ℕ → Course → ℕ → ℕ
card_along s l p C k = if eqb p 1 then k + 1 else (if eqb k 0 then chosen_at s p else l + place_on s C (k - 1) - 1)

unfoldable pub row_set : ℕ → ℕ → ℕ → ℕ
row_set s l p = set_up (card_along s l p (course_of s (dual s p))) (through_count s l p)

-- ---- the rows gone through once

unfoldable pub go_through : ℕ → List Remainder → ℕ → List ℕ → List Remainder
go_through m us i [] = us
go_through m us i (x ∷ xs) = go_through m (next m us i x) (suc i) xs

gone_through : (m : ℕ) (row : ℕ → ℕ) (xs : List ℕ) (n : ℕ) → ((k : ℕ) → k < length xs → get_or xs k 0 ≡ row (suc (n + k)))
    → go_through m (remainders m row n) (suc n) xs ≡ remainders m row (n + length xs)
unfolding go_through remainders
gone_through m row [] n h = ap (remainders m row) (sym (add-zero n))
gone_through m row (x ∷ xs) n h =
    ap (λ (y : ℕ). go_through m (next m (remainders m row n) (suc n) y) (suc (suc n)) xs) this
    ∙ gone_through m row xs (suc n) rest ∙ ap (remainders m row) last
  where
    this : x ≡ row (suc n)
    this = h 0 (omega arith) ∙ ap (λ (y : ℕ). row (suc y)) (add-zero n)

    rest : (k : ℕ) → k < length xs → get_or xs k 0 ≡ row (suc (suc n + k))
    rest k u = let e : n + suc k ≡ suc n + k = omega arith in h (suc k) (omega arith) ∙ ap (λ (y : ℕ). row (suc y)) e

    last : suc n + length xs ≡ n + suc (length xs)
    last = omega arith

unfoldable pub quickly : ℕ → ℕ → List Remainder
quickly s l = go_through (affine_items s l) [] 1 (map (row_set s l) (passing (is_row s l) 1 (points s)))

module _ (s l : ℕ) (size : sized s l ≡ true) where
  row_set_lem : (p : ℕ) → 1 ≤ p → p ≤ points s → is_row s l p ≡ true → row_set s l p ≡ item_set s l p
  unfolding row_set card_along through_at item_set
  row_set_lem p low high row =
      sym (set_up_firsts (through_at s l p) (through_count s l p))
      ∙ ap set_all (sym (items_through s l size p low high row))
      ∙ sym (set_of-listed (λ j. on_line s (line_of s l j) p) (affine_items s l))

  pub quickly_is : quickly s l ≡ eliminated s l
  unfolding quickly eliminated remainders row_count point_of
  quickly_is =
      gone_through (affine_items s l) (λ i. item_set s l (point_of s l i)) sets 0 same
      ∙ ap (remainders (affine_items s l) (λ i. item_set s l (point_of s l i))) count
    where
      pts : List ℕ
      pts = passing (is_row s l) 1 (points s)

      sets : List ℕ
      sets = map (row_set s l) pts

      long : length pts ≡ row_count s l
      long = ap length (passing_is (is_row s l) (points s)) ∙ listed-length (is_row s l) (points s)

      count : 0 + length sets ≡ row_count s l
      count = omega (arith, length-map pts (row_set s l), long)

      same : (k : ℕ) → k < length sets → get_or sets k 0 ≡ item_set s l (point_of s l (suc (0 + k)))
      same k u =
          let e : suc (0 + k) - 1 ≡ k = omega arith in
          let few : suc (0 + k) ≤ row_count s l = omega (arith, count) in
          let low : 1 ≤ suc (0 + k) = omega arith in
          map_at (row_set s l) pts k (omega (arith, length-map pts (row_set s l)))
          ∙ ap (row_set s l) (ap (λ (x : List ℕ). get_or x k 0) (passing_is (is_row s l) (points s)) ∙ ap (λ (x : ℕ). get_or (listed (is_row s l) (points s)) x 0) (sym e))
          ∙ row_set_lem (point_of s l (suc (0 + k))) (point_low s l size _ low few) (point_high s l size _ low few) (point_row s l size _ low few)
