-- The code's tables are the definitions' lists. A table is tested at each of the five places of a column; past the end both are empty.
use Rattle.std.specs.Prelude.{◌≡◌, ◌&&◌, ◌∷◌, ◌+◌, ◌-◌, ◌≤◌, ◌<◌}
use Rattle.fips197.proofs.Kit.{refl, sym, ap, ◌∙◌, subst, Bool, true, false, List, [], ℕ, zero, suc, arith, eqb, ltb, leb, length, get_or, take, drop, List·getD-eq-default, ltb-true, ltb-false, leb-true, eqb-true}
use Rattle.blocks.specs.Block.{same}
use Rattle.blocks.proofs.Xor.{same_true}
use Rattle.incidence.proofs.Booleans.{and_left, and_right}
use Rattle.incidence.proofs.Counting.{every, every_at}
use Rattle.plane.specs.Table.{item_counts, plane_items, tag_counts, plane_tags, limits, plane_limit, difference_lists, differences, pattern_lists, plane_pattern}
use Rattle.plane.specs.Walk.{joined}

-- below five or not
pub five : {A : Type 0} (s : ℕ) → (s < 5 → A) → (5 ≤ s → A) → A
five {A} s f g = go (ltb s 5) refl
  where
    go : (b : Bool) → ltb s 5 ≡ b → A
    go true e = f (ltb-true s 5 e)
    go false e = g (ltb-false s 5 e)

-- a column of five entries is f, where f is 0 past them
column_is : (l : List ℕ) (f : ℕ → ℕ) → length l ≡ 5 → ((s : ℕ) → 5 ≤ s → f s ≡ 0) → every (λ s. eqb (get_or l s 0) (f s)) 5 ≡ true
    → (s : ℕ) → get_or l s 0 ≡ f s
column_is l f n past test s =
    five s (λ u. eqb-true (get_or l s 0) (f s) (every_at (λ s. eqb (get_or l s 0) (f s)) 5 test s u))
    (λ u. List·getD-eq-default l 0 (omega arith) ∙ sym (past s u))

-- the lists f 0 to f 4 stand in one list of n entries, each from its start on
module _ (flat start : List ℕ) (n : ℕ) (f : ℕ → List ℕ) where
  part_test : ℕ → Bool
  part_test s = same (take (length (f s)) (drop (get_or start s 0) flat)) (f s) && leb (get_or start s 0 + length (f s)) n

  module _ (five-starts : length start ≡ 5) (past : (s : ℕ) → 5 ≤ s → f s ≡ []) (test : every part_test 5 ≡ true) (s : ℕ) where
    part_end : get_or start s 0 + length (f s) ≤ n
    unfolding part_test
    part_end =
        five s (λ u. leb-true _ n (and_right (same (take (length (f s)) (drop (get_or start s 0) flat)) (f s)) _ (every_at part_test 5 test s u)))
        (λ u. let b : length start ≤ s = omega arith in omega (arith, List·getD-eq-default start 0 b, ap length (past s u)))

    part_is : take (length (f s)) (drop (get_or start s 0) flat) ≡ f s
    unfolding part_test
    part_is =
        five s (λ u. same_true _ (f s) (and_left (same (take (length (f s)) (drop (get_or start s 0) flat)) (f s)) _ (every_at part_test 5 test s u)))
        (λ u. rw (past s u))

    -- as the code takes it of a copy
    module _ {at k : ℕ} {all : List ℕ} (a : at ≡ get_or start s 0) (c : k ≡ length (f s)) (e : all ≡ flat) where
      taken_room : n ≤ length flat → at + k ≤ length all
      taken_room h = omega (arith, part_end, ap length e)

      taken_part : {r : List ℕ} → r ≡ take (at + k - at) (drop at all) → r ≡ f s
      taken_part q = let size : at + k - at ≡ length (f s) = omega arith in rw (q, e, size, a) part_is

-- ---- the tables

-- the lists one after the other, as the code has them
unfoldable pub difference_table : List ℕ
difference_table = joined difference_lists

unfoldable pub pattern_table : List ℕ
pattern_table = joined pattern_lists

abbrev pub difference_starts : List ℕ
difference_starts = 0 ∷ 0 ∷ 3 ∷ 8 ∷ 17 ∷ []

abbrev pub pattern_starts : List ℕ
pattern_starts = 0 ∷ 0 ∷ 3 ∷ 8 ∷ 23 ∷ []

pub no_differences : (s : ℕ) → 5 ≤ s → differences s ≡ []
unfolding differences difference_lists
no_differences s h = List·getD-eq-default difference_lists [] h

pub no_pattern : (s : ℕ) → 5 ≤ s → plane_pattern s ≡ []
unfolding plane_pattern pattern_lists
no_pattern s h = List·getD-eq-default pattern_lists [] h

pub difference_count : (s : ℕ) → get_or (0 ∷ 3 ∷ 5 ∷ 9 ∷ 17 ∷ []) s 0 ≡ length (differences s)
unfolding differences difference_lists
difference_count = column_is (0 ∷ 3 ∷ 5 ∷ 9 ∷ 17 ∷ []) (λ s. length (differences s)) refl (λ s h. ap length (no_differences s h)) refl

pub pattern_count : (s : ℕ) → get_or (0 ∷ 3 ∷ 5 ∷ 15 ∷ 35 ∷ []) s 0 ≡ length (plane_pattern s)
unfolding plane_pattern pattern_lists
pattern_count = column_is (0 ∷ 3 ∷ 5 ∷ 15 ∷ 35 ∷ []) (λ s. length (plane_pattern s)) refl (λ s h. ap length (no_pattern s h)) refl

differences_test : every (part_test difference_table difference_starts 34 differences) 5 ≡ true
unfolding part_test same differences difference_lists difference_table
differences_test = refl

patterns_test : every (part_test pattern_table pattern_starts 58 plane_pattern) 5 ≡ true
unfolding part_test same plane_pattern pattern_lists pattern_table
patterns_test = refl

-- a plane's part of each table
module _ (s : ℕ) {at n : ℕ} (a : at ≡ get_or difference_starts s 0) (c : n ≡ get_or (0 ∷ 3 ∷ 5 ∷ 9 ∷ 17 ∷ []) s 0) where
  pub difference_end : at + n ≤ 34
  difference_end = omega (arith, difference_count s, part_end difference_table difference_starts 34 differences refl no_differences differences_test s)

  module _ {all : List ℕ} (e : all ≡ difference_table) where
    pub difference_room : at + n ≤ length all
    unfolding difference_table difference_lists
    difference_room = taken_room difference_table difference_starts 34 differences refl no_differences differences_test s a (c ∙ difference_count s) e (omega arith)

    pub difference_part : {r : List ℕ} → r ≡ take (at + n - at) (drop at all) → r ≡ differences s
    difference_part = taken_part difference_table difference_starts 34 differences refl no_differences differences_test s a (c ∙ difference_count s) e

module _ (s : ℕ) {at n : ℕ} (a : at ≡ get_or pattern_starts s 0) (c : n ≡ get_or (0 ∷ 3 ∷ 5 ∷ 15 ∷ 35 ∷ []) s 0) where
  pub pattern_end : at + n ≤ 58
  pattern_end = omega (arith, pattern_count s, part_end pattern_table pattern_starts 58 plane_pattern refl no_pattern patterns_test s)

  module _ {all : List ℕ} (e : all ≡ pattern_table) where
    pub pattern_room : at + n ≤ length all
    unfolding pattern_table pattern_lists
    pattern_room = taken_room pattern_table pattern_starts 58 plane_pattern refl no_pattern patterns_test s a (c ∙ pattern_count s) e (omega arith)

    pub pattern_part : {r : List ℕ} → r ≡ take (at + n - at) (drop at all) → r ≡ plane_pattern s
    pattern_part = taken_part pattern_table pattern_starts 58 plane_pattern refl no_pattern patterns_test s a (c ∙ pattern_count s) e

-- ---- how large the numbers are

most : ℕ → List ℕ → Bool
most b [] = true
most b (x ∷ l) = leb x b && most b l

get_d_most : (b : ℕ) (l : List ℕ) → most b l ≡ true → (k : ℕ) → get_or l k 0 ≤ b
unfolding most
get_d_most b [] h k = omega arith
get_d_most b (x ∷ l) h zero = leb-true x b (and_left (leb x b) (most b l) h)
get_d_most b (x ∷ l) h (suc k) = get_d_most b l (and_right (leb x b) (most b l) h) k

pub items-most : (s : ℕ) → plane_items s ≤ 273
unfolding plane_items item_counts most
items-most = get_d_most 273 item_counts refl

pub differences_few : (s : ℕ) → length (differences s) ≤ 17
unfolding most
differences_few s = omega (arith, difference_count s, get_d_most 17 (0 ∷ 3 ∷ 5 ∷ 9 ∷ 17 ∷ []) refl s)

pub pattern_few : (s : ℕ) → length (plane_pattern s) ≤ 35
unfolding most
pattern_few s = omega (arith, pattern_count s, get_d_most 35 (0 ∷ 3 ∷ 5 ∷ 15 ∷ 35 ∷ []) refl s)

pub tags-most : (s : ℕ) → plane_tags s ≤ 82
unfolding plane_tags tag_counts most
tags-most = get_d_most 82 tag_counts refl

pub limit-most : (s : ℕ) → plane_limit s ≤ 273
unfolding plane_limit limits most
limit-most = get_d_most 273 limits refl

pub limit-least : (s : ℕ) → 1 ≤ s → s ≤ 4 → 2 ≤ plane_limit s
unfolding plane_limit limits
limit-least s l u =
    let e : suc (s - 1) ≡ s = omega arith in
    subst (λ (x : ℕ). 2 ≤ plane_limit x) e (leb-true 2 (plane_limit (suc (s - 1))) (every_at (λ k. leb 2 (plane_limit (suc k))) 4 refl (s - 1) (omega arith)))

-- past the columns there is nothing
pub no_items : (s : ℕ) → 5 ≤ s → plane_items s ≡ 0
unfolding plane_items item_counts
no_items s h = List·getD-eq-default item_counts 0 h

pub no_tags : (s : ℕ) → 5 ≤ s → plane_tags s ≡ 0
unfolding plane_tags tag_counts
no_tags s h = List·getD-eq-default tag_counts 0 h

pub no_limit : (s : ℕ) → 5 ≤ s → plane_limit s ≡ 0
unfolding plane_limit limits
no_limit s h = List·getD-eq-default limits 0 h

-- there are items only where s is 1 to 4
pub some_low : (s : ℕ) → 1 ≤ plane_items s → 1 ≤ s
unfolding plane_items item_counts
some_low zero h = h
some_low (suc s) h = omega arith

pub some_high : (s : ℕ) → 1 ≤ plane_items s → s ≤ 4
some_high s h = five s (λ u. omega arith) (λ u. absurd (omega (arith, no_items s u)))
