-- The code's tables are what the definitions give, for each of the ten sizes: one test over each table. The tests go through the lists once;
-- the laws before them say that this gives what the definitions say of each place.
use Rattle.std.specs.Prelude.{◌≡◌, ◌&&◌, ◌∷◌, ◌+◌, ◌-◌, ◌*◌, ◌/◌, ◌%◌, ◌^◌, ◌≤◌, ◌<◌, if◌then◌else◌}
use Rattle.fips197.proofs.Kit.{refl, sym, ap, ap₂, ◌∙◌, subst, Bool, true, false, true≢false, not, List, [], map, ℕ, zero, suc, arith, add-zero, zero-add, eqb, leb, eqb-true, eqb-false, leb-true, length, get_or, take, drop, not-true, get_or-take, get_or-drop, drop-drop, length-map, length-take, length-drop}
use Rattle.blocks.proofs.Loop.{map_at}
use Rattle.incidence.specs.Count.{indicator, count_up_to, listed}
use Rattle.incidence.proofs.Booleans.{and_left, and_right}
use Rattle.incidence.proofs.Counting.{every, every_at, count_ext, count_most, count_up}
use Rattle.incidence.proofs.Listing.{listed-length}
use Rattle.affine.specs.Field.{polynomial, element_times_x, product_over, product, element_power, element_inverse}
use Rattle.affine.specs.Lines.{points, x_of, y_of, on_line, chosen, affine_items, is_row, point_of, row_count}
use Rattle.affine.specs.Affine.{sized, item_set, eliminated, remainder, is_tagged, affine_family, tag_numbers}
use Rattle.affine.specs.Walk.{course_of, place_on, chosen_at, dual, through_count, size_index, entry_of, wide_entry_of, past_lists, MadeIn}
use Rattle.affine.specs.Elimination.{has, greatest, Remainder, nothing, add, reduced, reduced_by, remainder_of, next}
use Rattle.affine.proofs.Tagging.{tagged_yes, tagged_no, made_is, made_none}
use Rattle.affine.proofs.Listings.{passing, passing_is}
use Rattle.affine.proofs.Walks.{row_at, tag_at}
use Rattle.affine.proofs.Eliminating.{remainders-length}
use Rattle.affine.proofs.Eliminated.{set_up, card_along, row_set, go_through, quickly, quickly_is}
use Rattle.affine.proofs.Computing.{of_both, points_few, sized-offered, sized-low, sized-high}

-- ---- the ten sizes

-- whether each of them passes
abbrev pub sizes_test : (ℕ → ℕ → Bool) → Bool
sizes_test f = every (λ k. f 2 (k + 3)) 3 && every (λ k. f 3 (k + 3)) 7

module _ (s l : ℕ) (size : sized s l ≡ true) where
  pub sizes_at : (f : ℕ → ℕ → Bool) → sizes_test f ≡ true → f s l ≡ true
  sizes_at f h =
      of_both (λ s. l ≤ 2 ^ s + 1 → f s l ≡ true)
      (λ u. here 2 3 (and_left (every (λ k. f 2 (k + 3)) 3) _ h) (omega arith))
      (λ u. here 3 7 (and_right (every (λ k. f 2 (k + 3)) 3) _ h) (omega arith)) s (sized-offered s l size) (sized-high s l size)
    where
      back : l - 3 + 3 ≡ l
      back = omega (arith, sized-low s l size)

      here : (a n : ℕ) → every (λ k. f a (k + 3)) n ≡ true → l - 3 < n → f a l ≡ true
      here a n t u = subst (λ (x : ℕ). f a x ≡ true) back (every_at (λ k. f a (k + 3)) n t (l - 3) u)

  pub index_high : size_index s l ≤ 9
  unfolding size_index
  index_high =
      of_both (λ s. l ≤ 2 ^ s + 1 → (if eqb s 2 then l - 3 else l) ≤ 9) (λ u. omega arith) (λ u. omega arith) s (sized-offered s l size) (sized-high s l size)

-- ---- a list for each size, 64 places a size

-- whether a table begins with a list
unfoldable pub begins : List ℕ → List ℕ → Bool
begins T [] = true
begins [] (x ∷ l) = false
begins (y ∷ T) (x ∷ l) = eqb y x && begins T l

begins_is : (T l : List ℕ) → begins T l ≡ true → take (length l) T ≡ l
unfolding begins
begins_is T [] h = refl
begins_is [] (x ∷ l) h = absurd (true≢false (sym h))
begins_is (y ∷ T) (x ∷ l) h = ap₂ ◌∷◌ (eqb-true y x (and_left (eqb y x) _ h)) (begins_is T l (and_right (eqb y x) _ h))

begins_at : (T l : List ℕ) → begins T l ≡ true → (k : ℕ) → k < length l → get_or T k 0 ≡ get_or l k 0
begins_at T l h k u = sym (get_or-take (length l) T k 0 u) ∙ ap (λ (x : List ℕ). get_or x k 0) (begins_is T l h)

module _ (T : List ℕ) (L : ℕ → ℕ → List ℕ) where
  unfoldable pub part_test : ℕ → ℕ → Bool
  part_test s l = begins (drop (64 * size_index s l) T) (L s l)

  part_at : sizes_test part_test ≡ true → (s l : ℕ) → sized s l ≡ true → (k : ℕ) → k < length (L s l) → get_or T (64 * size_index s l + k) 0 ≡ get_or (L s l) k 0
  unfolding part_test
  part_at h s l size k u =
      sym (get_or-drop (64 * size_index s l) T k 0) ∙ begins_at (drop (64 * size_index s l) T) (L s l) (sizes_at s l size part_test h) k u

-- ---- rows and points

-- for each of n numbers from a on, how many up to it pass, where c do before, or 0 where it does not itself
unfoldable pub ranks : (ℕ → Bool) → ℕ → ℕ → ℕ → List ℕ
ranks f a zero c = []
ranks f a (suc n) c = (if f a then c + 1 else 0) ∷ ranks f (suc a) n (c + indicator (f a))

ranks_length : (f : ℕ → Bool) (a n c : ℕ) → length (ranks f a n c) ≡ n
unfolding ranks
ranks_length f a zero c = refl
ranks_length f a (suc n) c = ap suc (ranks_length f (suc a) n (c + indicator (f a)))

ranks_at : (f : ℕ → Bool) (n a k : ℕ) → k < n → get_or (ranks f (suc a) n (count_up_to f a)) k 0 ≡ (if f (suc a + k) then count_up_to f (suc a + k) else 0)
unfolding ranks
ranks_at f zero a k h = absurd (omega arith)
ranks_at f (suc n) a zero h = rw (add-zero (suc a)) (go (f (suc a)) refl)
  where
    go : (b : Bool) → f (suc a) ≡ b → (if b then count_up_to f a + 1 else 0) ≡ (if b then count_up_to f a + indicator (f (suc a)) else 0)
    go true e = ap (λ (x : Bool). count_up_to f a + indicator x) (sym e)
    go false e = refl
ranks_at f (suc n) a (suc k) h =
    let z : suc a + suc k ≡ suc (suc a) + k = omega arith in
    ranks_at f n (suc a) k (omega arith) ∙ ap (λ (x : ℕ). if f x then count_up_to f x else 0) (sym z)

-- the point of each row
unfoldable pub point_list : ℕ → ℕ → List ℕ
point_list s l = passing (is_row s l) 1 (points s)

unfoldable pub points_test : List ℕ → Bool
points_test T = sizes_test (part_test T point_list)

-- "l(2^s − 1) + 1" rows (000, section 6.5)
count_test : ℕ → ℕ → Bool
count_test s l = eqb (row_count s l) (l * (2 ^ s - 1) + 1)

counts_tested : sizes_test count_test ≡ true
unfolding count_test row_count points x_of y_of on_line chosen is_row polynomial element_times_x product_over product
counts_tested = refl

module _ (s l : ℕ) (size : sized s l ≡ true) where
  pub row_count_lem : row_count s l ≡ l * (2 ^ s - 1) + 1
  unfolding count_test
  row_count_lem = eqb-true (row_count s l) (l * (2 ^ s - 1) + 1) (sizes_at s l size count_test counts_tested)

  -- what is read at a place of the table of points
  pub point_read : (T : List ℕ) (z : ℕ) {r i : ℕ} → r ≡ entry_of T z → z ≡ 64 * size_index s l + (i - 1) → 1 ≤ i → i ≤ row_count s l → points_test T ≡ true → r ≡ point_of s l i
  unfolding points_test point_list point_of row_count entry_of
  point_read T z {r} {i} e at low high h =
      e ∙ ap (λ (x : ℕ). get_or T x 0) at
      ∙ part_at T point_list h s l size (i - 1) (omega (arith, listed-length (is_row s l) (points s), ap length (passing_is (is_row s l) (points s))))
      ∙ ap (λ (x : List ℕ). get_or x (i - 1) 0) (passing_is (is_row s l) (points s))

  pub rows-high : row_count s l ≤ 64
  unfolding row_count
  rows-high = omega (arith, count_most (is_row s l) (points s), (points_few s (sized-offered s l size)).1)

-- ---- tags and made rows

-- what f gives for each row from number i + 1 on, of which elimination left these
unfoldable pub gone : {A : Type 0} → (ℕ → Remainder → A) → ℕ → List Remainder → List A
gone f i [] = []
gone f i (u ∷ us) = f i u ∷ gone f (suc i) us

gone_at : {A : Type 0} (f : ℕ → Remainder → A) (d : A) (us : List Remainder) (i k : ℕ) → k < length us → get_or (gone f i us) k d ≡ f (i + k) (get_or us k nothing)
unfolding gone
gone_at f d [] i k h = absurd (omega arith)
gone_at f d (u ∷ us) i zero h = ap (λ (x : ℕ). f x u) (sym (add-zero i))
gone_at f d (u ∷ us) i (suc k) h =
    let z : suc i + k ≡ i + suc k = omega arith in
    gone_at f d us (suc i) k (omega arith) ∙ ap (λ (x : ℕ). f x (get_or us k nothing)) z

-- a list with its length in front
abbrev counted : List ℕ → List ℕ
counted M = length M ∷ M

-- the rows that row i + 1 is made of
unfoldable pub made_left : ℕ → Remainder → List ℕ
made_left i u = elim (eqb u.last 0) [ true ↦ counted (passing (λ a. has a u.left.rows) 1 i) | false ↦ 0 ∷ [] ]

-- whether its tag is as a set says, and these rows are few
row_test : ℕ → ℕ → Remainder → Bool
row_test set i u =
    elim (eqb u.last 0) [
      | true ↦ not (has (suc i) set) && leb (length (passing (λ a. has a u.left.rows) 1 i)) 35
      | false ↦ has (suc i) set
    ]

all : List Bool → Bool
all [] = true
all (b ∷ bs) = b && all bs

all_at : (bs : List Bool) → all bs ≡ true → (k : ℕ) → get_or bs k true ≡ true
unfolding all
all_at [] h k = refl
all_at (b ∷ bs) h zero = and_left b (all bs) h
all_at (b ∷ bs) h (suc k) = all_at bs (and_right b (all bs) h) k

-- the tagged rows of each size, as a set; elimination finds the same
unfoldable pub tag_set : ℕ → ℕ → ℕ
tag_set s l =
    get_or (766 ∷ 2558 ∷ 8958 ∷ 2883582 ∷ 155189246 ∷ 9164554238 ∷ 567497457662 ∷ 35742884036606 ∷ 2269530639302654 ∷ 144680346417299454 ∷ []) (size_index s l) 0

left_test : ℕ → ℕ → Bool
left_test s l = all (gone (row_test (tag_set s l)) 0 (quickly s l))

left_tested : sizes_test left_test ≡ true
unfolding left_test all row_test tag_set size_index gone made_left passing set_up card_along row_set go_through quickly course_of place_on chosen_at dual through_count points x_of y_of on_line chosen affine_items is_row polynomial element_times_x product_over product element_power element_inverse has greatest add reduced reduced_by remainder_of next
left_tested = refl

module _ (s l : ℕ) (size : sized s l ≡ true) where
  gone_row : {A : Type 0} (f : ℕ → Remainder → A) (d : A) (i : ℕ) → suc i ≤ row_count s l → get_or (gone f 0 (quickly s l)) i d ≡ f i (remainder s l (suc i))
  unfolding remainder eliminated
  gone_row f d i ui =
      let long : length {A = Remainder} (eliminated s l) ≡ row_count s l =
      remainders-length (affine_items s l) (λ i. item_set s l (point_of s l i)) (row_count s l) in
      let z : i ≡ suc i - 1 = omega arith in
      ap (λ (x : List Remainder). get_or (gone f 0 x) i d) (quickly_is s l size)
      ∙ gone_at f d (eliminated s l) 0 i (omega (arith, long))
      ∙ ap₂ (λ (x y : ℕ). f x (get_or (eliminated s l) y nothing)) (zero-add i) z

  module _ (i : ℕ) (ui : suc i ≤ row_count s l) where
    -- by whether something is left: the row is tagged, and made of none; or it is not, and is made of those that elimination found
    untagged : eqb (remainder s l (suc i)).last 0 ≡ true → is_tagged s l (suc i) ≡ false
    untagged e = tagged_no s l (suc i) (omega arith) ui (eqb-true _ 0 e)

    tagged : eqb (remainder s l (suc i)).last 0 ≡ false → is_tagged s l (suc i) ≡ true
    tagged e = tagged_yes s l (suc i) (omega arith) ui (eqb-false _ 0 e)

    found : eqb (remainder s l (suc i)).last 0 ≡ true → passing (λ a. has a (remainder s l (suc i)).left.rows) 1 i ≡ (affine_family s l).made (suc i)
    found e =
        let z : i ≡ suc i - 1 = omega arith in
        passing_is (λ a. has a (remainder s l (suc i)).left.rows) i
        ∙ ap (listed (λ a. has a (remainder s l (suc i)).left.rows)) z
        ∙ sym (made_is s l (suc i) (omega arith) ui (untagged e))

    none : eqb (remainder s l (suc i)).last 0 ≡ false → (affine_family s l).made (suc i) ≡ []
    none e = made_none s l (suc i) (omega arith) ui (tagged e)

    made_row : get_or (gone made_left 0 (quickly s l)) i [] ≡ counted ((affine_family s l).made (suc i))
    unfolding made_left
    made_row = gone_row made_left [] i ui ∙ go (eqb (remainder s l (suc i)).last 0) refl
      where
        go : (b : Bool) → eqb (remainder s l (suc i)).last 0 ≡ b
            → elim b [ true ↦ counted (passing (λ a. has a (remainder s l (suc i)).left.rows) 1 i) | false ↦ 0 ∷ [] ] ≡ counted ((affine_family s l).made (suc i))
        go true e = ap counted (found e)
        go false e = ap counted (sym (none e))

    row_tested : row_test (tag_set s l) i (remainder s l (suc i)) ≡ true
    unfolding left_test
    row_tested =
        sym (gone_row (row_test (tag_set s l)) true i ui)
        ∙ all_at (gone (row_test (tag_set s l)) 0 (quickly s l)) (sizes_at s l size left_test left_tested) i

    left-row : (is_tagged s l (suc i) ≡ has (suc i) (tag_set s l)) × (length ((affine_family s l).made (suc i)) ≤ 35)
    unfolding row_test
    left-row = go (eqb (remainder s l (suc i)).last 0) refl row_tested
      where
        go : (b : Bool) → eqb (remainder s l (suc i)).last 0 ≡ b
            → elim b [
              | true ↦ not (has (suc i) (tag_set s l)) && leb (length (passing (λ a. has a (remainder s l (suc i)).left.rows) 1 i)) 35
              | false ↦ has (suc i) (tag_set s l)
            ] ≡ true → (is_tagged s l (suc i) ≡ has (suc i) (tag_set s l)) × (length ((affine_family s l).made (suc i)) ≤ 35)
        go true e h = (
          untagged e ∙ sym (not-true _ (and_left (not (has (suc i) (tag_set s l))) _ h)),
          omega (arith, ap length (found e), leb-true (length (passing (λ a. has a (remainder s l (suc i)).left.rows) 1 i)) 35 (and_right (not (has (suc i) (tag_set s l))) _ h)),
        )
        go false e h = (tagged e ∙ sym h, omega (arith, ap length (none e)))

  -- the same of row i, from 1
  tagged_is : (i : ℕ) → 1 ≤ i → i ≤ row_count s l → is_tagged s l i ≡ has i (tag_set s l)
  tagged_is zero li ui = absurd (omega arith)
  tagged_is (suc i) li ui = (left-row i ui).0

  pub made_few : (i : ℕ) → 1 ≤ i → i ≤ row_count s l → length ((affine_family s l).made i) ≤ 35
  made_few zero li ui = absurd (omega arith)
  made_few (suc i) li ui = (left-row i ui).1

-- ---- the tag of each row

-- the tags of the rows, from row 1
unfoldable pub tag_list : ℕ → ℕ → List ℕ
tag_list s l = ranks (λ i. has i (tag_set s l)) 1 (points s) 0

unfoldable pub row_tags_test : List ℕ → Bool
row_tags_test T = sizes_test (part_test T tag_list)

-- and from row 0
unfoldable pub row_tags : ℕ → ℕ → List ℕ
row_tags s l = 0 ∷ tag_list s l

row_tag : (s l : ℕ) → sized s l ≡ true → (i : ℕ) → i ≤ row_count s l → get_or (row_tags s l) i 0 ≡ (affine_family s l).tag_of_row i
unfolding row_tags tag_list affine_family is_tagged row_count
row_tag s l size zero ui = refl
row_tag s l size (suc i) ui =
    let e : suc 0 + i ≡ suc i = omega arith in
    ranks_at (λ i. has i (tag_set s l)) (points s) 0 i (omega (arith, count_most (is_row s l) (points s)))
    ∙ ap (λ (x : ℕ). if has x (tag_set s l) then count_up_to (λ i. has i (tag_set s l)) x else 0) e
    ∙ ap₂ (λ (b : Bool) (n : ℕ). if b then n else 0) (sym (tagged_is s l size (suc i) (omega arith) ui))
    (sym (count_ext (is_tagged s l) (λ i. has i (tag_set s l)) (suc i) (λ k a b. tagged_is s l size k a (omega arith))))

-- what is read at a place of the table
pub row_tag_read : (s l : ℕ) → sized s l ≡ true → (T : List ℕ) (z : ℕ) {r i : ℕ} → r ≡ entry_of T z → z ≡ 64 * size_index s l + (i - 1) → 1 ≤ i → i ≤ row_count s l
    → row_tags_test T ≡ true → r ≡ (affine_family s l).tag_of_row i
unfolding row_tags_test row_tags tag_list row_count entry_of
row_tag_read s l size T z {r} {i} e at low high h =
    let f : suc (i - 1) ≡ i = omega arith in
    e ∙ ap (λ (x : ℕ). get_or T x 0) at
    ∙ part_at T tag_list h s l size (i - 1) (omega (arith, ranks_length (λ k. has k (tag_set s l)) 1 (points s) 0, count_most (is_row s l) (points s)))
    ∙ ap (λ (x : ℕ). get_or (row_tags s l) x 0) f
    ∙ row_tag s l size i high

-- ---- the tag at each point

-- the entries of a list at some places (with the list bound, so that it is computed once)
unfoldable pub entries : List ℕ → List ℕ → List ℕ
entries T places = map (λ k. get_or T k 0) places

unfoldable pub point_tags_lem : ℕ → ℕ → List ℕ
point_tags_lem s l = entries (row_tags s l) (ranks (is_row s l) 1 (points s) 0)

unfoldable pub point_tags_test : List ℕ → Bool
point_tags_test T = sizes_test (part_test T point_tags_lem)

-- the size's part of the table
pub point_tags : (s l : ℕ) → sized s l ≡ true → (T : List ℕ) {P : List ℕ} → P ≡ take 64 (drop (64 * size_index s l) T) → point_tags_test T ≡ true
    → (p : ℕ) → 1 ≤ p → p ≤ points s → get_or P (p - 1) 0 ≡ tag_at s l p
unfolding point_tags_test point_tags_lem entries tag_at row_at row_count
point_tags s l size T {P} e h p low high =
    let back : 1 + (p - 1) ≡ p = omega arith in
    let long = ranks_length (is_row s l) 1 (points s) 0 in
    let f : ℕ → ℕ = λ i. get_or (row_tags s l) i 0 in
    ap (λ (x : List ℕ). get_or x (p - 1) 0) e
    ∙ get_or-take 64 (drop (64 * size_index s l) T) (p - 1) 0 (omega (arith, (points_few s (sized-offered s l size)).1))
    ∙ get_or-drop (64 * size_index s l) T (p - 1) 0
    ∙ part_at T point_tags_lem h s l size (p - 1) (omega (arith, long, length-map (ranks (is_row s l) 1 (points s) 0) f))
    ∙ map_at f (ranks (is_row s l) 1 (points s) 0) (p - 1) (omega (arith, long))
    ∙ ap f (ranks_at (is_row s l) (points s) 0 (p - 1) (omega arith) ∙ ap (row_at s l) back)
    ∙ row_tag s l size (row_at s l p) (go (is_row s l p))
  where
    go : (b : Bool) → (if b then count_up_to (is_row s l) p else 0) ≤ count_up_to (is_row s l) (points s)
    go true = count_up (is_row s l) p (points s) high
    go false = omega arith

-- and how long it is
pub part_long : (s l : ℕ) → sized s l ≡ true → (T : List ℕ) {P : List ℕ} → P ≡ take 64 (drop (64 * size_index s l) T) → length T ≡ 640 → 64 ≤ length P
part_long s l size T e n =
    omega (arith, ap length e, length-take 64 (drop (64 * size_index s l) T), length-drop (64 * size_index s l) T, index_high s l size)

-- ---- the rows that a row is made of

-- whether the lists stand one behind the other at the front of a table, each behind its length
unfoldable pub stand_test : List ℕ → List (List ℕ) → Bool
stand_test T [] = true
stand_test T (r ∷ rs) = eqb (length r) (suc (get_or r 0 0)) && (begins T r && stand_test (drop (length r) T) rs)

-- the first of so many lists passed before the others
past_first : (T : List ℕ) (a n : ℕ) → past_lists T a (suc n) ≡ past_lists T (a + 1 + entry_of T a) n
unfolding past_lists
past_first T a zero = refl
past_first T a (suc n) = ap (λ (x : ℕ). x + 1 + entry_of T x) (past_first T a n)

stand_at : (T : List ℕ) (a : ℕ) (rs : List (List ℕ)) → stand_test (drop a T) rs ≡ true → (k : ℕ) → begins (drop (past_lists T a k) T) (get_or rs k []) ≡ true
unfolding stand_test begins past_lists entry_of
stand_at T a [] h k = refl
stand_at T a (r ∷ rs) h zero = and_left (begins (drop a T) r) _ (and_right (eqb (length r) (suc (get_or r 0 0))) _ h)
stand_at T a (r ∷ rs) h (suc k) =
    let t = and_right (eqb (length r) (suc (get_or r 0 0))) _ h in
    let e : length r ≡ suc (get_or r 0 0) = eqb-true (length r) _ (and_left (eqb (length r) (suc (get_or r 0 0))) _ h) in
    let f : entry_of T a ≡ get_or r 0 0 = read t (omega (arith, e)) in
    let g : a + 1 + entry_of T a ≡ a + length r = omega (arith, e, f) in
    ap (λ (x : ℕ). begins (drop x T) (get_or rs k [])) (past_first T a k ∙ ap (λ (x : ℕ). past_lists T x k) g)
    ∙ stand_at T (a + length r) rs
    (ap (λ (x : List ℕ). stand_test x rs) (sym (drop-drop (length r) a T)) ∙ and_right (begins (drop a T) r) _ t) k
  where
    read : begins (drop a T) r && stand_test (drop (length r) (drop a T)) rs ≡ true → 0 < length r → entry_of T a ≡ get_or r 0 0
    read t l =
        ap (λ (x : ℕ). get_or T x 0) (sym (add-zero a)) ∙ sym (get_or-drop a T 0 0) ∙ begins_at (drop a T) r (and_left (begins (drop a T) r) _ t) 0 l

-- eight at a time, of up to 64, where another table says from entry z on
unfoldable pub eights_test : List ℕ → List ℕ → ℕ → List (List ℕ) → Bool
eights_test S T z rs = every (λ g. stand_test (drop (wide_entry_of S (z + g)) T) (take 8 (drop (8 * g) rs))) 8

eights_at : (S T : List ℕ) (z : ℕ) (rs : List (List ℕ)) → eights_test S T z rs ≡ true → (k : ℕ) → k < 64
    → begins (drop (past_lists T (wide_entry_of S (z + k / 8)) (k % 8)) T) (get_or rs k []) ≡ true
unfolding eights_test
eights_at S T z rs h k u =
    let e : 8 * (k / 8) + k % 8 ≡ k = omega arith in
    ap (begins (drop (past_lists T (wide_entry_of S (z + k / 8)) (k % 8)) T))
    (ap (λ (x : ℕ). get_or rs x []) (sym e) ∙ sym (get_or-drop (8 * (k / 8)) rs (k % 8) []) ∙ sym (get_or-take 8 (drop (8 * (k / 8)) rs) (k % 8) [] (omega arith)))
    ∙ stand_at T (wide_entry_of S (z + k / 8)) (take 8 (drop (8 * (k / 8)) rs))
    (every_at (λ g. stand_test (drop (wide_entry_of S (z + g)) T) (take 8 (drop (8 * g) rs))) 8 h (k / 8) (omega arith)) (k % 8)

-- those of a size
unfoldable pub made_part_lem : List ℕ → List ℕ → ℕ → ℕ → Bool
made_part_lem S T s l = eights_test S T (8 * size_index s l) (gone made_left 0 (quickly s l))

unfoldable pub made_test : List ℕ → List ℕ → Bool
made_test S T = sizes_test (made_part_lem S T)

pub made_in : (s l i : ℕ) → sized s l ≡ true → (S T : List ℕ) → 1 ≤ i → i ≤ row_count s l → made_test S T ≡ true → MadeIn s l i S T
unfolding made_test made_part_lem
made_in s l i size S T li ui h =
    let e : suc (i - 1) ≡ i = omega arith in
    let D = drop (past_lists T (wide_entry_of S (8 * size_index s l + (i - 1) / 8)) ((i - 1) % 8)) T in
    record {
      stands = begins_is D (counted ((affine_family s l).made i))
          (ap (begins D) (sym (made_row s l size (i - 1) (omega arith) ∙ ap (λ (x : ℕ). counted ((affine_family s l).made x)) e))
          ∙ eights_at S T (8 * size_index s l) (gone made_left 0 (quickly s l)) (sizes_at s l size (made_part_lem S T) h) (i - 1) (omega (arith, rows-high s l size)));
    }

-- a list that stands behind its length at the front of another
module _ (D M : List ℕ) (h : take (suc (length M)) D ≡ counted M) where
  counted_first : get_or D 0 0 ≡ length M
  counted_first = sym (get_or-take (suc (length M)) D 0 0 (omega arith)) ∙ ap (λ (x : List ℕ). get_or x 0 0) h

  counted_rest : take (length M) (drop 1 D) ≡ M
  counted_rest = go D h
    where
      go : (D : List ℕ) → take (suc (length M)) D ≡ counted M → take (length M) (drop 1 D) ≡ M
      go [] e = absurd (omega (arith, ap length e))
      go (x ∷ D) e = ap (drop 1) e

  counted_room : suc (length M) ≤ length D
  counted_room = omega (arith, ap length h, length-take (suc (length M)) D)

-- what the code reads of the tables
module _ (s l : ℕ) {i a b z n : ℕ} {S T : List ℕ} (I : MadeIn s l i S T) (e : a ≡ past_lists T b ((i - 1) % 8)) (f : b ≡ wide_entry_of S (8 * z + (i - 1) / 8))
    (g : z ≡ size_index s l) (c : n ≡ entry_of T a) where
  here : take (suc (length ((affine_family s l).made i))) (drop a T) ≡ counted ((affine_family s l).made i)
  here =
      ap (λ (x : ℕ). take (suc (length ((affine_family s l).made i))) (drop x T)) (e ∙ ap (λ (x : ℕ). past_lists T x ((i - 1) % 8)) (f ∙ ap (λ (x : ℕ). wide_entry_of S (8 * x + (i - 1) / 8)) g))
      ∙ I.stands

  made-count : n ≡ length ((affine_family s l).made i)
  unfolding entry_of
  made-count = c ∙ ap (λ (x : ℕ). get_or T x 0) (sym (add-zero a)) ∙ sym (get_or-drop a T 0 0) ∙ counted_first (drop a T) ((affine_family s l).made i) here

  pub made_room : a + 1 + n ≤ length T
  made_room = omega (arith, made-count, counted_room (drop a T) ((affine_family s l).made i) here, length-drop a T)

  pub made_part : take (a + 1 + n - (a + 1)) (drop (a + 1) T) ≡ (affine_family s l).made i
  made_part =
      let e : a + 1 + n - (a + 1) ≡ length ((affine_family s l).made i) = omega (arith, made-count) in
      rw (e, ← drop-drop 1 a T) (counted_rest (drop a T) ((affine_family s l).made i) here)

-- ---- how many tags

tags_test : ℕ → ℕ → Bool
tags_test s l = eqb (count_up_to (λ i. has i (tag_set s l)) (row_count s l)) (tag_numbers s l)

tags_tested : sizes_test tags_test ≡ true
unfolding tags_test tag_numbers tag_set size_index has row_count points x_of y_of on_line chosen is_row polynomial element_times_x product_over product
tags_tested = refl

pub tag_count : (s l : ℕ) → sized s l ≡ true → (affine_family s l).tags ≡ tag_numbers s l
unfolding affine_family tags_test
tag_count s l size =
    count_ext (is_tagged s l) (λ i. has i (tag_set s l)) (row_count s l) (tagged_is s l size)
    ∙ eqb-true (count_up_to (λ i. has i (tag_set s l)) (row_count s l)) (tag_numbers s l) (sizes_at s l size tags_test tags_tested)

-- what is read of the code's table of them
unfoldable pub number_test : List ℕ → ℕ → ℕ → Bool
number_test T s l = eqb (get_or T (size_index s l) 0) (tag_numbers s l)

unfoldable pub numbers_test : List ℕ → Bool
numbers_test T = sizes_test (number_test T)

pub tags_read : (s l : ℕ) → sized s l ≡ true → (T : List ℕ) (z : ℕ) {r : ℕ} → r ≡ entry_of T z → z ≡ size_index s l → numbers_test T ≡ true → r ≡ (affine_family s l).tags
unfolding numbers_test number_test entry_of
tags_read s l size T z e at h =
    e
    ∙ ap (λ (x : ℕ). get_or T x 0) at
    ∙ eqb-true (get_or T (size_index s l) 0) (tag_numbers s l) (sizes_at s l size (number_test T) h)
    ∙ sym (tag_count s l size)
