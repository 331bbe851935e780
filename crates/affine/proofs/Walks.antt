-- The tags of a card are had along its line, and the cards of a row from its point: at the origin all chosen lines; elsewhere the one chosen
-- line through it, and then the lines ax + by = 1 for (b, a) along the point's dual.
use Rattle.std.specs.Prelude.{◌≡◌, ◌&&◌, ◌∷◌, ◌++◌, ◌+◌, ◌-◌, ◌/◌, ◌%◌, ◌^◌, ◌≤◌, ◌<◌, if◌then◌else◌}
use Rattle.fips197.proofs.Kit.{refl, sym, ap, ap₂, ◌∙◌, Bool, true, false, true≢false, List, [], ℕ, zero, suc, arith, zero-mod, eqb, leb, eqb-true, eqb-false, ne_eqb, leb-true, leb-false, le-leb, lt-leb, length, get_or, length-append, bit_xor, xor_comm}
use native.Mathlib.Nat.{zero-div}
use Rattle.incidence.specs.Count.{count_up_to, listed, inside}
use Rattle.incidence.specs.Family.{items_of, tags_of}
use Rattle.incidence.proofs.Booleans.{and_false_l, and_false_r}
use Rattle.incidence.proofs.Counting.{Found, any_found, count_some, inside-low, inside-high}
use Rattle.incidence.proofs.Listing.{Member, listed_at, listed_ext, none-listed}
use Rattle.affine.specs.declared.Line.{Line}
use Rattle.affine.specs.declared.Course.{Course}
use Rattle.affine.specs.Field.{product, element_inverse}
use Rattle.affine.specs.Lines.{points, x_of, y_of, on_line, chosen, crossing, affine_items, line_of, is_row, point_of, row_count}
use Rattle.affine.specs.Affine.{sized, is_tagged, affine_family}
use Rattle.affine.specs.Walk.{firsts, course_of, place_on, met, chosen_at, dual, through_count, through_at}
use Rattle.affine.proofs.FieldLaws.{Field, xor-equal, zero_left, zero_right}
use Rattle.affine.proofs.Meeting.{of_chosen, of_crossing, x_low, y_low, same_point, held, Proper, chosen_proper, crossing_proper, chosen_through, crossing-one}
use Rattle.affine.proofs.Disjunct as disjunct
use Rattle.affine.proofs.Tagging.{nth_rank, both, both_count, both_nth, row_low, row-high}
use Rattle.affine.proofs.Listings.{Among, Passing, listed-firsts, listed_places, firsts-length}
use Rattle.affine.proofs.Along.{along, divided}

-- the row that point p is, 0 where it is none, and its tag, 0 where it has none
unfoldable pub row_at : ℕ → ℕ → ℕ → ℕ
row_at s l p = if is_row s l p then count_up_to (is_row s l) p else 0

unfoldable pub tag_at : ℕ → ℕ → ℕ → ℕ
tag_at s l p = (affine_family s l).tag_of_row (row_at s l p)

-- at most one entry a place
pub met_few : (s : ℕ) (C : Course) (T : List ℕ) (n : ℕ) → length (met s C T n) ≤ n
unfolding met
met_few s C T zero = omega arith
met_few s C T (suc n) = go (met_few s C T n) (eqb (get_or T (place_on s C n - 1) 0) 0)
  where
    go : length (met s C T n) ≤ n → (b : Bool)
        → length (if b then met s C T n else met s C T n ++ (get_or T (place_on s C n - 1) 0 ∷ [])) ≤ suc n
    go ih true = omega arith
    go ih false = omega (arith, length-append (met s C T n) (get_or T (place_on s C n - 1) 0 ∷ []))

module _ (s l : ℕ) (size : sized s l ≡ true) where
  -- the field of s
  abbrev F : Field s
  F = disjunct.F s l size

  -- ---- the lines that are walked along

  -- the line of a card
  pub card_proper : (j : ℕ) → 1 ≤ j → j ≤ affine_items s l → Proper s F (line_of s l j)
  unfolding affine_items
  card_proper j lj uj = go (leb j l) refl
    where
      go : (t : Bool) → leb j l ≡ t → Proper s F (line_of s l j)
      go true e = rw (of_chosen s l j e) (chosen_proper s F j lj)
      go false e = let h : l < j = leb-false j l e in rw (of_crossing s l j e) (crossing_proper s F (j - l) (omega arith) (omega arith))

  -- the points of a proper line, in rising order
  line_along : (L : Line) → Proper s F L → Passing (on_line s L) (points s) (place_on s (course_of s L)) (2 ^ s)
  line_along L P = along s F L P.low_a P.low_b P.low_c P.some

  -- ---- the tags of a card

  -- whether point p is a row with a tag
  abbrev tag_point : ℕ → Bool
  tag_point = both (is_row s l) (is_tagged s l)

  -- the tag at a point, by its place among these
  tag_among : (p : ℕ) → tag_at s l p ≡ (if tag_point p then count_up_to tag_point p else 0)
  unfolding tag_at row_at affine_family is_tagged
  tag_among p = go (is_row s l p)
    where
      go : (b : Bool) → (affine_family s l).tag_of_row (if b then count_up_to (is_row s l) p else 0)
          ≡ (if b && is_tagged s l (count_up_to (is_row s l) p) then count_up_to tag_point p else 0)
      go true = rw (both_count (is_row s l) (is_tagged s l) p)
      go false = refl

  -- a table that has the tag at each point
  module _ (T : List ℕ) (tags : (p : ℕ) → 1 ≤ p → p ≤ points s → get_or T (p - 1) 0 ≡ tag_at s l p) where
    -- a place at which there is one adds it
    met_next : (C : Course) (t : ℕ) → 1 ≤ place_on s C t → place_on s C t ≤ points s
        → met s C T (suc t) ≡ (if tag_point (place_on s C t) then met s C T t ++ (count_up_to tag_point (place_on s C t) ∷ []) else met s C T t)
    unfolding met
    met_next C t low high = rw (tags (place_on s C t) low high ∙ tag_among (place_on s C t)) (go (tag_point (place_on s C t)) refl)
      where
        n : ℕ
        n = count_up_to tag_point (place_on s C t)

        go : (b : Bool) → tag_point (place_on s C t) ≡ b
            → (if eqb (if b then n else 0) 0 then met s C T t else met s C T t ++ ((if b then n else 0) ∷ [])) ≡ (if b then met s C T t ++ (n ∷ []) else met s C T t)
        go true e =
            let h : 0 < n = count_some tag_point (place_on s C t) (place_on s C t) low (omega arith) e in
            rw (ne_eqb n 0 (λ z. omega arith))
        go false e = refl

    -- the tags of card j, along its line
    pub tags-along : (j : ℕ) → 1 ≤ j → j ≤ affine_items s l → tags_of (affine_family s l) j ≡ met s (course_of s (line_of s l j)) T (2 ^ s)
    unfolding affine_family tags_of row_count point_of met
    tags-along j lj uj =
        listed_ext _ (λ k. on_line s (line_of s l j) (get_or (listed tag_point (points s)) (k - 1) 0)) (affine_family s l).tags
        (λ k a b. disjunct.on_point s l size ((affine_family s l).row_of_tag k) j (row_low s l k a b) (row-high s l k a b) lj uj
        ∙ ap (on_line s (line_of s l j)) (both_nth (is_row s l) (is_tagged s l) (points s) k a b))
        ∙ ap (listed (λ k. on_line s (line_of s l j) (get_or (listed tag_point (points s)) (k - 1) 0))) (sym (both_count (is_row s l) (is_tagged s l) (points s)))
        ∙ listed_places P tag_point (met s C T) refl (λ t h. met_next C t (P.low t h) (P.high t h))
      where
        C : Course
        C = course_of s (line_of s l j)

        P : Passing (on_line s (line_of s l j)) (points s) (place_on s C) (2 ^ s)
        P = line_along (line_of s l j) (card_proper j lj uj)

  -- ---- the cards of a point

  -- the origin's coordinates
  x_first : x_of s 1 ≡ 0
  unfolding x_of
  x_first = zero-mod (2 ^ s)

  y_first : y_of s 1 ≡ 0
  unfolding y_of
  y_first = zero-div (2 ^ s)

  -- a line holds the origin where c is 0
  at_origin : (L : Line) → on_line s L 1 ≡ eqb 0 L.c
  unfolding on_line
  at_origin L = rw (x_first, y_first, zero_right s F L.a, zero_right s F L.b)

  -- all chosen lines do, and no other card's
  origin_items : Passing (λ j. on_line s (line_of s l j) 1) (affine_items s l) (λ k. k + 1) l
  unfolding affine_items
  origin_items = record {
    low = λ t h. omega arith;
    high = λ t h. omega arith;
    rises = λ t u h k. omega arith;
    passes = λ t h. rw (of_chosen s l (t + 1) (le-leb (t + 1) l (omega arith)), at_origin (chosen s (t + 1)), chosen_through s F (t + 1));
    all = λ j lj uj e. go j lj e (leb j l) refl;
  }
    where
      go : (j : ℕ) → 1 ≤ j → on_line s (line_of s l j) 1 ≡ true → (t : Bool) → leb j l ≡ t → Among (λ k. k + 1) l j
      go j lj h true e = record { place = j - 1; below = omega (arith, leb-true j l e); same = omega arith }
      go j lj h false e =
          absurd (true≢false (sym h ∙ ap (λ (L : Line). on_line s L 1) (of_crossing s l j e) ∙ at_origin (crossing s (j - l))
          ∙ ap (eqb 0) (crossing-one s F (j - l))))

  module _ (p : ℕ) (lp : 1 ≤ p) (up : p ≤ points s) (ne : p ≡ 1 → ⊥) where
    -- a point other than the origin has coordinates other than 0 and 0
    elsewhere : x_of s p ≡ 0 → y_of s p ≡ 0 → ⊥
    elsewhere x y = ne (same_point s F p 1 lp (omega arith) (x ∙ sym x_first) (y ∙ sym y_first))

    -- so its dual is a line
    pub dual_proper : Proper s F (dual s p)
    unfolding dual
    dual_proper = record {
      low_a = y_low s F p lp up;
      low_b = x_low s F p;
      low_c = F.some;
      some = λ y x. elsewhere x y;
    }

    -- a line ax + by = 1 holds the point where the dual holds (b, a)
    turned : (n : ℕ) → on_line s (crossing s n) p ≡ on_line s (dual s p) (suc n)
    unfolding on_line crossing dual x_of y_of
    turned n =
        let e : suc n - 1 ≡ n = omega arith in
        rw e
        (ap (λ (z : ℕ). eqb z 1)
        (ap₂ bit_xor (F.comm (n / 2 ^ s) (x_of s p)) (F.comm (n % 2 ^ s) (y_of s p))
        ∙ xor_comm (product s (x_of s p) (n / 2 ^ s)) (product s (y_of s p) (n % 2 ^ s))))

    -- the only chosen line that can hold it
    chosen_only : (k : ℕ) → 1 ≤ k → k ≤ 2 ^ s + 1 → on_line s (chosen s k) p ≡ true → k ≡ chosen_at s p
    unfolding chosen chosen_at
    chosen_only k lk uk h = go (leb k (2 ^ s)) refl
      where
        said : product s (chosen s k).a (x_of s p) ≡ product s (chosen s k).b (y_of s p)
        said = xor-equal _ _ (held s F (chosen s k) p h ∙ chosen_through s F k)

        go : (t : Bool) → leb k (2 ^ s) ≡ t → k ≡ chosen_at s p
        go true e =
            let q : product s (x_of s p) (k - 1) ≡ y_of s p =
            F.comm (x_of s p) (k - 1) ∙ rw e at said ∙ F.one (y_of s p) (y_low s F p lp up) in
            let some : (x_of s p ≡ 0 → ⊥) = λ z. elsewhere z (sym q ∙ ap (λ (v : ℕ). product s v (k - 1)) z ∙ zero_left s F (k - 1)) in
            let d : k - 1 ≡ product s (element_inverse s (x_of s p)) (y_of s p) =
            divided s F (x_of s p) (k - 1) (y_of s p) (omega arith) (x_low s F p) (omega (arith, leb-true k (2 ^ s) e)) q in
            rw (ne_eqb (x_of s p) 0 some) (omega arith)
        go false e =
            let z : x_of s p ≡ 0 =
            sym (F.one (x_of s p) (x_low s F p)) ∙ rw e at said ∙ zero_left s F (y_of s p) in
            rw z (omega (arith, leb-false k (2 ^ s) e))

    -- the points of its dual
    abbrev place : ℕ → ℕ
    place = place_on s (course_of s (dual s p))

    dual-along : Passing (on_line s (dual s p)) (points s) place (2 ^ s)
    dual-along = line_along (dual s p) dual_proper

    -- the origin is none of them
    above : (t : ℕ) → t < 2 ^ s → 1 < place t
    unfolding dual
    above t h =
        let apart : (place t ≡ 1 → ⊥) = λ z. true≢false (sym (dual-along.passes t h) ∙ ap (on_line s (dual s p)) z ∙ at_origin (dual s p)) in
        omega (arith, dual-along.low t h)

    -- the items by their places
    item-first : through_at s l p 0 ≡ chosen_at s p
    unfolding through_at
    item-first = rw (ne_eqb p 1 ne)

    item-next : (t : ℕ) → through_at s l p (suc t) ≡ l + place t - 1
    unfolding through_at
    item-next t =
        let e : suc t - 1 ≡ t = omega arith in
        rw (ne_eqb p 1 ne, ne_eqb (suc t) 0 (λ z. omega arith), e)

    module _ (row : is_row s l p ≡ true) where
      -- where it is a row, some chosen line goes through it, and that is the first item
      through : Found (λ k. on_line s (chosen s k) p) l
      unfolding is_row
      through = any_found (λ k. on_line s (chosen s k) p) l row

      first : through_at s l p 0 ≡ through.at
      first = item-first ∙ sym (chosen_only through.at through.low (omega (arith, through.high, disjunct.most s l size)) through.passes)

      -- so the items whose lines go through it are that one, and one for each point of the dual
      items : Passing (λ j. on_line s (line_of s l j) p) (affine_items s l) (through_at s l p) (2 ^ s + 1)
      unfolding affine_items
      items = record {
        low = low;
        high = high;
        rises = rises;
        passes = passes;
        all = λ j lj uj e. all j lj uj e (leb j l) refl;
      }
        where
          low : (t : ℕ) → t < 2 ^ s + 1 → 1 ≤ through_at s l p t
          low zero h = omega (arith, first, through.low)
          low (suc t) h = omega (arith, item-next t, above t (omega arith))

          high : (t : ℕ) → t < 2 ^ s + 1 → through_at s l p t ≤ affine_items s l
          high zero h = omega (arith, first, through.high)
          high (suc t) h = omega (arith, item-next t, dual-along.high t (omega arith))

          rises : (t u : ℕ) → t < u → u < 2 ^ s + 1 → through_at s l p t < through_at s l p u
          rises t zero h k = absurd (omega arith)
          rises zero (suc u) h k = omega (arith, first, through.high, item-next u, above u (omega arith))
          rises (suc t) (suc u) h k = omega (arith, item-next t, item-next u, above t (omega arith), dual-along.rises t u (omega arith) (omega arith))

          passes : (t : ℕ) → t < 2 ^ s + 1 → on_line s (line_of s l (through_at s l p t)) p ≡ true
          passes zero h = rw (first, of_chosen s l through.at (le-leb _ l through.high)) through.passes
          passes (suc t) h =
              let a : 1 < place t = above t (omega arith) in
              let c : l + place t - 1 - l ≡ place t - 1 = omega arith in
              let d : suc (place t - 1) ≡ place t = omega arith in
              rw (item-next t, of_crossing s l (l + place t - 1) (lt-leb _ l (omega arith)), c, turned (place t - 1), d) (dual-along.passes t (omega arith))

          all : (j : ℕ) → 1 ≤ j → j ≤ affine_items s l → on_line s (line_of s l j) p ≡ true → (b : Bool) → leb j l ≡ b → Among (through_at s l p) (2 ^ s + 1) j
          all j lj uj h true e =
              let u : j ≤ l = leb-true j l e in
              record {
                place = 0;
                below = omega arith;
                same = chosen_only j lj (omega (arith, disjunct.most s l size)) (rw (of_chosen s l j e) at h) ∙ sym item-first;
              }
          all j lj uj h false e =
              let u : l < j = leb-false j l e in
              let A : Among place (2 ^ s) (suc (j - l)) =
              dual-along.all (suc (j - l)) (omega arith) (omega arith) (rw (of_crossing s l j e, turned (j - l)) at h) in
              record { place = suc A.place; below = omega (arith, A.below); same = omega (arith, item-next A.place, A.same) }

  -- the cards whose lines go through a point that is a row
  pub items_through : (p : ℕ) → 1 ≤ p → p ≤ points s → is_row s l p ≡ true
      → listed (λ j. on_line s (line_of s l j) p) (affine_items s l) ≡ firsts (through_at s l p) (through_count s l p)
  unfolding through_at through_count
  items_through p lp up row = go (eqb p 1) refl
    where
      go : (t : Bool) → eqb p 1 ≡ t → listed (λ j. on_line s (line_of s l j) p) (affine_items s l) ≡ firsts (through_at s l p) (through_count s l p)
      go true e = rw (eqb-true p 1 e) (listed-firsts origin_items)
      go false e = rw e (listed-firsts (items p lp up (eqb-false p 1 e) row))

  -- ---- the cards of a row

  -- the point of a row
  module _ (i : ℕ) (li : 1 ≤ i) (ui : i ≤ row_count s l) where
    point : Member (is_row s l) (points s) (i - 1) (point_of s l i)
    unfolding point_of row_count
    point = listed_at (is_row s l) (points s) (i - 1) (omega arith)

    pub point_low : 1 ≤ point_of s l i
    point_low = point.low

    pub point_high : point_of s l i ≤ points s
    point_high = point.high

    pub point_row : is_row s l (point_of s l i) ≡ true
    point_row = point.passes

    -- the tag at its point is its own
    pub point_tag : tag_at s l (point_of s l i) ≡ (affine_family s l).tag_of_row i
    unfolding tag_at row_at point_of row_count
    point_tag = ap (affine_family s l).tag_of_row (rw point_row (nth_rank (is_row s l) (points s) i li ui))

    -- the cards of row i
    pub items-along : items_of (affine_family s l) i ≡ firsts (through_at s l (point_of s l i)) (through_count s l (point_of s l i))
    unfolding affine_family items_of
    items-along =
        listed_ext ((affine_family s l).on i) (λ j. on_line s (line_of s l j) (point_of s l i)) (affine_items s l) (λ j a b. disjunct.on_point s l size i j li ui a b)
        ∙ items_through (point_of s l i) point_low point_high point_row

  -- ---- a number out of range, and how many there are

  -- a number out of range has none
  pub tags_out : (j : ℕ) → inside (affine_items s l) j ≡ false → tags_of (affine_family s l) j ≡ []
  unfolding affine_family tags_of
  tags_out j e =
      none-listed _ (affine_family s l).tags
      (λ k. and_false_l _ (on_line s (line_of s l j) (point_of s l ((affine_family s l).row_of_tag k))) (and_false_r (inside (row_count s l) ((affine_family s l).row_of_tag k)) _ e))

  pub items_out : (i : ℕ) → inside (row_count s l) i ≡ false → items_of (affine_family s l) i ≡ []
  unfolding affine_family items_of
  items_out i e =
      none-listed ((affine_family s l).on i) (affine_items s l)
      (λ j. and_false_l _ (on_line s (line_of s l j) (point_of s l i)) (and_false_l _ (inside (affine_items s l) j) e))

  -- a row has at most 2^s + 1 cards
  pub count_few : (p : ℕ) → through_count s l p ≤ 2 ^ s + 1
  unfolding through_count
  count_few p = go (eqb p 1)
    where
      go : (b : Bool) → (if b then l else 2 ^ s + 1) ≤ 2 ^ s + 1
      go true = disjunct.most s l size
      go false = omega arith

  pub items_few : (i : ℕ) → length (items_of (affine_family s l) i) ≤ 2 ^ s + 1
  items_few i = go (inside (row_count s l) i) refl
    where
      go : (b : Bool) → inside (row_count s l) i ≡ b → length (items_of (affine_family s l) i) ≤ 2 ^ s + 1
      go true e =
          rw (items-along i (inside-low _ i e) (inside-high _ i e), firsts-length (through_at s l (point_of s l i)) (through_count s l (point_of s l i)))
          (count_few (point_of s l i))
      go false e = rw (items_out i e) (omega arith)
