-- The tags of the affine family: they stand at the rows of which elimination leaves something, in row order, and every other row is the XOR
-- of the earlier rows that it found. It holds for all s and l.
use Rattle.std.specs.Prelude.{◌≡◌, ◌&&◌, ◌∷◌, ◌++◌, ◌+◌, ◌-◌, ◌≤◌, ◌<◌, ◌↔◌, if◌then◌else◌}
use Rattle.fips197.proofs.Kit.{refl, sym, ap, ◌∙◌, Bool, true, false, not, List, [], ℕ, zero, suc, arith, add-one, add-zero, eqb, ltb, ltb-true, ltb-false, eqb-true, eq-eqb, ne_eqb, get_or, not-true}
use Rattle.incidence.specs.Count.{indicator, count_up_to, listed, inside}
use Rattle.incidence.specs.Family.{Earlier, parity}
use Rattle.incidence.proofs.Booleans.{and_right, and_both, and_false_r, not_both}
use Rattle.incidence.proofs.Counting.{inside_yes, count_before, count_up}
use Rattle.incidence.proofs.Listing.{Member, listed_at, listed_rank, stands}
use Rattle.affine.specs.Lines.{on_line, affine_items, line_of, point_of, row_count}
use Rattle.affine.specs.Elimination.{has, nothing}
use Rattle.affine.specs.Affine.{item_set, eliminated, remainder, is_tagged, affine_family, SumOfEarlier, TagsByRule}
use Rattle.affine.proofs.Sets.{has_set}
use Rattle.affine.proofs.Eliminating.{dependent, independent}

-- ---- numbers that pass, and their ranks

module _ (p : ℕ → Bool) (v : ℕ) where
  -- a number that passes is counted behind those before it
  count_here : (i : ℕ) → 1 ≤ i → p i ≡ true → count_up_to p i ≡ suc (count_up_to p (i - 1))
  count_here zero l t = absurd (omega arith)
  count_here (suc i) l t = let e : suc i - 1 ≡ i = omega arith in omega (arith, ap indicator t, ap (count_up_to p) e)

  -- the k-th that passes
  nth : (k : ℕ) → 1 ≤ k → k ≤ count_up_to p v → Member p v (k - 1) (get_or (listed p v) (k - 1) 0)
  nth k l u = listed_at p v (k - 1) (omega arith)

  pub nth_rank : (k : ℕ) → 1 ≤ k → k ≤ count_up_to p v → count_up_to p (get_or (listed p v) (k - 1) 0) ≡ k
  nth_rank k l u = omega (arith, count_here _ (nth k l u).low (nth k l u).passes, (nth k l u).rank)

  rank_nth : (i : ℕ) → 1 ≤ i → i ≤ v → p i ≡ true → get_or (listed p v) (count_up_to p i - 1) 0 ≡ i
  rank_nth i l u t =
      let e : count_up_to p i - 1 ≡ count_up_to p (i - 1) = omega (arith, count_here i l t) in
      ap (λ (x : ℕ). get_or (listed p v) x 0) e ∙ listed_rank p v i l u t

  rank_high : (i : ℕ) → 1 ≤ i → i ≤ v → p i ≡ true → count_up_to p i ≤ count_up_to p v
  rank_high i l u t = omega (arith, count_here i l t, count_before p v i l u t)

-- the numbers that pass p and whose place among these passes q
module _ (p q : ℕ → Bool) where
  abbrev pub both : ℕ → Bool
  both x = p x && q (count_up_to p x)

  pub both_count : (n : ℕ) → count_up_to both n ≡ count_up_to q (count_up_to p n)
  both_count zero = refl
  both_count (suc n) = go (both_count n) (p (suc n))
    where
      go : count_up_to both n ≡ count_up_to q (count_up_to p n) → (b : Bool)
          → count_up_to both n + indicator (b && q (count_up_to p n + indicator b)) ≡ count_up_to q (count_up_to p n + indicator b)
      go ih true = rw (add-one (count_up_to p n)) (omega (arith, ih))
      go ih false = rw (add-zero (count_up_to p n)) (omega (arith, ih))

  -- the k-th of them
  pub both_nth : (n k : ℕ) → 1 ≤ k → k ≤ count_up_to q (count_up_to p n)
      → get_or (listed p n) (get_or (listed q (count_up_to p n)) (k - 1) 0 - 1) 0 ≡ get_or (listed both n) (k - 1) 0
  both_nth n k l u =
      let i = get_or (listed q (count_up_to p n)) (k - 1) 0 in
      let x = get_or (listed p n) (i - 1) 0 in
      let M : Member q (count_up_to p n) (k - 1) i = nth q (count_up_to p n) k l u in
      let N : Member p n (i - 1) x = nth p n i M.low M.high in
      sym (stands both n x (k - 1) N.low N.high (and_both N.passes (ap q (nth_rank p n i M.low M.high) ∙ M.passes))
      (both_count (x - 1) ∙ ap (count_up_to q) N.rank ∙ M.rank))

-- the numbers listed are earlier
earlier-last : (i a : ℕ) (l : List ℕ) → 1 ≤ a → a < i → Earlier i l → Earlier i (l ++ (a ∷ []))
earlier-last i a [] x y w = (x, y, tt)
earlier-last i a (b ∷ l) x y w = (w.0, w.1, earlier-last i a l x y w.2)

listed-earlier : (c : ℕ → Bool) (n i : ℕ) → n < i → Earlier i (listed c n)
listed-earlier c zero i h = tt
listed-earlier c (suc n) i h = go (listed-earlier c n i (omega arith)) (c (suc n))
  where
    go : Earlier i (listed c n) → (b : Bool) → Earlier i (if b then listed c n ++ (suc n ∷ []) else listed c n)
    go w true = earlier-last i (suc n) (listed c n) (omega arith) h w
    go w false = w

parity-same : (i : ℕ) (p q : ℕ → Bool) (l : List ℕ) → Earlier i l → ((a : ℕ) → 1 ≤ a → a < i → p a ≡ q a) → parity p l ≡ parity q l
unfolding parity
parity-same i p q [] w h = refl
parity-same i p q (a ∷ l) w h = rw (h a w.0 w.1, parity-same i p q l w.2 h)

-- ---- the family's tags

module _ (s l : ℕ) where
  v : ℕ
  v = row_count s l

  m : ℕ
  m = affine_items s l

  row : ℕ → ℕ
  row i = item_set s l (point_of s l i)

  t : ℕ → Bool
  t = is_tagged s l

  -- what a row holds
  on_row : (i j : ℕ) → 1 ≤ i → i ≤ row_count s l → 1 ≤ j → j ≤ affine_items s l → (affine_family s l).on i j ≡ has j (row i)
  unfolding affine_family item_set row
  on_row i j li ui lj uj =
      rw (inside_yes (row_count s l) i li ui, inside_yes (affine_items s l) j lj uj) (sym (has_set (λ j. on_line s (line_of s l j) (point_of s l i)) (affine_items s l) j lj uj))

  module _ (i : ℕ) (li : 1 ≤ i) (ui : i ≤ row_count s l) where
    -- the XOR of earlier rows, by what the family holds and by the sets
    same-parity : (j : ℕ) → 1 ≤ j → j ≤ affine_items s l → (Q : List ℕ) → Earlier i Q
        → parity (λ a. (affine_family s l).on a j) Q ≡ parity (λ a. has j (row a)) Q
    same-parity j lj uj Q e = parity-same i _ _ Q e (λ a x y. on_row a j x (omega arith) lj uj)

    -- something is left of a tagged row, and of no other
    left_some : is_tagged s l i ≡ true → (remainder s l i).last ≡ 0 → ⊥
    unfolding is_tagged
    left_some h e = not_both (eqb (remainder s l i).last 0) (eq-eqb _ 0 e) (not-true _ (and_right (inside (row_count s l) i) _ h))

    left-none : is_tagged s l i ≡ false → (remainder s l i).last ≡ 0
    unfolding is_tagged
    left-none h = go (eqb (remainder s l i).last 0) refl
      where
        go : (b : Bool) → eqb (remainder s l i).last 0 ≡ b → (remainder s l i).last ≡ 0
        go true e = eqb-true _ 0 e
        go false e = absurd (not_both _ (and_both (inside_yes (row_count s l) i li ui) (ap not e)) h)

    -- a row is tagged where something is left of it
    pub tagged_yes : ((remainder s l i).last ≡ 0 → ⊥) → is_tagged s l i ≡ true
    unfolding is_tagged
    tagged_yes h = and_both (inside_yes (row_count s l) i li ui) (ap not (ne_eqb _ 0 h))

    pub tagged_no : (remainder s l i).last ≡ 0 → is_tagged s l i ≡ false
    unfolding is_tagged
    tagged_no h = and_false_r (inside (row_count s l) i) _ (ap not (eq-eqb _ 0 h))

    -- the rows that it is made of
    pub made_is : is_tagged s l i ≡ false → (affine_family s l).made i ≡ listed (λ a. has a (remainder s l i).left.rows) (i - 1)
    unfolding affine_family
    made_is h = rw (h, inside_yes (row_count s l) i li ui)

    pub made_none : is_tagged s l i ≡ true → (affine_family s l).made i ≡ []
    unfolding affine_family
    made_none h = rw (h, inside_yes (row_count s l) i li ui)

    pub made-earlier : is_tagged s l i ≡ false → Earlier i ((affine_family s l).made i)
    made-earlier h = rw (made_is h) (listed-earlier (λ a. has a (remainder s l i).left.rows) (i - 1) i (omega arith))

    pub made_adds_up : is_tagged s l i ≡ false → (j : ℕ) → 1 ≤ j → j ≤ affine_items s l → (affine_family s l).on i j ≡ parity (λ a. (affine_family s l).on a j) ((affine_family s l).made i)
    unfolding remainder eliminated row
    made_adds_up h j lj uj =
        on_row i j li ui lj uj
        ∙ dependent (affine_items s l) row (row_count s l) i li ui nothing (left-none h) j lj uj
        ∙ ap (parity (λ a. has j (row a))) (sym (made_is h))
        ∙ sym (same-parity j lj uj ((affine_family s l).made i) (made-earlier h))

    tagged_free : is_tagged s l i ≡ true → SumOfEarlier (affine_family s l) i → ⊥
    unfolding remainder eliminated row affine_family
    tagged_free h sum =
        independent (affine_items s l) row (row_count s l) i li ui nothing (left_some h) sum.earlier_rows sum.earlier
        (λ j lj uj. sym (on_row i j li ui lj uj) ∙ sum.adds_up j lj uj ∙ same-parity j lj uj sum.earlier_rows sum.earlier)

    other_sum : is_tagged s l i ≡ false → SumOfEarlier (affine_family s l) i
    unfolding affine_family
    other_sum h = record { earlier_rows = (affine_family s l).made i; earlier = made-earlier h; adds_up = made_adds_up h }

    pub tag_of : is_tagged s l i ≡ true → (affine_family s l).tag_of_row i ≡ count_up_to (is_tagged s l) i
    unfolding affine_family
    tag_of h = rw h

    pub tag_none : is_tagged s l i ≡ false → (affine_family s l).tag_of_row i ≡ 0
    unfolding affine_family
    tag_none h = rw h

    -- a row has a tag where it is tagged
    pub has_tag : 1 ≤ (affine_family s l).tag_of_row i → is_tagged s l i ≡ true
    has_tag h = go (is_tagged s l i) refl
      where
        go : (b : Bool) → is_tagged s l i ≡ b → is_tagged s l i ≡ true
        go true e = e
        go false e = absurd (omega (arith, tag_none e))

    pub no_tag : (affine_family s l).tag_of_row i ≡ 0 → is_tagged s l i ≡ false
    no_tag h = go (is_tagged s l i) refl
      where
        go : (b : Bool) → is_tagged s l i ≡ b → is_tagged s l i ≡ false
        go true e = absurd (omega (arith, tag_of e, count_here (is_tagged s l) (row_count s l) i li e))
        go false e = e

    tag_some : is_tagged s l i ≡ true → 1 ≤ (affine_family s l).tag_of_row i
    tag_some e = omega (arith, tag_of e, count_here (is_tagged s l) (row_count s l) i li e)

    pub tag_high : (affine_family s l).tag_of_row i ≤ (affine_family s l).tags
    unfolding affine_family
    tag_high = go (is_tagged s l i) refl
      where
        go : (b : Bool) → is_tagged s l i ≡ b → (affine_family s l).tag_of_row i ≤ count_up_to (is_tagged s l) (row_count s l)
        go true e = omega (arith, tag_of e, rank_high (is_tagged s l) (row_count s l) i li ui e)
        go false e = omega (arith, tag_none e)

    pub row_back : 1 ≤ (affine_family s l).tag_of_row i → (affine_family s l).row_of_tag ((affine_family s l).tag_of_row i) ≡ i
    unfolding affine_family
    row_back h =
        let e = has_tag h in
        ap (λ (x : ℕ). get_or (listed (is_tagged s l) (row_count s l)) (x - 1) 0) (tag_of e) ∙ rank_nth (is_tagged s l) (row_count s l) i li ui e

    exact-at : (1 ≤ (affine_family s l).tag_of_row i) ↔ (SumOfEarlier (affine_family s l) i → ⊥)
    exact-at = (λ h. tagged_free (has_tag h), λ free. go free (is_tagged s l i) refl)
      where
        go : (SumOfEarlier (affine_family s l) i → ⊥) → (b : Bool) → is_tagged s l i ≡ b → 1 ≤ (affine_family s l).tag_of_row i
        go free true e = tag_some e
        go free false e = absurd (free (other_sum e))

  module _ (k : ℕ) (lk : 1 ≤ k) (uk : k ≤ (affine_family s l).tags) where
    tag_member : Member (is_tagged s l) (row_count s l) (k - 1) ((affine_family s l).row_of_tag k)
    unfolding affine_family
    tag_member = nth (is_tagged s l) (row_count s l) k lk uk

    pub row_low : 1 ≤ (affine_family s l).row_of_tag k
    row_low = tag_member.low

    pub row-high : (affine_family s l).row_of_tag k ≤ (affine_family s l).rows
    unfolding affine_family
    row-high = tag_member.high

    pub tag_back : (affine_family s l).tag_of_row ((affine_family s l).row_of_tag k) ≡ k
    unfolding affine_family
    tag_back =
        tag_of ((affine_family s l).row_of_tag k) row_low row-high tag_member.passes ∙ nth_rank (is_tagged s l) (row_count s l) k lk uk

  -- ranks rise with the numbers
  rises : (k n : ℕ) → 1 ≤ k → k < n → n ≤ (affine_family s l).tags → (affine_family s l).row_of_tag k < (affine_family s l).row_of_tag n
  unfolding affine_family
  rises k n lk h un = go (ltb ((affine_family s l).row_of_tag k) ((affine_family s l).row_of_tag n)) refl
    where
      a : Member (is_tagged s l) (row_count s l) (k - 1) ((affine_family s l).row_of_tag k)
      a = tag_member k lk (omega arith)

      b : Member (is_tagged s l) (row_count s l) (n - 1) ((affine_family s l).row_of_tag n)
      b = tag_member n (omega arith) un

      go : (c : Bool) → ltb ((affine_family s l).row_of_tag k) ((affine_family s l).row_of_tag n) ≡ c → (affine_family s l).row_of_tag k < (affine_family s l).row_of_tag n
      go true e = ltb-true _ _ e
      go false e =
          absurd (omega (
            arith,
            a.rank,
            b.rank,
            ltb-false ((affine_family s l).row_of_tag k) ((affine_family s l).row_of_tag n) e,
            count_up (is_tagged s l) ((affine_family s l).row_of_tag n - 1) ((affine_family s l).row_of_tag k - 1) (omega (arith, ltb-false ((affine_family s l).row_of_tag k) ((affine_family s l).row_of_tag n) e)),
          ))

  -- "Tags go to each row that isn't a sum of earlier rows", and to no other
  pub tags_by_rule : TagsByRule (affine_family s l)
  unfolding affine_family
  tags_by_rule = record { exact = λ i li ui. exact-at i li ui; in_order = rises }
