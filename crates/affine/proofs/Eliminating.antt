-- Elimination finds what it is to find, in any matrix. Each remainder is the XOR of its rows, so a row of which nothing is left is the XOR
-- of earlier ones. Reducing is linear and leaves nothing of the rows before, so nothing is left of any XOR of them.
use Rattle.std.specs.Prelude.{◌≡◌, ◌&&◌, ◌∷◌, ◌++◌, ◌⊎◌, ◌-◌, ◌≤◌, ◌<◌, ◌^◌, if◌then◌else◌}
use Rattle.fips197.proofs.Kit.{refl, sym, ap, ap₂, ◌∙◌, Bool, true, false, List, [], inl, inr, ℕ, zero, suc, arith, length, get_or, length-append, List·getD-append, get_or_at, bit_xor}
use mathlib.Core.Bool.{xor}
use lib.Bits as bits
use Rattle.fips197.proofs.Xor.{xor_assoc, xor-left, xor_twice, xor_cancel}
use Rattle.incidence.specs.Count.{listed}
use Rattle.incidence.specs.Family.{Earlier, parity}
use Rattle.incidence.proofs.Booleans.{not_both}
use Rattle.incidence.proofs.Counting.{last_or}
use Rattle.incidence.proofs.Listing.{listed_ext}
use Rattle.incidence.proofs.Parity.{xor_turn, xor-none, xor_self, xor_same, parity-next, parity_either}
use Rattle.affine.specs.Elimination.{has, greatest, Combination, Remainder, add, reduced, reduced_by, remainder_of, next, remainders}
use Rattle.affine.proofs.Sets.{has-xor, has-none, has_own, has_other}

-- the greatest number that passes, or there is none
data Greatest (p : ℕ → Bool) (n g : ℕ) : Type 0 where
  nowhere : g ≡ 0 → ((j : ℕ) → 1 ≤ j → j ≤ n → p j ≡ false) → Greatest p n g
  somewhere : 1 ≤ g → g ≤ n → p g ≡ true → Greatest p n g

greatest_is : (p : ℕ → Bool) (n : ℕ) → Greatest p n (greatest p n)
unfolding greatest
greatest_is p zero = nowhere refl (λ j l u. absurd (omega arith))
greatest_is p (suc n) = go (greatest_is p n) (p (suc n)) refl
  where
    go : Greatest p n (greatest p n) → (b : Bool) → p (suc n) ≡ b → Greatest p (suc n) (if b then suc n else greatest p n)
    go w true e = somewhere (omega arith) (omega arith) e
    go (somewhere l u t) false e = somewhere l (omega arith) t
    go (nowhere z h) false e = nowhere z (λ j l u. last j l (last_or j n u))
      where
        last : (j : ℕ) → 1 ≤ j → (j ≡ suc n) ⊎ (j ≤ n) → p j ≡ false
        last j l (inl s) = ap p s ∙ e
        last j l (inr u) = h j l u

module _ (m : ℕ) (row : ℕ → ℕ) where
  -- ---- what is left is the XOR of rows

  -- the parity of item j over those of the rows 1 to n that are in a set
  over : ℕ → ℕ → ℕ → Bool
  over set n j = parity (λ a. has j (row a)) (listed (λ a. has a set) n)

  -- an XOR of row i and earlier rows
  record Of (i : ℕ) (v : Combination) : Type 0 where
    sums : (j : ℕ) → has j v.items ≡ over v.rows i j
    own : has i v.rows ≡ true
    above : (a : ℕ) → i < a → has a v.rows ≡ false

  -- rows that are not in the set do not count
  over_more : (set n : ℕ) → ((a : ℕ) → n < a → has a set ≡ false) → (d j : ℕ) → n ≤ d → over set d j ≡ over set n j
  unfolding over
  over_more set n none zero j l = let e : n ≡ 0 = omega arith in ap (λ (x : ℕ). over set x j) (sym e)
  over_more set n none (suc d) j l = go (λ w. over_more set n none d j w) (last_or n d l)
    where
      go : (n ≤ d → over set d j ≡ over set n j) → (n ≡ suc d) ⊎ (n ≤ d) → over set (suc d) j ≡ over set n j
      go rest (inl e) = ap (λ (x : ℕ). over set x j) (sym e)
      go rest (inr w) =
          parity-next (λ a. has j (row a)) (λ a. has a set) d
          ∙ ap (λ (b : Bool). xor (over set d j) (b && has j (row (suc d)))) (none (suc d) (omega arith))
          ∙ xor_turn (over set d j) false ∙ xor-none (over set d j) ∙ rest w

  -- adding keeps it so
  of_add : (i a : ℕ) (v u : Combination) → a < i → Of i v → Of a u → Of i (add u v)
  unfolding add over
  of_add i a v u l ov ou = record {
    sums = λ j.
        has-xor j u.items v.items
        ∙ ap₂ xor (ou.sums j ∙ sym (over_more u.rows a ou.above i j (omega arith))) (ov.sums j)
        ∙ sym (parity_either (λ b. has j (row b)) (λ b. has b u.rows) (λ b. has b v.rows) i)
        ∙ ap (parity (λ b. has j (row b))) (listed_ext _ _ i (λ b x y. sym (has-xor b u.rows v.rows)));
    own = has-xor i u.rows v.rows ∙ ap₂ xor (ou.above i l) ov.own ∙ xor-none true;
    above = λ b h. has-xor b u.rows v.rows ∙ ap₂ xor (ou.above b (omega arith)) (ov.above b h) ∙ xor-none false;
  }

  -- a row by itself
  alone : ℕ → Combination
  alone i = record { items = row i; rows = 2 ^ i }

  none_over : (i n : ℕ) → n < i → (j : ℕ) → over (2 ^ i) n j ≡ false
  unfolding over parity
  none_over i zero l j = refl
  none_over i (suc n) l j =
      parity-next (λ a. has j (row a)) (λ a. has a (2 ^ i)) n
      ∙ ap₂ (λ (b c : Bool). xor b (c && has j (row (suc n)))) (none_over i n (omega arith) j) (has_other (suc n) i (λ e. omega arith)) ∙ xor-none false

  of_alone : (n : ℕ) → Of (suc n) (alone (suc n))
  unfolding alone over
  of_alone n = record {
    sums = λ j.
        sym (parity-next (λ a. has j (row a)) (λ a. has a (2 ^ suc n)) n
        ∙ ap₂ (λ (b c : Bool). xor b (c && has j (row (suc n)))) (none_over (suc n) n (omega arith) j) (has_own (suc n)) ∙ xor-none (has j (row (suc n))));
    own = has_own (suc n);
    above = λ a h. has_other a (suc n) (λ e. omega arith);
  }

  -- remainders of rows before i
  data Before (i : ℕ) : List Remainder → Type 0 where
    nil : Before i []
    one : {u : Remainder} {us : List Remainder} (a : ℕ) → a < i → Of a u.left → Before i us → Before i (u ∷ us)

  of_reduced : (i : ℕ) (us : List Remainder) → Before i us → (v : Combination) → Of i v → Of i (reduced_by us v)
  unfolding reduced_by reduced
  of_reduced i [] nil v ov = ov
  of_reduced i (u ∷ us) (one a l ou before) v ov = of_reduced i us before _ (go (has u.last v.items))
    where
      go : (b : Bool) → Of i (if b then add u.left v else v)
      go true = of_add i a v u.left l ov ou
      go false = ov

  -- ---- the remainders, one row after the other

  -- what is left of row n + 1
  left_of : ℕ → Combination
  left_of n = reduced_by (remainders m row n) (alone (suc n))

  remainders-next : (n : ℕ) → remainders m row (suc n) ≡ remainders m row n ++ (remainder_of m (left_of n) ∷ [])
  unfolding remainders next left_of alone
  remainders-next n = refl

  before_more : (i k : ℕ) (us : List Remainder) → i ≤ k → Before i us → Before k us
  before_more i k [] l nil = nil
  before_more i k (u ∷ us) l (one a w ou before) = one a (omega arith) ou (before_more i k us l before)

  before_last : (i : ℕ) (us : List Remainder) (u : Remainder) (a : ℕ) → a < i → Of a u.left → Before i us → Before i (us ++ (u ∷ []))
  before_last i [] u a l ou nil = one a l ou nil
  before_last i (w ∷ us) u a l ou (one b k ow before) = one b k ow (before_last i us u a l ou before)

  of_left : (n : ℕ) → Before (suc n) (remainders m row n) → Of (suc n) (left_of n)
  unfolding left_of
  of_left n before = of_reduced (suc n) (remainders m row n) before (alone (suc n)) (of_alone n)

  all_before : (n : ℕ) → Before (suc n) (remainders m row n)
  unfolding remainders remainder_of
  all_before zero = nil
  all_before (suc n) =
      rw (remainders-next n)
      (before_last (suc (suc n)) (remainders m row n) _ (suc n) (omega arith) (of_left n (all_before n))
      (before_more (suc n) (suc (suc n)) (remainders m row n) (omega arith) (all_before n)))

  -- ---- reducing, of the items alone

  step : Remainder → ℕ → ℕ
  step u x = if has u.last x then bit_xor u.left.items x else x

  items_by : List Remainder → ℕ → ℕ
  items_by [] x = x
  items_by (u ∷ us) x = items_by us (step u x)

  reduced-items : (us : List Remainder) (v : Combination) → (reduced_by us v).items ≡ items_by us v.items
  unfolding reduced_by reduced items_by step add
  reduced-items [] v = refl
  reduced-items (u ∷ us) v = reduced-items us (reduced u v) ∙ ap (items_by us) (go (has u.last v.items))
    where
      go : (b : Bool) → (if b then add u.left v else v).items ≡ (if b then bit_xor u.left.items v.items else v.items)
      go true = refl
      go false = refl

  -- it is linear
  step_xor : (u : Remainder) (x y : ℕ) → step u (bit_xor x y) ≡ bit_xor (step u x) (step u y)
  unfolding step xor
  step_xor u x y =
      ap (λ (b : Bool). if b then bit_xor u.left.items (bit_xor x y) else bit_xor x y) (has-xor u.last x y)
      ∙ go (has u.last x) (has u.last y) u.left.items
    where
      go : (b c : Bool) (z : ℕ) → (if xor b c then bit_xor z (bit_xor x y) else bit_xor x y)
          ≡ bit_xor (if b then bit_xor z x else x) (if c then bit_xor z y else y)
      go true true z = sym (xor_assoc z x (bit_xor z y) ∙ ap (bit_xor z) (xor-left x z y) ∙ xor_twice z (bit_xor x y))
      go true false z = sym (xor_assoc z x y)
      go false true z = xor-left z x y
      go false false z = refl

  items_by_xor : (us : List Remainder) (x y : ℕ) → items_by us (bit_xor x y) ≡ bit_xor (items_by us x) (items_by us y)
  unfolding items_by
  items_by_xor [] x y = refl
  items_by_xor (u ∷ us) x y = ap (items_by us) (step_xor u x y) ∙ items_by_xor us (step u x) (step u y)

  items_by_last : (us : List Remainder) (u : Remainder) (x : ℕ) → items_by (us ++ (u ∷ [])) x ≡ step u (items_by us x)
  unfolding items_by
  items_by_last [] u x = refl
  items_by_last (w ∷ us) u x = items_by_last us u (step w x)

  -- ---- it leaves nothing of the rows before

  -- no item is in the set
  abbrev Blank : ℕ → Type 0
  Blank x = (j : ℕ) → 1 ≤ j → j ≤ m → has j x ≡ false

  blank_xor : (x y : ℕ) → Blank x → Blank y → Blank (bit_xor x y)
  blank_xor x y bx by j l u = has-xor j x y ∙ ap₂ xor (bx j l u) (by j l u) ∙ xor-none false

  blank_none : Blank 0
  blank_none j l u = has-none j

  -- the last item is one of the set, or there is none
  last_in : ℕ → ℕ
  last_in x = greatest (λ j. has j x) m

  abbrev Last : ℕ → ℕ → Type 0
  Last x = Greatest (λ j. has j x) m

  last_is : (x : ℕ) → Last x (last_in x)
  unfolding last_in
  last_is x = greatest_is (λ j. has j x) m

  -- nothing comes of nothing
  step_blank : (u : Remainder) → Last u.left.items u.last → (x : ℕ) → Blank x → Blank (step u x)
  unfolding step
  step_blank u f x bx = go (has u.last x) refl f
    where
      go : (b : Bool) → has u.last x ≡ b → Last u.left.items u.last → Blank (if b then bit_xor u.left.items x else x)
      go true e (nowhere z bu) = blank_xor u.left.items x bu bx
      go true e (somewhere l h t) = absurd (not_both (has u.last x) e (bx u.last l h))
      go false e w = bx

  -- nor of a remainder by itself
  step_own : (u : Remainder) → Last u.left.items u.last → Blank (step u u.left.items)
  unfolding step
  step_own u f = go (has u.last u.left.items) refl f
    where
      go : (b : Bool) → has u.last u.left.items ≡ b → Last u.left.items u.last
          → Blank (if b then bit_xor u.left.items u.left.items else u.left.items)
      go true e w = rw (bits.xor_self u.left.items) blank_none
      go false e (nowhere z bu) = bu
      go false e (somewhere l h t) = absurd (not_both (has u.last u.left.items) t e)

  rows_blank : (n a : ℕ) → 1 ≤ a → a ≤ n → Blank (items_by (remainders m row n) (row a))
  unfolding remainder_of last_in left_of alone
  rows_blank zero a l h = absurd (omega arith)
  rows_blank (suc n) a l h = rw (remainders-next n, items_by_last (remainders m row n) (remainder_of m (left_of n)) (row a)) (go (λ w. rows_blank n a l w) (last_or a n h))
    where
      u : Remainder
      u = remainder_of m (left_of n)

      first : Last u.left.items u.last
      first = last_is (left_of n).items

      go : (a ≤ n → Blank (items_by (remainders m row n) (row a))) → (a ≡ suc n) ⊎ (a ≤ n) → Blank (step (remainder_of m (left_of n)) (items_by (remainders m row n) (row a)))
      go rest (inr w) = step_blank u first _ (rest w)
      go rest (inl e) = rw (ap row e, sym (reduced-items (remainders m row n) (alone (suc n)))) (step_own u first)

  all_blank : (n x : ℕ) → Blank x → Blank (items_by (remainders m row n) x)
  unfolding items_by remainders remainder_of last_in
  all_blank zero x bx = bx
  all_blank (suc n) x bx =
      rw (remainders-next n, items_by_last (remainders m row n) (remainder_of m (left_of n)) x)
      (step_blank _ (last_is (left_of n).items) _ (all_blank n x bx))

  -- nor of an XOR of them
  xor_of : List ℕ → ℕ
  xor_of [] = 0
  xor_of (a ∷ Q) = bit_xor (row a) (xor_of Q)

  has_xor_of : (j : ℕ) (Q : List ℕ) → has j (xor_of Q) ≡ parity (λ a. has j (row a)) Q
  unfolding xor_of parity
  has_xor_of j [] = has-none j
  has_xor_of j (a ∷ Q) = has-xor j (row a) (xor_of Q) ∙ ap (xor (has j (row a))) (has_xor_of j Q)

  xor_of_blank : (n : ℕ) (Q : List ℕ) → Earlier (suc n) Q → Blank (items_by (remainders m row n) (xor_of Q))
  unfolding xor_of
  xor_of_blank n [] e = all_blank n 0 blank_none
  xor_of_blank n (a ∷ Q) e =
      rw (items_by_xor (remainders m row n) (row a) (xor_of Q))
      (blank_xor _ _ (rows_blank n a e.0 (omega (arith, e.1))) (xor_of_blank n Q e.2))

  -- so nothing is left of a row that is such an XOR
  left_blank : (n : ℕ) (Q : List ℕ) → Earlier (suc n) Q
      → ((j : ℕ) → 1 ≤ j → j ≤ m → has j (row (suc n)) ≡ parity (λ a. has j (row a)) Q) → Blank (left_of n).items
  unfolding left_of alone
  left_blank n Q e same =
      rw (reduced-items us (alone (suc n)), sym (xor_cancel (items_by us (row (suc n))) (items_by us (xor_of Q))), sym (items_by_xor us (row (suc n)) (xor_of Q)))
      (blank_xor _ _ (all_blank n (bit_xor (row (suc n)) (xor_of Q)) equal) (xor_of_blank n Q e))
    where
      us : List Remainder
      us = remainders m row n

      equal : Blank (bit_xor (row (suc n)) (xor_of Q))
      equal j l u = has-xor j (row (suc n)) (xor_of Q) ∙ ap₂ xor (same j l u) (has_xor_of j Q) ∙ xor_self (parity (λ a. has j (row a)) Q)

  -- ---- by the number of a row

  pub remainders-length : (n : ℕ) → length (remainders m row n) ≡ n
  unfolding remainders
  remainders-length zero = refl
  remainders-length (suc n) = rw (remainders-next n) (length-append (remainders m row n) _ ∙ omega (arith, remainders-length n))

  remainder-at : (n k : ℕ) (d : Remainder) → k < n → get_or (remainders m row n) k d ≡ remainder_of m (left_of k)
  remainder-at zero k d h = absurd (omega arith)
  remainder-at (suc n) k d h = rw (remainders-next n) (go (λ w. remainder-at n k d w) (last_or (suc k) n h))
    where
      us : List Remainder
      us = remainders m row n

      go : (k < n → get_or us k d ≡ remainder_of m (left_of k)) → (suc k ≡ suc n) ⊎ (suc k ≤ n)
          → get_or (us ++ (remainder_of m (left_of n) ∷ [])) k d ≡ remainder_of m (left_of k)
      go rest (inl e) =
          let z : n ≡ k = omega arith in
          get_or_at us (remainder_of m (left_of n)) [] d k (remainders-length n ∙ z) ∙ ap (λ (x : ℕ). remainder_of m (left_of x)) z
      go rest (inr w) = List·getD-append us (remainder_of m (left_of n) ∷ []) d k (omega (arith, remainders-length n)) ∙ rest w

  module _ (n i : ℕ) (low : 1 ≤ i) (high : i ≤ n) (d : Remainder) where
    r : Remainder
    r = get_or (remainders m row n) (i - 1) d

    r_is : get_or (remainders m row n) (i - 1) d ≡ remainder_of m (left_of (i - 1))
    r_is = remainder-at n (i - 1) d (omega arith)

    next_row : suc (i - 1) ≡ i
    next_row = omega arith

    -- a row of which nothing is left is the XOR of the earlier rows found for it
    pub dependent : (get_or (remainders m row n) (i - 1) d).last ≡ 0 → (j : ℕ) → 1 ≤ j → j ≤ m
        → has j (row i) ≡ parity (λ a. has j (row a)) (listed (λ a. has a (get_or (remainders m row n) (i - 1) d).left.rows) (i - 1))
    unfolding remainder_of over last_in
    dependent e j l u = rw r_is (go (last_is (left_of (i - 1)).items))
      where
        found_rows : ℕ
        found_rows = (left_of (i - 1)).rows

        zero_last : last_in (left_of (i - 1)).items ≡ 0
        zero_last = sym (ap (λ (x : Remainder). x.last) r_is) ∙ e

        go : Last (left_of (i - 1)).items (last_in (left_of (i - 1)).items) → has j (row i) ≡ over found_rows (i - 1) j
        go (somewhere a b t) = absurd (omega (arith, zero_last))
        go (nowhere z blank) =
            sym (xor_same (over found_rows (i - 1) j) (has j (row i))
            (ap (λ (x : ℕ). xor (over found_rows (i - 1) j) (has j (row x))) (sym next_row)
            ∙ ap (λ (b : Bool). xor (over found_rows (i - 1) j) (b && has j (row (suc (i - 1))))) (sym O.own)
            ∙ sym (parity-next (λ a. has j (row a)) (λ a. has a found_rows) (i - 1))
            ∙ sym (O.sums j) ∙ blank j l u))
          where
            O : Of (suc (i - 1)) (left_of (i - 1))
            O = of_left (i - 1) (all_before (i - 1))

    -- a row of which something is left is none
    pub independent : ((get_or (remainders m row n) (i - 1) d).last ≡ 0 → ⊥) → (Q : List ℕ) → Earlier i Q
        → ((j : ℕ) → 1 ≤ j → j ≤ m → has j (row i) ≡ parity (λ a. has j (row a)) Q) → ⊥
    unfolding remainder_of last_in
    independent there Q e same = go (last_is (left_of (i - 1)).items)
      where
        blank : Blank (left_of (i - 1)).items
        blank = left_blank (i - 1) Q (rw next_row e) (λ j l u. rw next_row (same j l u))

        go : Last (left_of (i - 1)).items (last_in (left_of (i - 1)).items) → ⊥
        go (somewhere a b t) = not_both _ t (blank _ a b)
        go (nowhere z bx) = there (ap (λ (x : Remainder). x.last) r_is ∙ z)
