-- The laws of row sums: values of zeros add nothing, made rows add up, a row without a changed place keeps its sum, a change of one place adds
-- both values, and a message's row sums are had back from those of its tagged rows.
use Rattle.std.specs.Prelude.{◌≡◌, ◌&&◌, ◌∷◌, ◌⊎◌, ◌≤◌, ◌<◌, if◌then◌else◌}
use Rattle.fips197.proofs.Kit.{refl, sym, ap, ap₂, ◌∙◌, subst, Bool, true, false, List, [], inl, inr, ℕ, zero, suc, arith, eqb, length, get_or, eqb-true, eqb-false, eq-eqb, ne_eqb}
use mathlib.Core.Bool.{xor}
use Rattle.blocks.specs.Block.{◌⊕◌, zeros}
use Rattle.blocks.proofs.Xor.{⊕_comm, ⊕_assoc, ⊕-length, ⊕_self, ⊕-zeros, ⊕_cancel}
use Rattle.incidence.specs.Family.{Family, Lawful, Earlier, parity}
use Rattle.incidence.specs.Sum.{sum_over, row_sum, sum_of, expanded_in, expanded}
use Rattle.incidence.proofs.Counting.{last_or}

-- a value at every place
abbrev pub Values : (ℕ → List ℕ) → Type 0
Values value = (j : ℕ) → length (value j) ≡ 16

⊕-16 : (a b : List ℕ) → length a ≡ 16 → length b ≡ 16 → length (a ⊕ b) ≡ 16
⊕-16 a b p q = ⊕-length a b (omega arith) ∙ p

-- ---- sums over a test

pub sum_length : (p : ℕ → Bool) (value : ℕ → List ℕ) (n : ℕ) → Values value → length (sum_over p value n) ≡ 16
unfolding sum_over
sum_length p value zero v = refl
sum_length p value (suc n) v = go (sum_length p value n v) (p (suc n))
  where
    go : length (sum_over p value n) ≡ 16 → (t : Bool) → length (if t then sum_over p value n ⊕ value (suc n) else sum_over p value n) ≡ 16
    go ih true = ⊕-16 _ _ ih (v (suc n))
    go ih false = ih

-- tests and values that are equal where it counts
pub sum_ext : (p q : ℕ → Bool) (value other : ℕ → List ℕ) (n : ℕ) → ((j : ℕ) → 1 ≤ j → j ≤ n → p j ≡ q j)
    → ((j : ℕ) → 1 ≤ j → j ≤ n → q j ≡ true → value j ≡ other j) → sum_over p value n ≡ sum_over q other n
unfolding sum_over
sum_ext p q value other zero h k = refl
sum_ext p q value other (suc n) h k =
    rw (h (suc n) (omega arith) (omega arith), sum_ext p q value other n (λ j l u. h j l (omega arith)) (λ j l u. k j l (omega arith)))
    (go (q (suc n)) (k (suc n) (omega arith) (omega arith)))
  where
    go : (t : Bool) → (t ≡ true → value (suc n) ≡ other (suc n))
        → (if t then sum_over q other n ⊕ value (suc n) else sum_over q other n) ≡ (if t then sum_over q other n ⊕ other (suc n) else sum_over q other n)
    go true e = rw (e refl)
    go false e = refl

pub sum_never : (value : ℕ → List ℕ) (n : ℕ) → sum_over (λ j. false) value n ≡ zeros 16
unfolding sum_over
sum_never value zero = refl
sum_never value (suc n) = sum_never value n

-- a value of zeros adds nothing
pub adds_nothing : (t : Bool) (s x : List ℕ) → length s ≡ 16 → (t ≡ true → x ≡ zeros 16) → (if t then s ⊕ x else s) ≡ s
adds_nothing true s x l e = ap (λ (z : List ℕ). s ⊕ z) (e refl) ∙ ⊕-zeros s 16 (omega arith)
adds_nothing false s x l e = refl

-- so that places with one may be left out,
pub sum_without : (p q : ℕ → Bool) (value : ℕ → List ℕ) (n : ℕ) → Values value → ((j : ℕ) → 1 ≤ j → j ≤ n → q j ≡ false → value j ≡ zeros 16)
    → sum_over p value n ≡ sum_over (λ j. p j && q j) value n
unfolding sum_over
sum_without p q value zero v h = refl
sum_without p q value (suc n) v h =
    rw (sum_without p q value n v (λ j l u. h j l (omega arith))) (go (p (suc n)) (q (suc n)) (h (suc n) (omega arith) (omega arith)))
  where
    go : (a b : Bool) → (b ≡ false → value (suc n) ≡ zeros 16)
        → (if a then sum_over (λ j. p j && q j) value n ⊕ value (suc n) else sum_over (λ j. p j && q j) value n)
        ≡ (if a && b then sum_over (λ j. p j && q j) value n ⊕ value (suc n) else sum_over (λ j. p j && q j) value n)
    go true true e = refl
    go true false e = adds_nothing true _ (value (suc n)) (sum_length (λ j. p j && q j) value n v) (λ t. e refl)
    go false b e = refl

-- and so may those at the end
pub sum_front : (p : ℕ → Bool) (value : ℕ → List ℕ) (m n : ℕ) → Values value → m ≤ n → ((j : ℕ) → m < j → j ≤ n → value j ≡ zeros 16)
    → sum_over p value n ≡ sum_over p value m
unfolding sum_over
sum_front p value m zero v l h = let e : 0 ≡ m = omega arith in ap (sum_over p value) e
sum_front p value m (suc n) v l h =
    go (λ b. sum_front p value m n v b (λ j a c. h j a (omega arith))) (last_or m n l)
  where
    go : (m ≤ n → sum_over p value n ≡ sum_over p value m) → (m ≡ suc n) ⊎ (m ≤ n) → sum_over p value (suc n) ≡ sum_over p value m
    go rest (inl e) = ap (sum_over p value) (sym e)
    go rest (inr b) =
        adds_nothing (p (suc n)) (sum_over p value n) (value (suc n)) (sum_length p value n v) (λ t. h (suc n) (omega arith) (omega arith)) ∙ rest b

-- one more value on each side, where the sides differ in it or not
add-xor : (a b : Bool) (s t x : List ℕ) → length s ≡ 16 → length t ≡ 16 → length x ≡ 16
    → (if xor a b then (s ⊕ t) ⊕ x else s ⊕ t) ≡ (if a then s ⊕ x else s) ⊕ (if b then t ⊕ x else t)
unfolding xor
add-xor true true s t x p q r =
    sym (⊕_assoc s x (t ⊕ x)
    ∙ ap (λ (z : List ℕ). s ⊕ z) (ap (λ (z : List ℕ). x ⊕ z) (⊕_comm t x) ∙ sym (⊕_assoc x x t) ∙ ap (λ (z : List ℕ). z ⊕ t) zero_x ∙ ⊕_comm (zeros 16) t ∙ ⊕-zeros t 16 (omega arith)))
  where
    zero_x : x ⊕ x ≡ zeros 16
    zero_x = ⊕_self x ∙ ap zeros r
add-xor true false s t x p q r = ⊕_assoc s t x ∙ ap (λ (z : List ℕ). s ⊕ z) (⊕_comm t x) ∙ sym (⊕_assoc s x t)
add-xor false true s t x p q r = ⊕_assoc s t x
add-xor false false s t x p q r = refl

pub sum_xor : (p q : ℕ → Bool) (value : ℕ → List ℕ) (n : ℕ) → Values value
    → sum_over (λ j. xor (p j) (q j)) value n ≡ sum_over p value n ⊕ sum_over q value n
unfolding sum_over
sum_xor p q value zero v = sym (⊕-zeros (zeros 16) 16 (omega arith))
sum_xor p q value (suc n) v =
    rw (sum_xor p q value n v)
    (add-xor (p (suc n)) (q (suc n)) (sum_over p value n) (sum_over q value n) (value (suc n)) (sum_length p value n v) (sum_length q value n v) (v (suc n)))

-- the sum over the places that an odd number of the listed rows hold is the XOR of those rows' sums
pub sum_parity : (on : ℕ → ℕ → Bool) (value : ℕ → List ℕ) (n : ℕ) (rows : List ℕ) → Values value
    → sum_over (λ j. parity (λ a. on a j) rows) value n ≡ sum_of (λ a. sum_over (on a) value n) rows
unfolding sum_of parity
sum_parity on value n [] v = sum_never value n
sum_parity on value n (a ∷ rest) v =
    sum_xor (on a) (λ j. parity (λ r. on r j) rest) value n v ∙ ap (λ (z : List ℕ). sum_over (on a) value n ⊕ z) (sum_parity on value n rest v)

-- ---- rows of a family

module _ (F : Family) (value : ℕ → List ℕ) (v : Values value) (n : ℕ) where
  -- a row without a tag is the XOR of the rows that it is made of
  pub row_sum-made : Lawful F → n ≤ F.items → (i : ℕ) → 1 ≤ i → i ≤ F.rows → F.tag_of_row i ≡ 0
      → row_sum F value n i ≡ sum_of (row_sum F value n) (F.made i)
  unfolding row_sum
  row_sum-made L fits i l u e =
      sum_ext (F.on i) (λ j. parity (λ a. F.on a j) (F.made i)) value value n (λ j a b. L.adds_up i j l u e a (omega arith)) (λ j a b t. refl)
      ∙ sum_parity F.on value n (F.made i) v

-- a row none of whose places changed keeps its sum
pub row_sum-same : (F : Family) (value other : ℕ → List ℕ) (n i : ℕ) → ((j : ℕ) → 1 ≤ j → j ≤ n → F.on i j ≡ true → value j ≡ other j)
    → row_sum F value n i ≡ row_sum F other n i
unfolding row_sum
row_sum-same F value other n i h = sum_ext (F.on i) (F.on i) value other n (λ j l u. refl) h

-- after a change of the value at place k alone, a sum that counts it is the sum before XOR both values
pub sum_change : (p : ℕ → Bool) (value other : ℕ → List ℕ) (n k : ℕ) → Values value → Values other → 1 ≤ k → k ≤ n → p k ≡ true
    → ((j : ℕ) → 1 ≤ j → j ≤ n → (j ≡ k → ⊥) → value j ≡ other j)
    → sum_over p other n ≡ sum_over p value n ⊕ (value k ⊕ other k)
unfolding sum_over
sum_change p value other zero k v w l u e h = absurd (omega arith)
sum_change p value other (suc n) k v w l u e h =
    go (λ b. sum_change p value other n k v w l b e (λ j a c. h j a (omega arith))) (last_or k n u)
  where
    go : (k ≤ n → sum_over p other n ≡ sum_over p value n ⊕ (value k ⊕ other k)) → (k ≡ suc n) ⊎ (k ≤ n)
        → (if p (suc n) then sum_over p other n ⊕ other (suc n) else sum_over p other n)
        ≡ (if p (suc n) then sum_over p value n ⊕ value (suc n) else sum_over p value n) ⊕ (value k ⊕ other k)
    go rest (inl s) =
        let t : p (suc n) ≡ true = subst (λ (x : ℕ). p x ≡ true) s e in
        rw (t, s)
        (ap (λ (z : List ℕ). z ⊕ other (suc n)) (same ∙ sym (⊕_cancel (sum_over p value n) (value (suc n)) (omega (arith, v (suc n), sum_length p value n v))))
        ∙ ⊕_assoc (sum_over p value n ⊕ value (suc n)) (value (suc n)) (other (suc n)))
      where
        same : sum_over p other n ≡ sum_over p value n
        same = sum_ext p p other value n (λ j a b. refl) (λ j a b t. sym (h j a (omega arith) (λ z. omega arith)))
    go rest (inr b) = step (p (suc n))
      where
        last : value (suc n) ≡ other (suc n)
        last = h (suc n) (omega arith) (omega arith) (λ z. omega arith)

        step : (t : Bool) → (if t then sum_over p other n ⊕ other (suc n) else sum_over p other n)
            ≡ (if t then sum_over p value n ⊕ value (suc n) else sum_over p value n) ⊕ (value k ⊕ other k)
        step true =
            ap₂ ◌⊕◌ (rest b) (sym last)
            ∙ ⊕_assoc (sum_over p value n) (value k ⊕ other k) (value (suc n))
            ∙ ap (λ (z : List ℕ). sum_over p value n ⊕ z) (⊕_comm (value k ⊕ other k) (value (suc n)))
            ∙ sym (⊕_assoc (sum_over p value n) (value (suc n)) (value k ⊕ other k))
        step false = rest b

-- a row's sum after such a change
pub row_sum_change : (F : Family) (value other : ℕ → List ℕ) (n k i : ℕ) → Values value → Values other → 1 ≤ k → k ≤ n → F.on i k ≡ true
    → ((j : ℕ) → 1 ≤ j → j ≤ n → (j ≡ k → ⊥) → value j ≡ other j)
    → row_sum F other n i ≡ row_sum F value n i ⊕ (value k ⊕ other k)
unfolding row_sum
row_sum_change F value other n k i v w l u e h = sum_change (F.on i) value other n k v w l u e h

-- ---- rows had back from the tagged ones

pub earlier-at : (i : ℕ) (rows : List ℕ) → Earlier i rows → (k : ℕ) → k < length rows → (1 ≤ get_or rows k 0) × (get_or rows k 0 < i)
earlier-at i [] e k h = absurd (omega arith)
earlier-at i (a ∷ rest) e zero h = (e.0, e.1)
earlier-at i (a ∷ rest) e (suc k) h = earlier-at i rest e.2 k (omega arith)

pub sum_of_ext : (i : ℕ) (s z : ℕ → List ℕ) (rows : List ℕ) → Earlier i rows → ((a : ℕ) → 1 ≤ a → a < i → s a ≡ z a) → sum_of s rows ≡ sum_of z rows
unfolding sum_of
sum_of_ext i s z [] e h = refl
sum_of_ext i s z (a ∷ rest) e h = ap₂ ◌⊕◌ (h a e.0 e.1) (sum_of_ext i s z rest e.2 h)

pub sum_of-length : (i : ℕ) (s : ℕ → List ℕ) (rows : List ℕ) → Earlier i rows → ((a : ℕ) → 1 ≤ a → a < i → length (s a) ≡ 16) → length (sum_of s rows) ≡ 16
unfolding sum_of
sum_of-length i s [] e h = refl
sum_of-length i s (a ∷ rest) e h = ⊕-16 _ _ (h a e.0 e.1) (sum_of-length i s rest e.2 h)

module _ (F : Family) (L : Lawful F) where
  -- sums that add up are had back from the tags'
  module _ (tagged sum : ℕ → List ℕ) (tags : (k : ℕ) → 1 ≤ k → k ≤ F.tags → tagged k ≡ sum (F.row_of_tag k))
      (made : (i : ℕ) → 1 ≤ i → i ≤ F.rows → F.tag_of_row i ≡ 0 → sum i ≡ sum_of sum (F.made i)) where
    expanded_in_lem : (n i : ℕ) → 1 ≤ i → i ≤ n → i ≤ F.rows → expanded_in F tagged n i ≡ sum i
    unfolding expanded_in
    expanded_in_lem zero i a b u = absurd (omega arith)
    expanded_in_lem (suc n) i a b u = go (λ r c d. expanded_in_lem n r c d) (eqb (F.tag_of_row i) 0) refl
      where
        go : ((r : ℕ) → 1 ≤ r → r ≤ n → r ≤ F.rows → expanded_in F tagged n r ≡ sum r) → (t : Bool) → eqb (F.tag_of_row i) 0 ≡ t
            → (if t then sum_of (expanded_in F tagged n) (F.made i) else tagged (F.tag_of_row i)) ≡ sum i
        go ih true e =
            let z : F.tag_of_row i ≡ 0 = eqb-true _ 0 e in
            sum_of_ext i (expanded_in F tagged n) sum (F.made i) (L.earlier i a u z) (λ r c d. ih r c (omega arith) (omega arith)) ∙ sym (made i a u z)
        go ih false e =
            let z : F.tag_of_row i ≡ 0 → ⊥ = eqb-false _ 0 e in
            tags (F.tag_of_row i) (omega arith) (L.tag_high i a u) ∙ ap sum (L.row_back i a u (omega arith))

    pub expanded_all : (i : ℕ) → 1 ≤ i → i ≤ F.rows → expanded F tagged i ≡ sum i
    unfolding expanded
    expanded_all i a u = expanded_in_lem i i a (omega arith) u

  -- the tags' sums alone say what is had
  expanded_in_ext : (s z : ℕ → List ℕ) → ((k : ℕ) → 1 ≤ k → k ≤ F.tags → s k ≡ z k) → (n i : ℕ) → 1 ≤ i → i ≤ F.rows → expanded_in F s n i ≡ expanded_in F z n i
  unfolding expanded_in
  expanded_in_ext s z h zero i a u = refl
  expanded_in_ext s z h (suc n) i a u = go (λ r c d. expanded_in_ext s z h n r c d) (eqb (F.tag_of_row i) 0) refl
    where
      go : ((r : ℕ) → 1 ≤ r → r ≤ F.rows → expanded_in F s n r ≡ expanded_in F z n r) → (t : Bool) → eqb (F.tag_of_row i) 0 ≡ t
          → (if t then sum_of (expanded_in F s n) (F.made i) else s (F.tag_of_row i)) ≡ (if t then sum_of (expanded_in F z n) (F.made i) else z (F.tag_of_row i))
      go ih true e = sum_of_ext i (expanded_in F s n) (expanded_in F z n) (F.made i) (L.earlier i a u (eqb-true _ 0 e)) (λ r c d. ih r c (omega arith))
      go ih false e = let y : F.tag_of_row i ≡ 0 → ⊥ = eqb-false _ 0 e in h (F.tag_of_row i) (omega arith) (L.tag_high i a u)

  pub expanded_ext : (s z : ℕ → List ℕ) → ((k : ℕ) → 1 ≤ k → k ≤ F.tags → s k ≡ z k) → (i : ℕ) → 1 ≤ i → i ≤ F.rows → expanded F s i ≡ expanded F z i
  unfolding expanded
  expanded_ext s z h i a u = expanded_in_ext s z h i i a u

  -- as many steps as the row's number are enough
  expanded_in_enough : (s : ℕ → List ℕ) (n m i : ℕ) → 1 ≤ i → i ≤ n → i ≤ m → i ≤ F.rows → expanded_in F s n i ≡ expanded_in F s m i
  unfolding expanded_in
  expanded_in_enough s zero m i a b c u = absurd (omega arith)
  expanded_in_enough s (suc n) zero i a b c u = absurd (omega arith)
  expanded_in_enough s (suc n) (suc m) i a b c u = go (λ r d e f. expanded_in_enough s n m r d e f) (eqb (F.tag_of_row i) 0) refl
    where
      go : ((r : ℕ) → 1 ≤ r → r ≤ n → r ≤ m → r ≤ F.rows → expanded_in F s n r ≡ expanded_in F s m r) → (t : Bool) → eqb (F.tag_of_row i) 0 ≡ t
          → (if t then sum_of (expanded_in F s n) (F.made i) else s (F.tag_of_row i)) ≡ (if t then sum_of (expanded_in F s m) (F.made i) else s (F.tag_of_row i))
      go ih true e =
          sum_of_ext i (expanded_in F s n) (expanded_in F s m) (F.made i) (L.earlier i a u (eqb-true _ 0 e))
          (λ r d f. ih r d (omega arith) (omega arith) (omega arith))
      go ih false e = refl

  -- a row without a tag is had from the rows that it is made of, and another from its tag
  pub expanded-made : (s : ℕ → List ℕ) (i : ℕ) → 1 ≤ i → i ≤ F.rows → F.tag_of_row i ≡ 0 → expanded F s i ≡ sum_of (expanded F s) (F.made i)
  unfolding expanded expanded_in
  expanded-made s zero a u z = absurd (omega arith)
  expanded-made s (suc i) a u z =
      ap (λ (t : Bool). if t then sum_of (expanded_in F s i) (F.made (suc i)) else s (F.tag_of_row (suc i))) (eq-eqb _ 0 z)
      ∙ sum_of_ext (suc i) (expanded_in F s i) (expanded F s) (F.made (suc i)) (L.earlier (suc i) a u z)
      (λ r c d. expanded_in_enough s i r r c (omega arith) (omega arith) (omega arith))

  pub expanded-tagged : (s : ℕ → List ℕ) (i : ℕ) → 1 ≤ i → 1 ≤ F.tag_of_row i → expanded F s i ≡ s (F.tag_of_row i)
  unfolding expanded expanded_in
  expanded-tagged s zero a t = absurd (omega arith)
  expanded-tagged s (suc i) a t =
      let z : F.tag_of_row (suc i) ≡ 0 → ⊥ = λ e. omega arith in
      ap (λ (b : Bool). if b then sum_of (expanded_in F s i) (F.made (suc i)) else s (F.tag_of_row (suc i))) (ne_eqb _ 0 z)

  -- a message's row sums are had back from those of its tagged rows
  pub expanded-row_sum : (value : ℕ → List ℕ) → Values value → (n : ℕ) → n ≤ F.items → (i : ℕ) → 1 ≤ i → i ≤ F.rows
      → expanded F (λ k. row_sum F value n (F.row_of_tag k)) i ≡ row_sum F value n i
  expanded-row_sum value v n fits =
      expanded_all (λ k. row_sum F value n (F.row_of_tag k)) (row_sum F value n) (λ k l u. refl) (row_sum-made F value v n L fits)
