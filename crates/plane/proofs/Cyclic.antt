-- What the rules of a difference list and a row pattern give, by one argument for every list: 000, section 6.4, properties A and B and
-- Proposition 2, and that the pattern yields every later row.
use Rattle.std.specs.Prelude.{◌≡◌, ◌&&◌, ◌∷◌, ◌+◌, ◌-◌, ◌≤◌, ◌<◌, ◌%◌}
use Rattle.fips197.proofs.Kit.{refl, sym, ap, ap₂, ◌∙◌, Bool, true, false, Bool·beq, xor, List, [], map, ℕ, zero, suc, add-mod_right, mod-add-mod, mod-lt, mod-eq_of_lt, mod_self, arith, eqb, ltb, length, get_or, ltb-true, ltb-false, eqb-true, lt-ltb, le-leb}
use Rattle.incidence.specs.Count.{count_up_to, inside}
use Rattle.incidence.specs.Family.{Earlier, parity}
use Rattle.incidence.proofs.Booleans.{and_left, and_right, beq_eq}
use Rattle.incidence.proofs.Counting.{inside-low, inside-high, inside_yes, count_ext, every, every_at}
use Rattle.plane.specs.Plane.{member, pairs, on, made}
use Rattle.plane.specs.Walk.{above}
use Rattle.plane.proofs.Ranks.{under, rank, not-member, not_member_top, count_members, many_under, count_rank, rank_all, count_add, count_down, count_back}

-- every entry is from 1 to t
abbrev pub within : ℕ → List ℕ → Bool
within t [] = true
within t (k ∷ P) = inside t k && within t P

pub within-at : (t : ℕ) (P : List ℕ) → within t P ≡ true → (k : ℕ) → k < length P → get_or P k 0 ≤ t
within-at t [] h k l = absurd (omega arith)
within-at t (x ∷ P) h zero l = inside-high t x (and_left (inside t x) (within t P) h)
within-at t (x ∷ P) h (suc k) l = within-at t P (and_right (inside t x) (within t P) h) k (omega arith)

-- the difference δ + 1 is had once
abbrev pub once_test : ℕ → List ℕ → ℕ → Bool
once_test m D δ = eqb (pairs m D (suc δ)) 1

-- x is in D exactly where an odd number of the pattern's steps from x are
abbrev pub pattern_test : ℕ → List ℕ → List ℕ → ℕ → Bool
pattern_test m D P x = Bool·beq (member x D) (parity (λ k. member ((x + k) % m) D) P)

-- the rules, each a test that can be computed
pub record Rules (m t d : ℕ) (D P : List ℕ) : Type 0 where
  pub some : 0 < m
  pub fits : t ≤ m
  pub rises : above 0 D ≡ true
  pub below : under m D ≡ true
  pub size : length D ≡ suc d
  pub once : every (once_test m D) (m - 1) ≡ true
  pub near : within t P ≡ true
  pub yields : every (pattern_test m D P) m ≡ true

pub on-inside : (m : ℕ) (D : List ℕ) (i j : ℕ) → 1 ≤ i → i ≤ m → 1 ≤ j → j ≤ m → on m D i j ≡ member ((j + m - i) % m) D
unfolding on
on-inside m D i j a b c d = rw (inside_yes m i a b, inside_yes m j c d)

-- counted from the other end, the rows are the cards and the cards the rows
pub turned : (m : ℕ) (D : List ℕ) (i j : ℕ) → 1 ≤ i → i ≤ m → 1 ≤ j → j ≤ m → on m D i j ≡ on m D (m + 1 - j) (m + 1 - i)
turned m D i j a b c d =
    let e : j + m - i ≡ m + 1 - i + m - (m + 1 - j) = omega arith in
    on-inside m D i j a b c d
    ∙ ap (λ (x : ℕ). member (x % m) D) e
    ∙ sym (on-inside m D (m + 1 - j) (m + 1 - i) (omega arith) (omega arith) (omega arith) (omega arith))

module _ (m t d : ℕ) (D P : List ℕ) (R : Rules m t d D P) where
  -- whether the remainder of x is in D
  abbrev pub hit : ℕ → Bool
  hit x = member (x % m) D

  hit_again : (x : ℕ) → hit (m + x) ≡ hit x
  hit_again x = let e : m + x ≡ x + m = omega arith in rw (e, add-mod_right x m)

  hit_member : (x : ℕ) → x ≤ m → hit x ≡ member x D
  hit_member x u = go (ltb x m) refl
    where
      go : (b : Bool) → ltb x m ≡ b → hit x ≡ member x D
      go true e = let l : x < m = ltb-true x m e in rw (mod-eq_of_lt l)
      go false e =
          let z : x ≡ m = omega (arith, ltb-false x m e) in
          rw (z, mod_self m) (not-member 0 D R.rises 0 (omega arith) ∙ sym (not_member_top m D R.below))

  pub count_hits : (n : ℕ) → n ≤ m → count_up_to hit n ≡ rank D n
  count_hits n u = count_ext hit (λ x. member x D) n (λ x a b. hit_member x (omega arith)) ∙ count_rank D R.rises n

  pub count_all : count_up_to hit m ≡ suc d
  count_all = count_hits m (omega arith) ∙ rank_all m D R.below ∙ R.size

  -- past a whole turn
  pub count_turn : (n : ℕ) → count_up_to hit (m + n) ≡ suc d + count_up_to hit n
  count_turn n = count_add hit m n ∙ ap₂ ◌+◌ count_all (count_ext (λ k. hit (m + k)) hit n (λ k a b. hit_again k))

  -- m numbers in a row are a whole turn, wherever they start
  whole : (h : ℕ → Bool) → ((x : ℕ) → h (m + x) ≡ h x) → (a : ℕ) → count_up_to (λ k. h (a + k)) m ≡ count_up_to h m
  whole h again a =
      let e : a + m ≡ m + a = omega arith in
      omega (
        arith,
        count_add h a m,
        ap (count_up_to h) e,
        count_add h m a,
        count_ext (λ k. h (m + k)) h a (λ k l u. again k),
      )

  -- a card's rows fall along the remainders
  down : (h : ℕ → Bool) → ((x : ℕ) → h (m + x) ≡ h x) → (j : ℕ) → 1 ≤ j → count_up_to (λ i. h (j + m - i)) m ≡ count_up_to h m
  down h again j l =
      let e : j + m ≡ j - 1 + suc m = omega arith in
      rw e (count_down h (j - 1) m ∙ whole h again (j - 1))

  -- property A: a card is on d + 1 rows, and a row holds d + 1 cards
  pub column-weight : (j : ℕ) → 1 ≤ j → j ≤ m → count_up_to (λ i. on m D i j) m ≡ suc d
  column-weight j l u =
      count_ext (λ i. on m D i j) (λ i. hit (j + m - i)) m (λ i a b. on-inside m D i j a b l u) ∙ down hit hit_again j l ∙ count_all

  pub row-weight : (i : ℕ) → 1 ≤ i → i ≤ m → count_up_to (λ j. on m D i j) m ≡ suc d
  row-weight i l u =
      count_ext (λ j. on m D i j) (λ j. on m D (m + 1 - j) (m + 1 - i)) m (λ j a b. turned m D i j l u a b)
      ∙ count_back (λ r. on m D r (m + 1 - i)) m
      ∙ column-weight (m + 1 - i) (omega arith) (omega arith)

  -- every nonzero remainder is a difference of two members once
  pub once_at : (δ : ℕ) → 1 ≤ δ → δ < m → pairs m D δ ≡ 1
  once_at zero l u = absurd (omega arith)
  once_at (suc δ) l u = eqb-true (pairs m D (suc δ)) 1 (every_at (once_test m D) (m - 1) R.once δ (omega arith))

  -- x and x + δ are both hit
  abbrev twice : ℕ → ℕ → Bool
  twice δ x = hit x && hit (x + δ)

  twice_again : (δ x : ℕ) → twice δ (m + x) ≡ twice δ x
  twice_again δ x = let e : m + x + δ ≡ m + (x + δ) = omega arith in rw e (ap₂ ◌&&◌ (hit_again x) (hit_again (x + δ)))

  -- once in a turn
  twice_once : (δ : ℕ) → 1 ≤ δ → δ < m → count_up_to (twice δ) m ≡ 1
  unfolding pairs
  twice_once δ l u =
      count_ext (twice δ) (λ x. member x D && hit (x + δ)) m (λ x a b. ap (λ (s : Bool). s && hit (x + δ)) (hit_member x b))
      ∙ count_members (λ x. hit (x + δ)) D R.rises m
      ∙ many_under (λ e. hit (e + δ)) m D R.below
      ∙ once_at δ l u

  -- property B: two cards share one row, and two rows one card. First where the other stands δ further round.
  columns_by : (δ j k : ℕ) → 1 ≤ δ → δ < m → 1 ≤ j → j ≤ m → 1 ≤ k → k ≤ m
      → ((i : ℕ) → 1 ≤ i → i ≤ m → (k + m - i) % m ≡ (j + m - i + δ) % m) → count_up_to (λ i. on m D i j && on m D i k) m ≡ 1
  columns_by δ j k l u lj uj lk uk h =
      count_ext (λ i. on m D i j && on m D i k) (λ i. twice δ (j + m - i)) m
      (λ i a b. ap₂ ◌&&◌ (on-inside m D i j a b lj uj) (on-inside m D i k a b lk uk ∙ ap (λ (y : ℕ). member y D) (h i a b)))
      ∙ down (twice δ) (twice_again δ) j lj
      ∙ twice_once δ l u

  pub columns_share : (j k : ℕ) → 1 ≤ j → j ≤ m → 1 ≤ k → k ≤ m → (k ≡ j → ⊥) → count_up_to (λ i. on m D i j && on m D i k) m ≡ 1
  columns_share j k lj uj lk uk ne = go (ltb j k) refl
    where
      go : (b : Bool) → ltb j k ≡ b → count_up_to (λ i. on m D i j && on m D i k) m ≡ 1
      go true e =
          let l : j < k = ltb-true j k e in
          columns_by (k - j) j k (omega arith) (omega arith) lj uj lk uk
          (λ i a b. let z : k + m - i ≡ j + m - i + (k - j) = omega arith in ap (λ (y : ℕ). y % m) z)
      go false e =
          let l : k < j = omega (arith, ltb-false j k e) in
          columns_by (m + k - j) j k (omega arith) (omega arith) lj uj lk uk
          (λ i a b. let z : j + m - i + (m + k - j) ≡ k + m - i + m = omega arith in rw (z, add-mod_right (k + m - i) m))

  pub rows_share : (i k : ℕ) → 1 ≤ i → i ≤ m → 1 ≤ k → k ≤ m → (k ≡ i → ⊥) → count_up_to (λ j. on m D i j && on m D k j) m ≡ 1
  rows_share i k li ui lk uk ne =
      count_ext (λ j. on m D i j && on m D k j) (λ j. on m D (m + 1 - j) (m + 1 - i) && on m D (m + 1 - j) (m + 1 - k)) m
      (λ j a b. ap₂ ◌&&◌ (turned m D i j li ui a b) (turned m D k j lk uk a b))
      ∙ count_back (λ r. on m D r (m + 1 - i) && on m D r (m + 1 - k)) m
      ∙ columns_share (m + 1 - i) (m + 1 - k) (omega arith) (omega arith) (omega arith) (omega arith) (λ e. ne (omega arith))

  -- ---- the pattern

  near_low : (k : ℕ) (Q : List ℕ) → within t (k ∷ Q) ≡ true → 1 ≤ k
  near_low k Q w = inside-low t k (and_left (inside t k) (within t Q) w)

  near_high : (k : ℕ) (Q : List ℕ) → within t (k ∷ Q) ≡ true → k ≤ t
  near_high k Q w = inside-high t k (and_left (inside t k) (within t Q) w)

  -- the pattern's steps back from row i, at card j, are its steps from the remainder of j − i
  steps : (i j : ℕ) (Q : List ℕ) → within t Q ≡ true → t < i → i ≤ m → 1 ≤ j → j ≤ m
      → parity (λ a. on m D a j) (map (λ k. i - k) Q) ≡ parity (λ k. member (((j + m - i) % m + k) % m) D) Q
  unfolding parity
  steps i j [] w l u lj uj = refl
  steps i j (k ∷ Q) w l u lj uj =
      let a : 1 ≤ k = near_low k Q w in
      let b : k ≤ t = near_high k Q w in
      let e : j + m - (i - k) ≡ j + m - i + k = omega arith in
      ap₂ xor
      (on-inside m D (i - k) j (omega arith) (omega arith) lj uj
      ∙ ap (λ (y : ℕ). member y D) (ap (λ (y : ℕ). y % m) e ∙ sym (mod-add-mod (j + m - i) m k)))
      (steps i j Q (and_right (inside t k) (within t Q) w) l u lj uj)

  made_later : (i : ℕ) → t < i → i ≤ m → made m t P i ≡ map (λ k. i - k) P
  unfolding made
  made_later i l u = rw (lt-ltb t i l, le-leb i m u)

  -- a row past the tagged ones is the XOR of its pattern's rows
  pub pattern_yields : (i j : ℕ) → t < i → i ≤ m → 1 ≤ j → j ≤ m → on m D i j ≡ parity (λ a. on m D a j) (made m t P i)
  pattern_yields i j l u lj uj =
      on-inside m D i j (omega arith) u lj uj
      ∙ beq_eq _ _ (every_at (pattern_test m D P) m R.yields ((j + m - i) % m) (mod-lt (j + m - i) R.some))
      ∙ sym (steps i j P R.near l u lj uj)
      ∙ ap (parity (λ a. on m D a j)) (sym (made_later i l u))

  back_earlier : (i : ℕ) (Q : List ℕ) → within t Q ≡ true → t < i → Earlier i (map (λ k. i - k) Q)
  back_earlier i [] w l = tt
  back_earlier i (k ∷ Q) w l =
      let a : 1 ≤ k = near_low k Q w in
      let b : k ≤ t = near_high k Q w in
      (omega arith, omega arith, back_earlier i Q (and_right (inside t k) (within t Q) w) l)

  pub made-earlier : (i : ℕ) → t < i → i ≤ m → Earlier i (made m t P i)
  made-earlier i l u = rw (made_later i l u) (back_earlier i P R.near l)
