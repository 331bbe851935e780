-- The rows of a circulant are turns of one sequence of bits. What steps back say of one row they say of that sequence, at every place of it,
-- and of every XOR of its turns. So where one of these has degree n, steps that reach fewer than m − n rows back yield no row: the argument
-- from degrees, for any m and any list.
use Rattle.std.specs.Prelude.{◌≡◌, ◌∷◌, ◌+◌, ◌-◌, ◌*◌, ◌/◌, ◌%◌, ◌≤◌, ◌<◌}
use Rattle.fips197.proofs.Kit.{refl, sym, ap, ap₂, ◌∙◌, Bool, true, false, xor, true≢false, List, [], map, ℕ, mod-add-mod, mod-lt, div-add-mod', add-mul-mod_self_right, arith, ltb, ltb-true, ltb-false}
use Rattle.incidence.specs.Family.{parity}
use Rattle.plane.specs.Plane.{member, on}
use Rattle.plane.proofs.Cyclic.{on-inside}
use Rattle.incidence.proofs.Parity.{parity_ext, parity-none, parity_swap}
use Rattle.derivation.specs.Shortest.{Within, xor_back, Yields}
use Rattle.derivation.proofs.Matrices.{within_ext}

-- whether the XOR of the turns of D by the steps of U holds place x
unfoldable pub turned : ℕ → List ℕ → List ℕ → ℕ → Bool
turned m D U x = parity (λ u. member ((x + u) % m) D) U

-- a place of row i, counted from it, is a card
pub record Card (m i y : ℕ) : Type 0 where
  pub card : ℕ
  pub low : 1 ≤ card
  pub high : card ≤ m
  pub place : (card + m - i) % m ≡ y % m

module _ (m : ℕ) (D : List ℕ) (some : 0 < m) where
  -- whether the remainder of x is in D
  abbrev hit : ℕ → Bool
  hit x = member (x % m) D

  card-at : (i y : ℕ) → i ≤ m → Card m i y
  card-at i y u = go (ltb 0 ((y + i) % m)) refl
    where
      small : (y + i) % m < m
      small = mod-lt (y + i) some

      whole : (y + i) / m * m + (y + i) % m ≡ y + i
      whole = div-add-mod' (y + i) m

      -- a number from which y is had by whole turns
      turns : (c e : ℕ) → c + m - i + (y + i) / m * m ≡ y + e * m → (c + m - i) % m ≡ y % m
      turns c e h =
          sym (add-mul-mod_self_right (c + m - i) ((y + i) / m) m) ∙ ap (λ (x : ℕ). x % m) h ∙ add-mul-mod_self_right y e m

      go : (b : Bool) → ltb 0 ((y + i) % m) ≡ b → Card m i y
      go true e =
          let lo : 0 < (y + i) % m = ltb-true 0 ((y + i) % m) e in
          record { card = (y + i) % m; low = lo; high = omega (arith, small); place = turns ((y + i) % m) 1 (omega (arith, whole, small)) }
      go false e =
          let hi : (y + i) % m ≤ 0 = ltb-false 0 ((y + i) % m) e in
          record { card = m; low = some; high = omega arith; place = turns m 2 (omega (arith, whole, hi)) }

  -- the rows so many steps back from row i, at card j, are so many steps from the remainder of j − i
  steps_back_lem : (t i j : ℕ) (Q : List ℕ) → Within t Q → t < i → i ≤ m → 1 ≤ j → j ≤ m
      → parity (λ a. on m D a j) (map (λ k. i - k) Q) ≡ parity (λ k. hit ((j + m - i) % m + k)) Q
  unfolding parity
  steps_back_lem t i j [] w l u lj uj = refl
  steps_back_lem t i j (k ∷ Q) w l u lj uj =
      let e : j + m - (i - k) ≡ j + m - i + k = omega (arith, w.0, w.1) in
      ap₂ xor
      (on-inside m D (i - k) j (omega (arith, w.1)) (omega arith) lj uj
      ∙ ap (λ (y : ℕ). member y D) (ap (λ (y : ℕ). y % m) e ∙ sym (mod-add-mod (j + m - i) m k)))
      (steps_back_lem t i j Q w.2 l u lj uj)

  -- what yields one row yields the sequence
  recurrence : (t i : ℕ) (Q : List ℕ) → Within t Q → t < i → i ≤ m
      → ((j : ℕ) → 1 ≤ j → j ≤ m → on m D i j ≡ parity (λ a. on m D a j) (map (λ k. i - k) Q))
      → (y : ℕ) → hit y ≡ parity (λ k. hit (y + k)) Q
  recurrence t i Q w l u given y =
      let c : Card m i y = card-at i y u in
      ap (λ (z : ℕ). member z D) (sym c.place)
      ∙ sym (on-inside m D i c.card (omega arith) u c.low c.high)
      ∙ given c.card c.low c.high
      ∙ steps_back_lem t i c.card Q w l u c.low c.high
      ∙ parity_ext (λ k. hit ((c.card + m - i) % m + k)) (λ k. hit (y + k))
      (λ k. ap (λ (z : ℕ). member ((z + k) % m) D) c.place ∙ ap (λ (z : ℕ). member z D) (mod-add-mod y m k)) Q

  -- and every XOR of its turns
  turned_recurs : (U Q : List ℕ) → ((y : ℕ) → hit y ≡ parity (λ k. hit (y + k)) Q) → (x : ℕ)
      → turned m D U x ≡ parity (λ k. turned m D U (x + k)) Q
  unfolding turned
  turned_recurs U Q r x =
      parity_ext (λ u. hit (x + u)) (λ u. parity (λ k. hit (x + u + k)) Q) (λ u. r (x + u)) U
      ∙ parity_swap (λ u k. hit (x + u + k)) U Q
      ∙ parity_ext (λ k. parity (λ u. hit (x + u + k)) U) (λ k. parity (λ u. hit (x + k + u)) U)
      (λ k. parity_ext (λ u. hit (x + u + k)) (λ u. hit (x + k + u)) (λ u. let e : x + u + k ≡ x + k + u = omega arith in ap hit e) U) Q

  -- one that holds place n and none of the t − 1 behind it keeps steps of fewer than t rows from yielding a row
  pub no_row : (U : List ℕ) (n t : ℕ) → turned m D U n ≡ true → ((k : ℕ) → 1 ≤ k → k < t → turned m D U (n + k) ≡ false)
      → (t' : ℕ) → t' < t → (Q : List ℕ) → Within t' Q → (i : ℕ) → t' < i → i ≤ m → Yields m (on m D) Q i → ⊥
  unfolding xor_back
  no_row U n t here above t' l Q w i li ui given =
      true≢false (sym here
      ∙ turned_recurs U Q (recurrence t' i Q w li ui given) n
      ∙ within_ext (λ k. turned m D U (n + k)) (λ k. false) t' (λ k a b. above k a (omega arith)) Q w
      ∙ parity-none Q)
