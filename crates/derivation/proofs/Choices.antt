-- Of any matrix whose first t rows are independent: two lists of steps that yield row t + 1 have the same steps an odd number of times. So one
-- choice of steps alone yields it, and no list of fewer does.
use Rattle.std.specs.Prelude.{◌≡◌, ◌&&◌, ◌∷◌, ◌++◌, ◌⊎◌, ◌+◌, ◌-◌, ◌≤◌, ◌<◌}
use Rattle.fips197.proofs.Kit.{refl, sym, ap, ap₂, ◌∙◌, Bool, true, false, xor, and-true, and-false, and_comm, List, [], inl, inr, ℕ, zero, suc, arith, eqb, length, eqb-true, eqb-false, eq-eqb, ne_eqb}
use Rattle.incidence.specs.Count.{indicator, count_up_to, listed}
use Rattle.incidence.specs.Family.{parity}
use Rattle.incidence.proofs.Counting.{last_or, bit-most, count_ext, count_none}
use Rattle.incidence.proofs.Booleans.{not_both}
use Rattle.incidence.proofs.Listing.{listed-length, listed_ext}
use Rattle.incidence.proofs.Parity.{xor_turn, xor-none, xor_self, xor_same, parity-none, parity-append, parity-map, parity_swap, parity-next}
use Rattle.derivation.specs.Shortest.{Within, xor_back, Pattern, OnlyPattern, FewestSteps, Independent}
use Rattle.derivation.proofs.Matrices.{within_ext, listed-within, back, back_within}

-- ---- the parity of a test over the numbers that pass another

-- the two tests may change places
parity_turn : (p c : ℕ → Bool) (n : ℕ) → parity p (listed c n) ≡ parity c (listed p n)
unfolding parity
parity_turn p c zero = refl
parity_turn p c (suc n) =
    parity-next p c n ∙ ap₂ xor (parity_turn p c n) (and_comm (c (suc n)) (p (suc n))) ∙ sym (parity-next c p n)

-- a test that k alone passes says whether k is listed
parity_single : (p c : ℕ → Bool) (k n : ℕ) → 1 ≤ k → k ≤ n → p k ≡ true → ((x : ℕ) → (x ≡ k → ⊥) → p x ≡ false) → parity p (listed c n) ≡ c k
parity_single p c k zero l u here others = absurd (omega arith)
parity_single p c k (suc n) l u here others =
    parity-next p c n ∙ go (λ b. parity_single p c k n l b here others) (last_or k n u)
  where
    last : Bool
    last = c (suc n)

    go : (k ≤ n → parity p (listed c n) ≡ c k) → (k ≡ suc n) ⊎ (k ≤ n) → xor (parity p (listed c n)) (last && p (suc n)) ≡ c k
    go rest (inl e) =
        ap₂ xor (within_ext p (λ x. false) n (λ x a b. others x (λ q. omega arith)) (listed c n) (listed-within c n) ∙ parity-none (listed c n))
        (ap (λ (b : Bool). last && b) (ap p (sym e) ∙ here) ∙ and-true last)
        ∙ xor-none last
        ∙ ap c (sym e)
    go rest (inr b) =
        ap₂ xor (rest b) (ap (λ (b : Bool). last && b) (others (suc n) (λ q. omega arith)) ∙ and-false last) ∙ xor_turn (c k) false ∙ xor-none (c k)

-- ---- how often a list has a number

-- whether Q has k an odd number of times
abbrev odd : List ℕ → ℕ → Bool
odd Q k = parity (λ x. eqb x k) Q

odd_listed : (c : ℕ → Bool) (t k : ℕ) → 1 ≤ k → k ≤ t → odd (listed c t) k ≡ c k
odd_listed c t k l u = parity_single (λ x. eqb x k) c k t l u (eq-eqb k k refl) (λ x q. ne_eqb x k q)

-- only these count
parity_odd : (p : ℕ → Bool) (t : ℕ) (Q : List ℕ) → Within t Q → parity p Q ≡ parity p (listed (odd Q) t)
parity_odd p t Q w =
    within_ext p (λ x. parity (eqb x) (listed p t)) t
    (λ x a b. sym (parity_single (eqb x) p x t a b (eq-eqb x x refl) (λ y q. ne_eqb x y (λ e. q (sym e))))) Q w
    ∙ parity_swap eqb Q (listed p t)
    ∙ parity_turn (odd Q) p t

-- one number turned from even to odd, or back
count_turned : (c : ℕ → Bool) (y n : ℕ) → count_up_to (λ k. xor (eqb y k) (c k)) n ≤ suc (count_up_to c n)
count_turned c y zero = omega arith
count_turned c y (suc n) = go (count_turned c y n) (eqb y (suc n)) refl
  where
    turned : ℕ → Bool
    turned k = xor (eqb y k) (c k)

    go : count_up_to turned n ≤ suc (count_up_to c n) → (b : Bool) → eqb y (suc n) ≡ b
        → count_up_to turned n + indicator (turned (suc n)) ≤ suc (count_up_to c n + indicator (c (suc n)))
    go rest true e =
        let z : y ≡ suc n = eqb-true y (suc n) e in
        let h : count_up_to turned n ≡ count_up_to c n
        = count_ext turned c n (λ k a b. ap (λ (x : Bool). xor x (c k)) (ne_eqb y k (λ q. omega arith)) ∙ xor-none (c k)) in
        omega (arith, bit-most (turned (suc n)))
    go rest false e = omega (arith, ap indicator (ap (λ (x : Bool). xor x (c (suc n))) e ∙ xor-none (c (suc n))))

odd_few : (t : ℕ) (Q : List ℕ) → count_up_to (odd Q) t ≤ length Q
unfolding parity
odd_few t [] = omega (arith, count_none (λ k. false) t (λ k a b q. not_both false q refl))
odd_few t (y ∷ Q) = omega (arith, count_turned (odd Q) y t, odd_few t Q)

-- a step back from row t + 1, and the row that it leads to
odd_back : (t : ℕ) (Q : List ℕ) → Within t Q → (k : ℕ) → 1 ≤ k → k ≤ t → odd Q k ≡ odd (back t Q) (suc t - k)
odd_back t Q w k l u =
    within_ext (λ x. eqb x k) (λ x. eqb (suc t - x) (suc t - k)) t (λ x a b. go x a b (eqb x k) refl) Q w
    ∙ sym (parity-map (λ a. eqb a (suc t - k)) (λ x. suc t - x) Q)
  where
    go : (x : ℕ) → 1 ≤ x → x ≤ t → (b : Bool) → eqb x k ≡ b → eqb x k ≡ eqb (suc t - x) (suc t - k)
    go x a b true e = e ∙ sym (eq-eqb (suc t - x) (suc t - k) (ap (λ (y : ℕ). suc t - y) (eqb-true x k e)))
    go x a b false e = e ∙ sym (ne_eqb (suc t - x) (suc t - k) (λ q. eqb-false x k e (omega arith)))

within_both : (t : ℕ) (P Q : List ℕ) → Within t P → Within t Q → Within t (P ++ Q)
within_both t [] Q u w = w
within_both t (k ∷ P) Q u w = (u.0, u.1, within_both t P Q u.2 w)

-- ---- the steps of two patterns

module _ (m : ℕ) (on : ℕ → ℕ → Bool) (t : ℕ) (free : Independent m on t) (more : t < m) where
  -- all rows that the two lead back to, from row t + 1, XOR to nothing
  same_steps : (P Q : List ℕ) → Pattern m on t P → Pattern m on t Q → (k : ℕ) → 1 ≤ k → k ≤ t → odd P k ≡ odd Q k
  unfolding xor_back
  same_steps P Q p q k l u =
      odd_back t P p.within k l u
      ∙ xor_same (odd (back t P) (suc t - k)) (odd (back t Q) (suc t - k))
      (sym (parity-append (λ x. eqb x (suc t - k)) (back t P) (back t Q)) ∙ free (odd rows) none (suc t - k) (omega arith) (omega arith))
      ∙ sym (odd_back t Q q.within k l u)
    where
      rows : List ℕ
      rows = back t P ++ back t Q

      none : (j : ℕ) → 1 ≤ j → j ≤ m → parity (λ a. on a j) (listed (odd rows) t) ≡ false
      none j lj uj =
          sym (parity_odd (λ a. on a j) t rows (within_both t (back t P) (back t Q) (back_within t P p.within) (back_within t Q q.within)))
          ∙ parity-append (λ a. on a j) (back t P) (back t Q)
          ∙ ap₂ xor (sym (p.yields (suc t) (omega arith) (omega arith) j lj uj)) (sym (q.yields (suc t) (omega arith) (omega arith) j lj uj))
          ∙ xor_self (on (suc t) j)

  module _ (c : ℕ → Bool) (pattern : Pattern m on t (listed c t)) where
    pub only_pattern_by : OnlyPattern m on t (listed c t)
    only_pattern_by chosen p =
        listed_ext chosen c t
        (λ k l u.
        sym (odd_listed chosen t k l u) ∙ same_steps (listed chosen t) (listed c t) p pattern k l u ∙ odd_listed c t k l u)

    pub fewest_steps_by : FewestSteps m on t (listed c t)
    fewest_steps_by Q p =
        let e : count_up_to c t ≡ count_up_to (odd Q) t
        = count_ext c (odd Q) t (λ k l u. sym (odd_listed c t k l u) ∙ same_steps (listed c t) Q pattern p k l u) in
        omega (arith, listed-length c t, odd_few t Q)
