-- Of any matrix: steps that do not yield a row fail at a card, and rows none of which is had from those before it are independent.
use Rattle.std.specs.Prelude.{◌≡◌, ◌∷◌, ◌++◌, ◌⊎◌, ◌-◌, ◌≤◌, if◌then◌else◌}
use Rattle.fips197.proofs.Kit.{refl, sym, ap, ap₂, ◌∙◌, Bool, true, false, xor, List, [], map, inl, inr, ℕ, zero, suc, arith}
use Rattle.incidence.specs.Count.{any_up_to, listed}
use Rattle.incidence.specs.Family.{parity}
use Rattle.incidence.proofs.Booleans.{not_both, not_passed}
use Rattle.incidence.proofs.Counting.{Found, any_found, any_some, last_or}
use Rattle.derivation.specs.Shortest.{Within, xor_back, Yields, Fails, NoShorterPattern, NoShorterRow, Independent}
use Rattle.incidence.proofs.Parity.{xor_same, xor_self, parity-last}

module _ (m : ℕ) (on : ℕ → ℕ → Bool) (Q : List ℕ) (i : ℕ) where
  -- whether row i and the XOR differ at card j
  differ : ℕ → Bool
  differ j = xor (on i j) (xor_back on Q i j)

  pub fails-or : (Yields m on Q i → ⊥) → Fails m on Q i
  unfolding differ
  fails-or h = go (any_up_to differ m) refl
    where
      go : (b : Bool) → any_up_to differ m ≡ b → Fails m on Q i
      go true e =
          let f : Found differ m = any_found differ m e in
          record {
            card = f.at;
            low = f.low;
            high = f.high;
            differs = λ q.
                not_both (differ f.at) f.passes
                (ap (λ (b : Bool). xor b (xor_back on Q i f.at)) q ∙ xor_self (xor_back on Q i f.at));
          }
      go false e =
          absurd (h (λ j l u.
          xor_same (on i j) (xor_back on Q i j)
          (not_passed (differ j) (λ p. not_both (any_up_to differ m) (any_some differ m j l u p) e))))

  fails-not : Fails m on Q i → Yields m on Q i → ⊥
  fails-not f y = f.differs (y f.card f.low f.high)

-- at the first row behind the first t
pub no_shorter_pattern_by : (m : ℕ) (on : ℕ → ℕ → Bool) (n : ℕ) → n ≤ m → NoShorterRow m on n → NoShorterPattern m on n
no_shorter_pattern_by m on n fits h t l Q w =
    record { row = suc t; low = omega arith; high = omega arith; fails = h t l Q w (suc t) (omega arith) (omega arith) }

-- ---- rows listed as steps back

-- tests that agree on 1 to t have the same parity over steps within t
pub within_ext : (p q : ℕ → Bool) (t : ℕ) → ((k : ℕ) → 1 ≤ k → k ≤ t → p k ≡ q k) → (Q : List ℕ) → Within t Q → parity p Q ≡ parity q Q
unfolding parity
within_ext p q t h [] w = refl
within_ext p q t h (k ∷ Q) w = ap₂ xor (h k w.0 w.1) (within_ext p q t h Q w.2)

within_more : (t u : ℕ) → t ≤ u → (l : List ℕ) → Within t l → Within u l
within_more t u h [] w = tt
within_more t u h (k ∷ l) w = (w.0, omega (arith, w.1), within_more t u h l w.2)

within-last : (t k : ℕ) (l : List ℕ) → Within t l → 1 ≤ k → k ≤ t → Within t (l ++ (k ∷ []))
within-last t k [] w a b = (a, b, tt)
within-last t k (x ∷ l) w a b = (w.0, w.1, within-last t k l w.2 a b)

pub listed-within : (chosen : ℕ → Bool) (n : ℕ) → Within n (listed chosen n)
listed-within chosen zero = tt
listed-within chosen (suc n) = go (within_more n (suc n) (omega arith) (listed chosen n) (listed-within chosen n)) (chosen (suc n))
  where
    go : Within (suc n) (listed chosen n) → (b : Bool) → Within (suc n) (if b then listed chosen n ++ (suc n ∷ []) else listed chosen n)
    go w true = within-last (suc n) (suc n) (listed chosen n) w (omega arith) (omega arith)
    go w false = w

-- the first n rows as steps back from row n + 1, or those steps as rows
abbrev pub back : ℕ → List ℕ → List ℕ
back n = map (λ a. suc n - a)

pub back_within : (n : ℕ) (l : List ℕ) → Within n l → Within n (back n l)
back_within n [] w = tt
back_within n (a ∷ l) w = (omega (arith, w.1), omega (arith, w.0), back_within n l w.2)

back_again : (n : ℕ) (l : List ℕ) → Within n l → back n (back n l) ≡ l
back_again n [] w = refl
back_again n (a ∷ l) w = let e : suc n - (suc n - a) ≡ a = omega (arith, w.1) in ap₂ ◌∷◌ e (back_again n l w.2)

-- ---- the last row chosen would be the XOR of the others

module _ (m : ℕ) (on : ℕ → ℕ → Bool) (t : ℕ) (fits : t ≤ m) (no-shorter : NoShorterRow m on t) where
  pub independent_by : (n : ℕ) → n ≤ t → Independent m on n
  unfolding xor_back
  independent_by zero l chosen none i a b = absurd (omega arith)
  independent_by (suc n) l chosen none i a b = go (independent_by n (omega arith) chosen) (chosen (suc n)) refl
    where
      steps : List ℕ
      steps = back n (listed chosen n)

      holds : ℕ → ℕ → Bool
      holds j a = on a j

      pick : (b : Bool) → List ℕ
      pick b = if b then listed chosen n ++ (suc n ∷ []) else listed chosen n

      -- were row n + 1 chosen, it would be had from the rows before it
      had : chosen (suc n) ≡ true → Yields m on steps (suc n)
      had e j lj uj =
          sym (xor_same (parity (holds j) (listed chosen n)) (on (suc n) j)
          (sym (parity-last (holds j) (listed chosen n) (suc n)) ∙ ap (λ (t : Bool). parity (holds j) (pick t)) (sym e) ∙ none j lj uj))
          ∙ ap (parity (holds j)) (sym (back_again n (listed chosen n) (listed-within chosen n)))

      go : (((j : ℕ) → 1 ≤ j → j ≤ m → parity (λ a. on a j) (listed chosen n) ≡ false) → (i : ℕ) → 1 ≤ i → i ≤ n → chosen i ≡ false)
          → (t : Bool) → chosen (suc n) ≡ t → chosen i ≡ false
      go rest true e =
          absurd (fails-not m on steps (suc n)
          (no-shorter n (omega arith) steps (back_within n (listed chosen n) (listed-within chosen n)) (suc n) (omega arith) (omega arith)) (had e))
      go rest false e = last (last_or i n b)
        where
          last : (i ≡ suc n) ⊎ (i ≤ n) → chosen i ≡ false
          last (inl q) = ap chosen q ∙ e
          last (inr q) =
              rest (λ j lj uj. ap (λ (t : Bool). parity (holds j) (pick t)) (sym e) ∙ none j lj uj) i a q
