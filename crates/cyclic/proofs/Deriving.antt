-- From the list to the pattern: the arrays of m + 1 coefficients, what they hold one after another, and where the call refuses.
use Rattle.std.specs.Prelude.{◌≡◌, ◌||◌, ◌++◌, None, Some}
use Rattle.fips197.proofs.Kit.{ap, ap₂, ◌∙◌, true, false, List, ℕ, eqb, ltb, length, drop, eq-eqb, ne_eqb}
use Rattle.incidence.proofs.Booleans.{or-first, or_second}
use Rattle.polynomials.specs.Polynomial.{gcd, quotient}
use Rattle.cyclic.specs.CyclicCode.{modulus, of_list, generator_polynomial, check_polynomial, steps_back, row_pattern}
use Rattle.cyclic.specs.Deriving.{refuses, pattern_answer, pattern_writes}

-- what each array holds, where its places are those of the terms to x^m
module _ (m : ℕ) (D : List ℕ) where
  pub generator_so : (d e g : List ℕ) (k : ℕ) → g ≡ gcd d e → d ≡ of_list m D → e ≡ modulus k → k ≡ m → g ≡ generator_polynomial m D
  unfolding generator_polynomial
  generator_so d e g k eg ed ee z = eg ∙ ap₂ gcd ed (ee ∙ ap modulus z)

  pub check_so : (f g h : List ℕ) (k j : ℕ) → h ≡ quotient f g → f ≡ modulus k → g ≡ generator_polynomial j D → k ≡ m → j ≡ m → h ≡ check_polynomial m D
  unfolding check_polynomial
  check_so f g h k j eh ef eg y z = eh ∙ ap₂ quotient (ef ∙ ap modulus y) (eg ∙ ap (λ (n : ℕ). generator_polynomial n D) z)

  -- the steps of the last are the pattern
  pub pattern_so : (h : List ℕ) (k : ℕ) → h ≡ check_polynomial k D → k ≡ m → steps_back h ≡ row_pattern m D
  unfolding row_pattern
  pattern_so h k e z = ap steps_back (e ∙ ap (λ (n : ℕ). check_polynomial n D) z)

-- ---- where the call refuses

module _ (m room : ℕ) where
  pub refuses-none : m ≡ 0 → refuses m room ≡ true
  unfolding refuses
  refuses-none e = or-first (ltb room m) (or-first (ltb 273 m) (eq-eqb m 0 e))

  pub refuses-many : ltb 273 m ≡ true → refuses m room ≡ true
  unfolding refuses
  refuses-many e = or-first (ltb room m) (or_second (eqb m 0) e)

  pub refuses-short : ltb room m ≡ true → refuses m room ≡ true
  unfolding refuses
  refuses-short e = or_second (eqb m 0 || ltb 273 m) e

  pub refuses-not : (m ≡ 0 → ⊥) → ltb 273 m ≡ false → ltb room m ≡ false → refuses m room ≡ false
  unfolding refuses
  refuses-not z a b = ap₂ ◌||◌ (ap₂ ◌||◌ (ne_eqb m 0 z) a) b

module _ (m : ℕ) (D : List ℕ) where
  pub not-derived : (room : ℕ) → refuses m room ≡ true → None ≡ pattern_answer m D room
  unfolding pattern_answer
  not-derived room e = rw e

  pub none_written : (o : List ℕ) → refuses m (length o) ≡ true → o ≡ pattern_writes m D o
  unfolding pattern_writes
  none_written o e = rw e

  pub is_derived : (room n : ℕ) → refuses m room ≡ false → n ≡ length (row_pattern m D) → Some n ≡ pattern_answer m D room
  unfolding pattern_answer
  is_derived room n e f = rw (e, f)

  pub is_written : (o out : List ℕ) → refuses m (length o) ≡ false → out ≡ row_pattern m D ++ drop (length (row_pattern m D)) o → out ≡ pattern_writes m D o
  unfolding pattern_writes
  is_written o out e f = rw e f
