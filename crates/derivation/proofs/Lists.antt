-- Any difference list, and any m but 0: the pattern that the check polynomial gives yields every row behind the first t, t being its degree, no shorter
-- pattern yields any row, and the first t rows are independent. Where there is a row behind them, that pattern is the only one within t, and none there has
-- fewer steps.
use Rattle.std.specs.Prelude.{◌≡◌, ◌&&◌, ◌∷◌, ◌++◌, ◌+◌, ◌-◌, ◌%◌, ◌≤◌, ◌<◌, if◌then◌else◌}
use Rattle.fips197.proofs.Kit.{refl, sym, ap, ap₂, ◌∙◌, Bool, true, false, xor, List, [], map, ℕ, zero, suc, add-mod_right, mod-eq_of_lt, zero-mod, arith, eqb, length, get_or, take, eq-eqb, ne_eqb}
use Rattle.incidence.specs.Count.{listed}
use Rattle.incidence.specs.Family.{parity}
use Rattle.incidence.proofs.Listing.{listed_ext}
use Rattle.plane.specs.Plane.{member, on}
use Rattle.polynomials.specs.Polynomial.{poly_size}
use Rattle.incidence.proofs.Parity.{xor-none, xor_turn, xor_same, parity_ext, parity-map, parity-last}
use Rattle.polynomials.proofs.Sizes.{size-most}
use Rattle.polynomials.proofs.Acting.{act}
use Rattle.polynomials.proofs.Lessening.{size-at, size_above}
use Rattle.polynomials.proofs.Recurring.{act_highest}
use Rattle.cyclic.specs.CyclicCode.{of_list, generator_polynomial, check_polynomial, steps_back, row_pattern}
use Rattle.cyclic.proofs.Checking.{bezout, check_kills, check_size, generator_some}
use Rattle.derivation.specs.Shortest.{Within, xor_back, Pattern, NoShorterPattern, NoShorterRow, OnlyPattern, FewestSteps, Independent}
use Rattle.derivation.proofs.Matrices.{fails-or, no_shorter_pattern_by, independent_by, listed-within, within_ext}
use Rattle.derivation.proofs.Choices.{only_pattern_by, fewest_steps_by}
use Rattle.derivation.proofs.Circulant.{turned, no_row}
use Rattle.derivation.proofs.Reading.{at_card, at_card_period, shows, row_shows, row_on}

-- a polynomial's first t terms, counted back from place x + t
terms_back : (h : List ℕ) (t : ℕ) (f : ℕ → Bool) (x : ℕ) → t ≤ length h
    → act (take t h) f x ≡ parity (λ k. f (x + t - k)) (listed (λ k. eqb (get_or h (t - k) 0) 1) t)
unfolding act parity
terms_back h zero f x l = refl
terms_back [] (suc t) f x l = absurd (omega arith)
terms_back (c ∷ h) (suc t) f x l =
    ap (xor (eqb c 1 && f x)) (terms_back h t f (suc x) (omega arith) ∙ parity_ext (λ k. f (suc x + t - k)) F (λ k. further k) rows)
    ∙ first (eqb c 1)
    ∙ ap₂ (λ (n : ℕ) (l : List ℕ). parity F (if eqb (get_or (c ∷ h) n 0) 1 then l ++ (suc t ∷ []) else l)) none (sym same)
  where
    F : ℕ → Bool
    F k = f (x + suc t - k)

    rows : List ℕ
    rows = listed (λ k. eqb (get_or h (t - k) 0) 1) t

    further : (k : ℕ) → f (suc x + t - k) ≡ F k
    further k = let e : suc x + t - k ≡ x + suc t - k = omega arith in ap f e

    none : 0 ≡ suc t - suc t
    none = omega arith

    same : listed (λ k. eqb (get_or (c ∷ h) (suc t - k) 0) 1) t ≡ rows
    same =
        listed_ext (λ k. eqb (get_or (c ∷ h) (suc t - k) 0) 1) (λ k. eqb (get_or h (t - k) 0) 1) t
        (λ k a b. let z : suc t - k ≡ suc (t - k) = omega arith in ap (λ (i : ℕ). eqb (get_or (c ∷ h) i 0) 1) z)

    first : (b : Bool) → xor (b && f x) (parity F rows) ≡ parity F (if b then rows ++ (suc t ∷ []) else rows)
    first true =
        let e : x ≡ x + suc t - suc t = omega arith in
        xor_turn (f x) (parity F rows) ∙ ap (xor (parity F rows)) (ap f e) ∙ sym (parity-last F rows (suc t))
    first false = xor-none (parity F rows)

module _ (m : ℕ) (D : List ℕ) (some : 0 < m) where
  -- the degree of the check polynomial
  abbrev pub degree : ℕ
  degree = poly_size (check_polynomial m D) - 1

  -- which steps it chooses
  abbrev step : ℕ → Bool
  step k = eqb (get_or (check_polynomial m D) (degree - k) 0) 1

  has_degree : poly_size (check_polynomial m D) ≡ suc degree
  has_degree = omega (arith, check_size m D some)

  degree_most : degree ≤ m
  degree_most = omega (arith, check_size m D some, generator_some m D some)

  pattern_within : Within degree (row_pattern m D)
  unfolding row_pattern steps_back
  pattern_within = listed-within step degree

  -- the row t on is the XOR of those that the steps lead back to
  module _ (i j : ℕ) (li : degree < i) (ui : i ≤ m) (lj : 1 ≤ j) (uj : j ≤ m) where
    -- card j along the rows
    along : ℕ → Bool
    along = act (of_list m D) (at_card m j)

    row_recurs : along i ≡ parity (λ k. along (i - k)) (row_pattern m D)
    unfolding row_pattern steps_back along
    row_recurs =
        let z : i - degree + degree ≡ i = omega arith in
        ap along (sym z)
        ∙ sym (xor_same (act (take degree (check_polynomial m D)) along (i - degree)) (along (i - degree + degree))
        (sym (act_highest (check_polynomial m D) degree along (i - degree) has_degree) ∙ check_kills m D some (at_card m j) (at_card_period m j) (i - degree)))
        ∙ terms_back (check_polynomial m D) degree along (i - degree) (omega (arith, size-most (check_polynomial m D), has_degree))
        ∙ parity_ext (λ k. along (i - degree + degree - k)) (λ k. along (i - k)) (λ k. ap (λ (n : ℕ). along (n - k)) z)
        (listed step degree)

    yields_at : on m D i j ≡ xor_back (on m D) (row_pattern m D) i j
    unfolding xor_back along
    yields_at =
        sym (row_on m D some i j (omega arith) ui lj uj)
        ∙ row_recurs
        ∙ within_ext (λ k. along (i - k)) (λ k. on m D (i - k) j) degree
        (λ k a b. row_on m D some (i - k) j (omega arith) (omega arith) lj uj) (row_pattern m D) pattern_within
        ∙ sym (parity-map (λ a. on m D a j) (λ k. i - k) (row_pattern m D))

  pub pattern_yields : Pattern m (on m D) degree (row_pattern m D)
  pattern_yields = record { within = pattern_within; yields = λ i l u j lj uj. yields_at i j l u lj uj }

  -- ---- no shorter one

  -- the turns of D that XOR to the generator polynomial (Bézout's identity), going on
  turns : List ℕ
  turns = map (λ u. m - u % m) (bezout m D some).turns

  generator_turned : poly_size (generator_polynomial m D) ≤ m → (n : ℕ) → n < m → turned m D turns n ≡ eqb (get_or (generator_polynomial m D) n 0) 1
  unfolding turned turns
  generator_turned s n l =
      let y : n + (m - 0) ≡ n + m = omega arith in
      let z : (n + (m - 0 % m)) % m ≡ n
      = ap (λ (x : ℕ). (n + (m - x)) % m) (zero-mod m) ∙ ap (λ (x : ℕ). x % m) y ∙ add-mod_right n m ∙ mod-eq_of_lt l in
      parity-map (λ u. member ((n + u) % m) D) (λ u. m - u % m) (bezout m D some).turns
      ∙ parity_ext (λ u. member ((n + (m - u % m)) % m) D) (λ u. act (of_list m D) (at_card m n) (0 + u))
      (λ u. let e : 0 + u ≡ u = omega arith in sym (ap (act (of_list m D) (at_card m n)) e ∙ row_shows m D some n u)) (bezout m D some).turns
      ∙ sym ((bezout m D some).says (at_card m n) (at_card_period m n) 0)
      ∙ shows m some n 0 (generator_polynomial m D) s
      ∙ ap (λ (x : ℕ). eqb (get_or (generator_polynomial m D) x 0) 1) z

  pub no_shorter_row : NoShorterRow m (on m D) degree
  no_shorter_row t l Q w i li ui =
      let e : poly_size (check_polynomial m D) ≡ suc (suc m - poly_size (generator_polynomial m D)) = check_size m D some in
      let g : 0 < poly_size (generator_polynomial m D) = generator_some m D some in
      let s : poly_size (generator_polynomial m D) ≤ m = omega arith in
      let n : ℕ = poly_size (generator_polynomial m D) - 1 in
      fails-or m (on m D) Q i
      (no_row m D some turns n degree
      (generator_turned s n (omega arith) ∙ eq-eqb _ 1 (size-at (generator_polynomial m D) n (omega arith)))
      (λ k a b.
      generator_turned s (n + k) (omega arith)
      ∙ ne_eqb _ 1 (size_above (generator_polynomial m D) (poly_size (generator_polynomial m D)) (n + k) (omega arith) (omega arith)))
      t l Q w i li ui)

  pub no_shorter_pattern : NoShorterPattern m (on m D) degree
  no_shorter_pattern = no_shorter_pattern_by m (on m D) degree degree_most no_shorter_row

  pub independent : Independent m (on m D) degree
  independent = independent_by m (on m D) degree degree_most no_shorter_row degree (omega arith)

  -- ---- no other one, and none of fewer steps

  pub only_pattern : degree < m → OnlyPattern m (on m D) degree (row_pattern m D)
  unfolding row_pattern steps_back
  only_pattern l = only_pattern_by m (on m D) degree independent l step pattern_yields

  pub fewest_steps : degree < m → FewestSteps m (on m D) degree (row_pattern m D)
  unfolding row_pattern steps_back
  fewest_steps l = fewest_steps_by m (on m D) degree independent l step pattern_yields
