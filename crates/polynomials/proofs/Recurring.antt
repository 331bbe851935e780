-- A sequence that a polynomial of degree n takes to 0 and no shorter one does: n − 1 times 0, then 1, and from there on as the polynomial says. So a
-- polynomial shorter than g that takes to 0 all that g does is 0.
use Rattle.std.specs.Prelude.{◌≡◌, ◌&&◌, ◌∷◌, ◌+◌, ◌-◌, ◌≤◌, ◌<◌}
use Rattle.fips197.proofs.Kit.{refl, sym, ap, ap₂, ◌∙◌, Bool, true, false, xor, and-false, true≢false, List, [], ℕ, zero, suc, arith, eqb, length, take, eq-eqb, ne_eqb}
use Rattle.incidence.proofs.Counting.{bit-most}
use Rattle.polynomials.specs.Polynomial.{longer, poly_size}
use Rattle.incidence.proofs.Parity.{xor-none, xor_self, xor_three, xor_turn}
use Rattle.polynomials.proofs.Acting.{act, act_none, size_tail, take_few}
use Rattle.polynomials.proofs.Lessening.{size-at}
use Rattle.polynomials.proofs.Euclid.{Kills}

-- ---- a polynomial on a sequence that is known where its terms are

pub act_ext : (p : List ℕ) (f g : ℕ → Bool) (x : ℕ) → ((k : ℕ) → k < length p → f (x + k) ≡ g (x + k)) → act p f x ≡ act p g x
unfolding act
act_ext [] f g x h = refl
act_ext (c ∷ p) f g x h =
    let z : x + 0 ≡ x = omega arith in
    ap₂ (λ (s t : Bool). xor (eqb c 1 && s) t) (ap f (sym z) ∙ h 0 (omega arith) ∙ ap g z)
    (act_ext p f g (suc x) (λ k l. let e : suc x + k ≡ x + suc k = omega arith in ap f e ∙ h (suc k) (omega arith) ∙ ap g (sym e)))

-- a polynomial behind its first coefficient
size-rest : (c r : ℕ) (p : List ℕ) → poly_size (c ∷ p) ≡ suc (suc r) → poly_size p ≡ suc r
unfolding poly_size longer
size-rest c r p e = go (poly_size p) e
  where
    go : (n : ℕ) → longer c n ≡ suc (suc r) → n ≡ suc r
    go zero e = absurd (omega (arith, bit-most (eqb c 1)))
    go (suc n) e = omega arith

-- all but the highest term, and that one
pub act_highest : (p : List ℕ) (r : ℕ) (f : ℕ → Bool) (x : ℕ) → poly_size p ≡ suc r → act p f x ≡ xor (act (take r p) f x) (f (x + r))
unfolding act poly_size
act_highest [] r f x e = absurd (omega arith)
act_highest (c ∷ p) zero f x e =
    let z : x ≡ x + 0 = omega arith in
    ap₂ (λ (s t : Bool). xor (s && f x) t) (eq-eqb c 1 (size-at (c ∷ p) 0 e)) (act_none p f (suc x) (size_tail c 0 p (omega arith)))
    ∙ xor_turn (f x) false
    ∙ ap (λ (y : ℕ). xor false (f y)) z
act_highest (c ∷ p) (suc r) f x e =
    let z : suc x + r ≡ x + suc r = omega arith in
    ap (xor (eqb c 1 && f x)) (act_highest p r f (suc x) (size-rest c r p e))
    ∙ xor_three (eqb c 1 && f x) (act (take r p) f (suc x)) (f (suc x + r))
    ∙ ap (λ (y : ℕ). xor (xor (eqb c 1 && f x) (act (take r p) f (suc x))) (f y)) z

pub act_nothing : (p : List ℕ) (x : ℕ) → act p (λ y. false) x ≡ false
unfolding act
act_nothing [] x = refl
act_nothing (c ∷ p) x = ap₂ xor (and-false (eqb c 1)) (act_nothing p (suc x)) ∙ xor-none false

pub act_quiet : (p : List ℕ) (f : ℕ → Bool) (x : ℕ) → ((k : ℕ) → k < length p → f (x + k) ≡ false) → act p f x ≡ false
act_quiet p f x h = act_ext p f (λ y. false) x h ∙ act_nothing p x

-- ---- the sequence of g, of degree n

module _ (g : List ℕ) (n : ℕ) (degree : poly_size g ≡ suc n) where
  -- with the i places from n on as g says, and those behind them 0
  grown : ℕ → ℕ → Bool
  grown zero y = eqb (suc y) n
  grown (suc i) y = elim (eqb y (n + i)) [ true ↦ act (take n g) (grown i) i | false ↦ grown i y ]

  pub recurring : ℕ → Bool
  recurring y = grown (suc y) y

  -- what has been said stays
  grown_stays : (i j y : ℕ) → y < n + i → grown (i + j) y ≡ grown i y
  unfolding grown
  grown_stays i zero y l = let e : i + 0 ≡ i = omega arith in ap (λ (k : ℕ). grown k y) e
  grown_stays i (suc j) y l =
      let e : i + suc j ≡ suc (i + j) = omega arith in
      ap (λ (k : ℕ). grown k y) e
      ∙ ap (λ (t : Bool). elim t [ true ↦ act (take n g) (grown (i + j)) (i + j) | false ↦ grown (i + j) y ]) (ne_eqb y (n + (i + j)) (λ e. omega arith))
      ∙ grown_stays i j y l

  is_grown : (i y : ℕ) → y < n + i → recurring y ≡ grown i y
  unfolding recurring
  is_grown i y l =
      let e : suc y + i ≡ i + suc y = omega arith in
      sym (grown_stays (suc y) i y (omega arith)) ∙ ap (λ (k : ℕ). grown k y) e ∙ grown_stays i (suc y) y l

  pub recurring_killed : Kills g recurring
  unfolding grown
  recurring_killed x =
      let e : x + n ≡ n + x = omega arith in
      act_highest g n recurring x degree
      ∙ ap₂ xor (act_ext (take n g) recurring (grown x) x (λ k l. is_grown x (x + k) (omega (arith, take_few n g))))
      (is_grown (suc x) (x + n) (omega arith)
      ∙ ap (λ (t : Bool). elim t [ true ↦ act (take n g) (grown x) x | false ↦ grown x (x + n) ]) (eq-eqb (x + n) (n + x) e))
      ∙ xor_self (act (take n g) (grown x) x)

  -- its first places
  first : (y : ℕ) → y < n → recurring y ≡ eqb (suc y) n
  unfolding grown
  first y l = is_grown 0 y (omega arith)

  -- a shorter polynomial that takes it to 0 is 0
  pub shorter_none : (p : List ℕ) → poly_size p ≤ n → Kills p recurring → poly_size p ≡ 0
  shorter_none p l k = go (poly_size p) refl
    where
      go : (s : ℕ) → poly_size p ≡ s → s ≡ 0
      go zero e = refl
      go (suc r) e =
          let x : ℕ = n - suc r in
          let z : suc (x + r) ≡ n = omega arith in
          absurd (true≢false (sym (
          act_highest p r recurring x e
          ∙ ap₂ xor (act_quiet (take r p) recurring x (λ k l. first (x + k) (omega (arith, take_few r p)) ∙ ne_eqb (suc (x + k)) n (λ q. omega (arith, take_few r p))))
          (first (x + r) (omega arith) ∙ eq-eqb (suc (x + r)) n z)
          ∙ xor-none true) ∙ k x))
