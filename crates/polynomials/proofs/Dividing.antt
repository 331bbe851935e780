-- Euclid's algorithm and long division, step by step: what is left to do gives what the whole gives.
use Rattle.std.specs.Prelude.{◌≡◌, ◌||◌, ◌+◌, ◌-◌, ◌≤◌, ◌<◌}
use Rattle.fips197.proofs.Kit.{refl, sym, ap, ap₂, ◌∙◌, Bool, true, false, List, ℕ, zero, suc, arith, eqb, ltb, length, set, length-replicate, eq-eqb, ne_eqb, lt-ltb, le-ltb}
use Rattle.blocks.specs.Block.{◌⊕◌, zeros}
use Rattle.incidence.proofs.Booleans.{or-first, or_second}
use Rattle.polynomials.specs.Polynomial.{poly_size, raised, less, gcd_in, gcd, quotient_in, quotient}
use Rattle.polynomials.proofs.Raising.{raised-none}

-- f n is what n steps from here give. The steps that are left after one more give the same
one_step : (f next : ℕ → List ℕ) (most i : ℕ) (whole : List ℕ) → f (most - i) ≡ whole → ((n : ℕ) → next n ≡ f (suc n)) → i < most
    → next (most - (i + 1)) ≡ whole
one_step f next most i whole e step h =
    let z : suc (most - (i + 1)) ≡ most - i = omega arith in
    step (most - (i + 1)) ∙ ap f z ∙ e

-- and after the last no step does
no_step : (f : ℕ → List ℕ) (most i : ℕ) (whole : List ℕ) → f (most - i) ≡ whole → most ≤ i → f 0 ≡ whole
no_step f most i whole e h =
    let z : 0 ≡ most - i = omega arith in
    ap f z ∙ e

-- what the code adds, with the sizes that it has
less_as : (p q r : List ℕ) (a b : ℕ) → a ≡ poly_size p → b ≡ poly_size q → r ≡ p ⊕ raised (a - b) q → r ≡ less p q
unfolding less
less_as p q r a b ea eb e = e ∙ ap₂ (λ (x y : ℕ). p ⊕ raised (x - y) q) ea eb

-- ---- Euclid's algorithm

module _ (p q : List ℕ) where
  gcd_stays : (n : ℕ) → (eqb (poly_size p) 0 || eqb (poly_size q) 0) ≡ true → gcd_in n p q ≡ p ⊕ q
  unfolding gcd_in
  gcd_stays zero e = refl
  gcd_stays (suc n) e =
      ap (λ (t : Bool). elim t [
        | true ↦ p ⊕ q
        | false ↦ elim (ltb (poly_size p) (poly_size q)) [ true ↦ gcd_in n p (less q p) | false ↦ gcd_in n (less p q) q ]
      ]) e

  gcd_goes : (n : ℕ) (t : Bool) → (poly_size p ≡ 0 → ⊥) → (poly_size q ≡ 0 → ⊥) → ltb (poly_size p) (poly_size q) ≡ t
      → gcd_in (suc n) p q ≡ elim t [ true ↦ gcd_in n p (less q p) | false ↦ gcd_in n (less p q) q ]
  unfolding gcd_in
  gcd_goes n t hp hq e =
      ap (λ (t : Bool). elim t [
        | true ↦ p ⊕ q
        | false ↦ elim (ltb (poly_size p) (poly_size q)) [ true ↦ gcd_in n p (less q p) | false ↦ gcd_in n (less p q) q ]
      ]) (ap₂ ◌||◌ (ne_eqb (poly_size p) 0 hp) (ne_eqb (poly_size q) 0 hq))
      ∙ ap (λ (t : Bool). elim t [ true ↦ gcd_in n p (less q p) | false ↦ gcd_in n (less p q) q ]) e

pub gcd-first-none : (p q : List ℕ) (a n : ℕ) → a ≡ poly_size p → a ≡ 0 → gcd_in n p q ≡ gcd_in (suc n) p q
gcd-first-none p q a n e h =
    let z = or-first (eqb (poly_size q) 0) (eq-eqb (poly_size p) 0 (sym e ∙ h)) in
    gcd_stays p q n z ∙ sym (gcd_stays p q (suc n) z)

pub gcd_second_none : (p q : List ℕ) (b n : ℕ) → b ≡ poly_size q → b ≡ 0 → gcd_in n p q ≡ gcd_in (suc n) p q
gcd_second_none p q b n e h =
    let z = or_second (eqb (poly_size p) 0) (eq-eqb (poly_size q) 0 (sym e ∙ h)) in
    gcd_stays p q n z ∙ sym (gcd_stays p q (suc n) z)

module _ (p q r : List ℕ) (a b n : ℕ) (ea : a ≡ poly_size p) (eb : b ≡ poly_size q) (ha : a ≡ 0 → ⊥) (hb : b ≡ 0 → ⊥) where
  pub gcd_second : a < b → r ≡ q ⊕ raised (b - a) p → gcd_in n p r ≡ gcd_in (suc n) p q
  gcd_second h e =
      ap (gcd_in n p) (less_as q p r b a eb ea e)
      ∙ sym (gcd_goes p q n true (λ (z : poly_size p ≡ 0). ha (ea ∙ z)) (λ (z : poly_size q ≡ 0). hb (eb ∙ z)) (lt-ltb (poly_size p) (poly_size q) (omega arith)))

  pub gcd-first : b ≤ a → r ≡ p ⊕ raised (a - b) q → gcd_in n r q ≡ gcd_in (suc n) p q
  gcd-first h e =
      ap (λ (l : List ℕ). gcd_in n l q) (less_as p q r a b ea eb e)
      ∙ sym (gcd_goes p q n false (λ (z : poly_size p ≡ 0). ha (ea ∙ z)) (λ (z : poly_size q ≡ 0). hb (eb ∙ z)) (le-ltb (poly_size p) (poly_size q) (omega arith)))

pub gcd-begun : (p q : List ℕ) (a b : ℕ) → a ≡ poly_size p → b ≡ poly_size q → gcd_in (a + b - 0) p q ≡ gcd p q
unfolding gcd
gcd-begun p q a b ea eb =
    let z : a + b - 0 ≡ poly_size p + poly_size q = omega arith in
    ap (λ (n : ℕ). gcd_in n p q) z

pub gcd-next : (p q p' q' whole : List ℕ) (most i : ℕ) → gcd_in (most - i) p q ≡ whole → ((n : ℕ) → gcd_in n p' q' ≡ gcd_in (suc n) p q) → i < most
    → gcd_in (most - (i + 1)) p' q' ≡ whole
gcd-next p q p' q' whole most i e step h = one_step (λ n. gcd_in n p q) (λ n. gcd_in n p' q') most i whole e step h

pub gcd_done : (p q r whole : List ℕ) (most i : ℕ) → gcd_in (most - i) p q ≡ whole → most ≤ i → r ≡ p ⊕ raised 0 q → r ≡ whole
unfolding gcd_in
gcd_done p q r whole most i e h f = f ∙ ap (λ (l : List ℕ). p ⊕ l) (raised-none q) ∙ no_step (λ n. gcd_in n p q) most i whole e h

-- ---- long division

module _ (h p q : List ℕ) where
  quotient_stays : (n : ℕ) → (eqb (poly_size q) 0 || ltb (poly_size p) (poly_size q)) ≡ true → quotient_in n h p q ≡ h
  unfolding quotient_in
  quotient_stays zero e = refl
  quotient_stays (suc n) e =
      ap (λ (t : Bool). elim t [ true ↦ h | false ↦ quotient_in n (set h (poly_size p - poly_size q) 1) (less p q) q ]) e

  pub quotient_goes : (n : ℕ) → (poly_size q ≡ 0 → ⊥) → poly_size q ≤ poly_size p → quotient_in (suc n) h p q ≡ quotient_in n (set h (poly_size p - poly_size q) 1) (less p q) q
  unfolding quotient_in
  quotient_goes n hq l =
      ap (λ (t : Bool). elim t [ true ↦ h | false ↦ quotient_in n (set h (poly_size p - poly_size q) 1) (less p q) q ])
      (ap₂ ◌||◌ (ne_eqb (poly_size q) 0 hq) (le-ltb (poly_size p) (poly_size q) l))

pub quotient-none : (h p q : List ℕ) (b n : ℕ) → b ≡ poly_size q → b ≡ 0 → quotient_in n h p q ≡ quotient_in (suc n) h p q
quotient-none h p q b n e l =
    let z = or-first (ltb (poly_size p) (poly_size q)) (eq-eqb (poly_size q) 0 (sym e ∙ l)) in
    quotient_stays h p q n z ∙ sym (quotient_stays h p q (suc n) z)

module _ (h p q : List ℕ) (a b n : ℕ) (ea : a ≡ poly_size p) (eb : b ≡ poly_size q) where
  pub quotient-over : a < b → quotient_in n h p q ≡ quotient_in (suc n) h p q
  quotient-over l =
      let z = or_second (eqb (poly_size q) 0) (lt-ltb (poly_size p) (poly_size q) (omega arith)) in
      quotient_stays h p q n z ∙ sym (quotient_stays h p q (suc n) z)

  pub quotient_more : (r : List ℕ) → (b ≡ 0 → ⊥) → b ≤ a → r ≡ p ⊕ raised (a - b) q
      → quotient_in n (set h (a - b) 1) r q ≡ quotient_in (suc n) h p q
  quotient_more r hb l e =
      ap₂ (λ (x y : ℕ). quotient_in n (set h (x - y) 1) r q) ea eb
      ∙ ap (λ (s : List ℕ). quotient_in n (set h (poly_size p - poly_size q) 1) s q) (less_as p q r a b ea eb e)
      ∙ sym (quotient_goes h p q n (λ (z : poly_size q ≡ 0). hb (eb ∙ z)) (omega arith))

-- an array that holds zeros, as that of the quotient does at first
pub zeros-long : (n : ℕ) (p : List ℕ) → p ≡ zeros n → length p ≡ n
zeros-long n p e = ap length e ∙ length-replicate n 0

pub quotient-begun : (h p q : List ℕ) (a : ℕ) → h ≡ zeros (length p) → a ≡ poly_size p → quotient_in (a - 0) h p q ≡ quotient p q
unfolding quotient
quotient-begun h p q a eh ea =
    let z : a - 0 ≡ poly_size p = omega arith in
    ap₂ (λ (n : ℕ) (l : List ℕ). quotient_in n l p q) z eh

pub quotient-next : (h p h' p' q whole : List ℕ) (most i : ℕ) → quotient_in (most - i) h p q ≡ whole
    → ((n : ℕ) → quotient_in n h' p' q ≡ quotient_in (suc n) h p q) → i < most → quotient_in (most - (i + 1)) h' p' q ≡ whole
quotient-next h p h' p' q whole most i e step l = one_step (λ n. quotient_in n h p q) (λ n. quotient_in n h' p' q) most i whole e step l

pub quotient_done : (h p q whole : List ℕ) (most i : ℕ) → quotient_in (most - i) h p q ≡ whole → most ≤ i → h ≡ whole
unfolding quotient_in
quotient_done h p q whole most i e l = no_step (λ n. quotient_in n h p q) most i whole e l
