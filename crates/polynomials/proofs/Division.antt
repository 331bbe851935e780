-- Long division, for any two polynomials: the divisor times the quotient and a rest that is shorter than the divisor add up to what was divided, as
-- they act on any sequence; and the quotient's degree is the difference of the two degrees.
use Rattle.std.specs.Prelude.{◌≡◌, ◌||◌, ◌&&◌, ◌⊎◌, ◌∷◌, ◌+◌, ◌-◌, ◌≤◌, ◌<◌}
use Rattle.fips197.proofs.Kit.{refl, sym, ap, ap₂, ◌∙◌, Bool, true, false, xor, inl, inr, List, [], ℕ, zero, suc, arith, eqb, ltb, length, get_or, set, length-set, length-replicate, get_or-set_other, eqb-true, ltb-true, ltb-false}
use Rattle.blocks.specs.Block.{zeros}
use Rattle.incidence.specs.Count.{indicator}
use Rattle.incidence.proofs.Booleans.{or_cases}
use Rattle.incidence.proofs.Counting.{bit-most}
use Rattle.polynomials.specs.Polynomial.{longer, poly_size, raised, less, quotient_in, quotient}
use Rattle.incidence.proofs.Parity.{xor-none, xor_three, xor_turn, xor_self}
use Rattle.polynomials.proofs.Sizes.{size-most}
use Rattle.polynomials.proofs.Dividing.{quotient_goes}
use Rattle.polynomials.proofs.Acting.{act, act_sum, act_raised, zeros-at}
use Rattle.polynomials.proofs.Lessening.{Poly, poly_raised, poly_less, less_shorter}
use Rattle.polynomials.proofs.Euclid.{or_neither}

-- ---- a term more

act_term : (h : List ℕ) (j : ℕ) (f : ℕ → Bool) (x : ℕ) → j < length h → get_or h j 0 ≡ 0 → act (set h j 1) f x ≡ xor (act h f x) (f (x + j))
unfolding act
act_term [] j f x l e = absurd (omega arith)
act_term (c ∷ h) zero f x l e =
    let z : x ≡ x + 0 = omega arith in
    xor_turn (f x) (act h f (suc x))
    ∙ ap₂ xor (sym (ap (λ (c : ℕ). xor (eqb c 1 && f x) (act h f (suc x))) e ∙ xor-none (act h f (suc x)))) (ap f z)
act_term (c ∷ h) (suc j) f x l e =
    let z : suc x + j ≡ x + suc j = omega arith in
    ap (xor (eqb c 1 && f x)) (act_term h j f (suc x) (omega arith) e)
    ∙ xor_three (eqb c 1 && f x) (act h f (suc x)) (f (suc x + j))
    ∙ ap (λ (y : ℕ). xor (xor (eqb c 1 && f x) (act h f (suc x))) (f y)) z

-- ---- the quotient and the rest

-- what h and p are of q together, so h' and a rest
pub record Divided (w : ℕ) (h p q h' : List ℕ) : Type 0 where
  pub rest : List ℕ
  pub poly : Poly w rest
  pub short : poly_size rest < poly_size q
  pub says : (f : ℕ → Bool) (x : ℕ) → xor (act h' (act q f) x) (act rest f x) ≡ xor (act h (act q f) x) (act p f x)

-- no term of h stands where one is still to come
abbrev Free : List ℕ → ℕ → Type 0
Free h n = (j : ℕ) → j < n → get_or h j 0 ≡ 0

module _ (w : ℕ) (q : List ℕ) (Q : Poly w q) (some : 0 < poly_size q) where
  stays : (h p : List ℕ) → Poly w p → poly_size p < poly_size q → Divided w h p q h
  stays h p P l = record { rest = p; poly = P; short = l; says = λ f x. refl }

  -- a step
  goes : (h p h' : List ℕ) → Poly w p → length h ≡ w → poly_size q ≤ poly_size p → get_or h (poly_size p - poly_size q) 0 ≡ 0
      → Divided w (set h (poly_size p - poly_size q) 1) (less p q) q h' → Divided w h p q h'
  unfolding less
  goes h p h' P e l z d =
      record {
        rest = d.rest;
        poly = d.poly;
        short = d.short;
        says = λ f x.
            d.says f x
            ∙ ap₂ xor (act_term h k (act q f) x (omega (arith, size-most p, P.long)) z)
            (act_sum p (raised k q) f x P.bits (poly_raised w p q P Q k).bits (P.long ∙ sym (poly_raised w p q P Q k).long)
            ∙ ap (xor (act p f x)) (act_raised k q f x (omega (arith, size-most p, P.long, Q.long))))
            ∙ ap (xor (xor (act h (act q f) x) (act q f (x + k)))) (xor_turn (act p f x) (act q f (x + k)))
            ∙ both (act h (act q f) x) (act q f (x + k)) (act p f x);
      }
    where
      k : ℕ
      k = poly_size p - poly_size q

      both : (a b c : Bool) → xor (xor a b) (xor b c) ≡ xor a c
      both a b c = sym (xor_three a b (xor b c)) ∙ ap (xor a) (xor_three b b c ∙ ap (λ (t : Bool). xor t c) (xor_self b) ∙ xor-none c)

  divided : (n : ℕ) (h p : List ℕ) → Poly w p → length h ≡ w → poly_size p ≤ n → Free h (suc (poly_size p) - poly_size q) → Divided w h p q (quotient_in n h p q)
  unfolding quotient_in
  divided zero h p P e l z = stays h p P (omega arith)
  divided (suc n) h p P e l z =
      go (λ u.
      let s : poly_size (less p q) < poly_size p = less_shorter w p q P Q some u in
      divided n (set h (poly_size p - poly_size q) 1) (less p q) (poly_less w p q P Q) (length-set h (poly_size p - poly_size q) 1 ∙ e) (omega arith)
      (λ j a. get_or-set_other h (poly_size p - poly_size q) j 1 0 (λ e. omega arith) ∙ z j (omega arith))) (eqb (poly_size q) 0 || ltb (poly_size p) (poly_size q)) refl
    where
      k : ℕ
      k = poly_size p - poly_size q

      none : (eqb (poly_size q) 0 ≡ true) ⊎ (ltb (poly_size p) (poly_size q) ≡ true) → poly_size p < poly_size q
      none (inl t) = absurd (omega (arith, some, eqb-true (poly_size q) 0 t))
      none (inr t) = ltb-true (poly_size p) (poly_size q) t

      go : (poly_size q ≤ poly_size p → Divided w (set h k 1) (less p q) q (quotient_in n (set h k 1) (less p q) q)) → (t : Bool)
          → (eqb (poly_size q) 0 || ltb (poly_size p) (poly_size q)) ≡ t
          → Divided w h p q (elim t [ true ↦ h | false ↦ quotient_in n (set h k 1) (less p q) q ])
      go next true t = stays h p P (none (or_cases (eqb (poly_size q) 0) (ltb (poly_size p) (poly_size q)) t))
      go next false t =
          let u : poly_size q ≤ poly_size p = ltb-false (poly_size p) (poly_size q) (or_neither (eqb (poly_size q) 0) (ltb (poly_size p) (poly_size q)) t).1 in
          goes h p _ P e u (z k (omega arith)) (next u)

-- ---- the quotient's degree

-- a term below the highest leaves the size as it is
size_term : (h : List ℕ) (j : ℕ) → j < poly_size h → poly_size (set h j 1) ≡ poly_size h
unfolding poly_size longer
size_term [] j l = absurd (omega arith)
size_term (c ∷ h) zero l = go (poly_size h) (eqb c 1) refl l
  where
    go : (n : ℕ) (t : Bool) → eqb c 1 ≡ t → 0 < longer c n → longer 1 n ≡ longer c n
    go zero true e a = sym (ap indicator e)
    go zero false e a = absurd (omega (arith, ap indicator e))
    go (suc n) t e a = refl
size_term (c ∷ h) (suc j) l = ap (longer c) (size_term h j (go (poly_size h) l))
  where
    go : (n : ℕ) → suc j < longer c n → j < n
    go zero a = absurd (omega (arith, bit-most (eqb c 1)))
    go (suc n) a = omega arith

-- the first term, put into zeros, is the highest
size-first : (n j : ℕ) → j < n → poly_size (set (zeros n) j 1) ≡ suc j
unfolding poly_size longer
size-first zero j l = absurd (omega arith)
size-first (suc n) zero l = ap (longer 1) (size_zero n)
  where
    size_zero : (n : ℕ) → poly_size (zeros n) ≡ 0
    size_zero zero = refl
    size_zero (suc n) = ap (longer 0) (size_zero n)
size-first (suc n) (suc j) l = ap (longer 0) (size-first n j (omega arith))

module _ (w : ℕ) (q : List ℕ) (Q : Poly w q) (some : 0 < poly_size q) where
  size_kept : (n : ℕ) (h p : List ℕ) → Poly w p → poly_size p < poly_size h + poly_size q → poly_size (quotient_in n h p q) ≡ poly_size h
  unfolding quotient_in
  size_kept zero h p P l = refl
  size_kept (suc n) h p P l =
      go (λ u.
      let s : poly_size (less p q) < poly_size p = less_shorter w p q P Q some u in
      let t : poly_size (set h (poly_size p - poly_size q) 1) ≡ poly_size h = size_term h (poly_size p - poly_size q) (omega arith) in
      size_kept n (set h (poly_size p - poly_size q) 1) (less p q) (poly_less w p q P Q) (omega arith) ∙ t) (eqb (poly_size q) 0 || ltb (poly_size p) (poly_size q)) refl
    where
      go : (poly_size q ≤ poly_size p → poly_size (quotient_in n (set h (poly_size p - poly_size q) 1) (less p q) q) ≡ poly_size h) → (t : Bool)
          → (eqb (poly_size q) 0 || ltb (poly_size p) (poly_size q)) ≡ t
          → poly_size (elim t [ true ↦ h | false ↦ quotient_in n (set h (poly_size p - poly_size q) 1) (less p q) q ]) ≡ poly_size h
      go next true t = refl
      go next false t = next (ltb-false (poly_size p) (poly_size q) (or_neither (eqb (poly_size q) 0) (ltb (poly_size p) (poly_size q)) t).1)

  pub quotient-size : (p : List ℕ) → Poly w p → poly_size q ≤ poly_size p → poly_size (quotient p q) ≡ suc (poly_size p - poly_size q)
  unfolding quotient
  quotient-size p P l = go (poly_size p) refl
    where
      k : ℕ
      k = poly_size p - poly_size q

      first : poly_size (set (zeros (length p)) k 1) ≡ suc k
      first = size-first (length p) k (omega (arith, size-most p))

      go : (n : ℕ) → poly_size p ≡ n → poly_size (quotient_in n (zeros (length p)) p q) ≡ suc k
      go zero e = absurd (omega arith)
      go (suc n) e =
          ap poly_size (quotient_goes (zeros (length p)) p q n (λ z. omega arith) l)
          ∙ size_kept n (set (zeros (length p)) k 1) (less p q) (poly_less w p q P Q) (omega (arith, less_shorter w p q P Q some l, first))
          ∙ first

  pub quotient_divided : (p : List ℕ) → Poly w p → Divided w (zeros w) p q (quotient p q)
  unfolding quotient
  quotient_divided p P =
      rw P.long (divided w q Q some (poly_size p) (zeros w) p P (length-replicate w 0) (omega arith) (λ j a. zeros-at w j))
