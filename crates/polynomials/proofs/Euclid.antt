-- Euclid's algorithm, for any two polynomials: what sums and powers keep, its result keeps; it ends with one of the two 0; and the result takes to 0
-- only sequences that both do.
use Rattle.std.specs.Prelude.{◌≡◌, ◌||◌, ◌⊎◌, ◌∷◌, ◌+◌, ◌-◌, ◌≤◌, ◌<◌}
use Rattle.fips197.proofs.Kit.{refl, sym, ap, ap₂, ◌∙◌, subst, Bool, true, false, true≢false, inl, inr, List, [], ℕ, zero, suc, arith, eqb, ltb, length, eqb-true, eqb-false, ltb-true, ltb-false}
use Rattle.blocks.specs.Block.{◌⊕◌, zeros}
use Rattle.blocks.proofs.Xor.{⊕_comm, ⊕-zeros}
use Rattle.incidence.proofs.Booleans.{or_cases}
use Rattle.polynomials.specs.Polynomial.{poly_size, raised, less, gcd_in}
use Rattle.incidence.proofs.Parity.{xor_same}
use Rattle.polynomials.proofs.Sizes.{size-most}
use Rattle.polynomials.proofs.Raising.{raised-none}
use Rattle.polynomials.proofs.Acting.{Bits, act, act_sum, act_none, act_raised, size_none}
use Rattle.polynomials.proofs.Lessening.{Poly, poly_raised, poly_less, less_shorter}

-- neither of two tests is passed
pub or_neither : (a b : Bool) → a || b ≡ false → (a ≡ false) × (b ≡ false)
or_neither true b e = absurd (true≢false e)
or_neither false b e = (refl, e)

module _ (w : ℕ) (K : List ℕ → Type 0)
    (close : (p q : List ℕ) (k : ℕ) → Poly w p → Poly w q → poly_size q + k ≤ w → K p → K q → K (p ⊕ raised k q)) where
  module _ (p q : List ℕ) (P : Poly w p) (Q : Poly w q) (kp : K p) (kq : K q) where
    keeps_sum : K (p ⊕ q)
    keeps_sum = subst (λ (l : List ℕ). K (p ⊕ l)) (raised-none q) (close p q 0 P Q (omega (arith, size-most q, Q.long)) kp kq)

    keeps_less : poly_size q ≤ poly_size p → K (less p q)
    unfolding less
    keeps_less h = close p q (poly_size p - poly_size q) P Q (omega (arith, size-most p, P.long)) kp kq

  pub gcd_keeps : (n : ℕ) (p q : List ℕ) → Poly w p → Poly w q → K p → K q → K (gcd_in n p q)
  unfolding gcd_in
  gcd_keeps zero p q P Q kp kq = keeps_sum p q P Q kp kq
  gcd_keeps (suc n) p q P Q kp kq =
      outer (gcd_keeps n p (less q p) P (poly_less w q p Q P) kp) (λ k. gcd_keeps n (less p q) q (poly_less w p q P Q) Q k kq) (eqb (poly_size p) 0 || eqb (poly_size q) 0)
    where
      inner : (K (less q p) → K (gcd_in n p (less q p))) → (K (less p q) → K (gcd_in n (less p q) q)) → (t : Bool) → ltb (poly_size p) (poly_size q) ≡ t
          → K (elim t [ true ↦ gcd_in n p (less q p) | false ↦ gcd_in n (less p q) q ])
      inner up down true e = let h : poly_size p < poly_size q = ltb-true (poly_size p) (poly_size q) e in up (keeps_less q p Q P kq kp (omega arith))
      inner up down false e = down (keeps_less p q P Q kp kq (ltb-false (poly_size p) (poly_size q) e))

      outer : (K (less q p) → K (gcd_in n p (less q p))) → (K (less p q) → K (gcd_in n (less p q) q)) → (t : Bool)
          → K (elim t [ true ↦ p ⊕ q | false ↦ elim (ltb (poly_size p) (poly_size q)) [ true ↦ gcd_in n p (less q p) | false ↦ gcd_in n (less p q) q ] ])
      outer up down true = keeps_sum p q P Q kp kq
      outer up down false = inner up down (ltb (poly_size p) (poly_size q)) refl

-- ---- it ends, and what its result takes to 0 both do

-- p takes f to 0
abbrev pub Kills : List ℕ → (ℕ → Bool) → Type 0
Kills p f = (x : ℕ) → act p f x ≡ false

-- the polynomial 0 is zeros
zero_poly : (p : List ℕ) → Bits p → poly_size p ≤ 0 → p ≡ zeros (length p)
zero_poly [] b h = refl
zero_poly (c ∷ p) b h =
    let n = size_none c p h in
    let z : c ≡ 1 → ⊥ = eqb-false c 1 n.0 in
    let e : c ≡ 0 = omega (arith, b.0, z) in
    ap₂ ◌∷◌ e (zero_poly p b.1 n.1)

module _ (w : ℕ) (p q : List ℕ) (P : Poly w p) (Q : Poly w q) where
  sum_second : poly_size q ≤ 0 → p ⊕ q ≡ p
  sum_second h = ap (λ (l : List ℕ). p ⊕ l) (zero_poly q Q.bits h) ∙ ⊕-zeros p (length q) (omega (arith, P.long, Q.long))

  -- f is taken to 0 by q and by p less q: then by p
  kills_more : (f : ℕ → Bool) → poly_size q ≤ poly_size p → Kills q f → Kills (less p q) f → Kills p f
  unfolding less
  kills_more f h kq kl x =
      let k : ℕ = poly_size p - poly_size q in
      xor_same (act p f x) (act (raised k q) f x)
      (sym (act_sum p (raised k q) f x P.bits (poly_raised w p q P Q k).bits (P.long ∙ sym (poly_raised w p q P Q k).long)) ∙ kl x)
      ∙ act_raised k q f x (omega (arith, size-most p, P.long, Q.long))
      ∙ kq (x + k)

-- g, from p and q
pub record Ends (p q g : List ℕ) : Type 0 where
  pub some : 0 < poly_size p + poly_size q → 0 < poly_size g
  pub kills : (f : ℕ → Bool) → Kills g f → Kills p f × Kills q f

module _ (w : ℕ) where
  ends_sum : (p q : List ℕ) → Poly w p → Poly w q → (poly_size p ≤ 0) ⊎ (poly_size q ≤ 0) → Ends p q (p ⊕ q)
  ends_sum p q P Q (inr h) =
      rw (sum_second w p q P Q h) (record { some = λ l. omega arith; kills = λ f k. (k, λ x. act_none q f x h) })
  ends_sum p q P Q (inl h) =
      rw (⊕_comm p q, sum_second w q p Q P h) (record { some = λ l. omega arith; kills = λ f k. (λ x. act_none p f x h, k) })

  pub gcd_ends : (n : ℕ) (p q : List ℕ) → Poly w p → Poly w q → poly_size p + poly_size q ≤ n → Ends p q (gcd_in n p q)
  unfolding gcd_in
  gcd_ends zero p q P Q h = ends_sum p q P Q (inl (omega arith))
  gcd_ends (suc n) p q P Q h =
      outer (λ l u. gcd_ends n p (less q p) P (poly_less w q p Q P) (omega (arith, less_shorter w q p Q P l u)))
      (λ l u. gcd_ends n (less p q) q (poly_less w p q P Q) Q (omega (arith, less_shorter w p q P Q l u)))
      (eqb (poly_size p) 0 || eqb (poly_size q) 0) refl
    where
      Up : Type 0
      Up = 0 < poly_size p → poly_size p ≤ poly_size q → Ends p (less q p) (gcd_in n p (less q p))

      Down : Type 0
      Down = 0 < poly_size q → poly_size q ≤ poly_size p → Ends (less p q) q (gcd_in n (less p q) q)

      inner : Up → Down → 0 < poly_size p → 0 < poly_size q → (t : Bool) → ltb (poly_size p) (poly_size q) ≡ t
          → Ends p q (elim t [ true ↦ gcd_in n p (less q p) | false ↦ gcd_in n (less p q) q ])
      inner up down lp lq true e =
          let u : poly_size p < poly_size q = ltb-true (poly_size p) (poly_size q) e in
          let E : Ends p (less q p) (gcd_in n p (less q p)) = up lp (omega arith) in
          record {
            some = λ l. E.some (omega arith);
            kills = λ f k. let b = E.kills f k in (b.0, kills_more w q p Q P f (omega arith) b.0 b.1);
          }
      inner up down lp lq false e =
          let u : poly_size q ≤ poly_size p = ltb-false (poly_size p) (poly_size q) e in
          let E : Ends (less p q) q (gcd_in n (less p q) q) = down lq u in
          record {
            some = λ l. E.some (omega arith);
            kills = λ f k. let b = E.kills f k in (kills_more w p q P Q f u b.1 b.0, b.1);
          }

      none : (eqb (poly_size p) 0 ≡ true) ⊎ (eqb (poly_size q) 0 ≡ true) → (poly_size p ≤ 0) ⊎ (poly_size q ≤ 0)
      none (inl e) = inl (omega (arith, eqb-true (poly_size p) 0 e))
      none (inr e) = inr (omega (arith, eqb-true (poly_size q) 0 e))

      outer : Up → Down → (t : Bool) → (eqb (poly_size p) 0 || eqb (poly_size q) 0) ≡ t
          → Ends p q (elim t [ true ↦ p ⊕ q | false ↦ elim (ltb (poly_size p) (poly_size q)) [ true ↦ gcd_in n p (less q p) | false ↦ gcd_in n (less p q) q ] ])
      outer up down true e = ends_sum p q P Q (none (or_cases (eqb (poly_size p) 0) (eqb (poly_size q) 0) e))
      outer up down false e =
          let zp : poly_size p ≡ 0 → ⊥ = eqb-false (poly_size p) 0 (or_neither (eqb (poly_size p) 0) (eqb (poly_size q) 0) e).0 in
          let zq : poly_size q ≡ 0 → ⊥ = eqb-false (poly_size q) 0 (or_neither (eqb (poly_size p) 0) (eqb (poly_size q) 0) e).1 in
          inner up down (omega (arith, zp)) (omega (arith, zq)) (ltb (poly_size p) (poly_size q)) refl
