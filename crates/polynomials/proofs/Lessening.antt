-- Sizes by coefficients, and that a step of long division makes a polynomial shorter.
use Rattle.std.specs.Prelude.{◌≡◌, ◌∷◌, ◌++◌, ◌-◌, ◌≤◌, ◌<◌}
use Rattle.fips197.proofs.Kit.{refl, sym, ap, ap₂, ◌∙◌, Bool, true, false, List, [], ℕ, zero, suc, arith, eqb, ltb, bit_xor, xor_lt, length, get_or, take, List·getD-eq-default, eqb-true, eq-eqb, ltb-true, ltb-false}
use Rattle.blocks.specs.Block.{◌⊕◌, zeros}
use Rattle.blocks.proofs.Xor.{⊕-at}
use Rattle.incidence.specs.Count.{indicator}
use Rattle.incidence.proofs.Booleans.{not_both}
use Rattle.polynomials.specs.Polynomial.{longer, poly_size, raised, less}
use Rattle.polynomials.proofs.Raising.{raised-length, raised-high, sum_length}
use Rattle.polynomials.proofs.Acting.{Bits, size_tail, size_none}

-- a polynomial of w coefficients
pub record Poly (w : ℕ) (p : List ℕ) : Type 0 where
  pub long : length p ≡ w
  pub bits : Bits p

-- ---- the last 1

pub size-at : (p : List ℕ) (n : ℕ) → poly_size p ≡ suc n → get_or p n 0 ≡ 1
unfolding poly_size longer
size-at [] n h = absurd (omega arith)
size-at (c ∷ p) n h = go (size-at p) (poly_size p) refl h
  where
    one : (t : Bool) → eqb c 1 ≡ t → indicator t ≡ suc n → get_or (c ∷ p) n 0 ≡ 1
    one true e h = let z : n ≡ 0 = omega arith in ap (λ (i : ℕ). get_or (c ∷ p) i 0) z ∙ eqb-true c 1 e
    one false e h = absurd (omega arith)

    go : ((k : ℕ) → poly_size p ≡ suc k → get_or p k 0 ≡ 1) → (k : ℕ) → poly_size p ≡ k → longer c k ≡ suc n → get_or (c ∷ p) n 0 ≡ 1
    go rest zero e h = one (eqb c 1) refl h
    go rest (suc k) e h = let z : n ≡ suc k = omega arith in ap (λ (i : ℕ). get_or (c ∷ p) i 0) z ∙ rest k e

pub size_above : (p : List ℕ) (n i : ℕ) → poly_size p ≤ n → n ≤ i → get_or p i 0 ≡ 1 → ⊥
size_above [] n i h l e = absurd (omega arith)
size_above (c ∷ p) zero zero h l e = not_both (eqb c 1) (eq-eqb c 1 e) (size_none c p h).0
size_above (c ∷ p) (suc n) zero h l e = absurd (omega arith)
size_above (c ∷ p) zero (suc i) h l e = size_above p zero i (size_none c p h).1 (omega arith) e
size_above (c ∷ p) (suc n) (suc i) h l e = size_above p n i (size_tail c n p h) (omega arith) e

pub size_by : (p : List ℕ) (n : ℕ) → ((i : ℕ) → n ≤ i → get_or p i 0 ≡ 1 → ⊥) → poly_size p ≤ n
size_by p n h = go (poly_size p) refl
  where
    go : (k : ℕ) → poly_size p ≡ k → k ≤ n
    go zero e = omega arith
    go (suc k) e = below (ltb k n) refl
      where
        below : (t : Bool) → ltb k n ≡ t → suc k ≤ n
        below true q = ltb-true k n q
        below false q = absurd (h k (ltb-false k n q) (size-at p k e))

-- ---- coefficients are 0 or 1

bits_at : (p : List ℕ) (i : ℕ) → Bits p → get_or p i 0 < 2
bits_at [] i h = omega arith
bits_at (c ∷ p) zero h = h.0
bits_at (c ∷ p) (suc i) h = bits_at p i h.1

bits_sum : (p q : List ℕ) → Bits p → Bits q → Bits (p ⊕ q)
unfolding ◌⊕◌
bits_sum [] q hp hq = tt
bits_sum (a ∷ p) [] hp hq = tt
bits_sum (a ∷ p) (b ∷ q) hp hq = (xor_lt 1 a b hp.0 hq.0, bits_sum p q hp.1 hq.1)

pub bits_zeros : (k : ℕ) (q : List ℕ) → Bits q → Bits (zeros k ++ q)
bits_zeros zero q h = h
bits_zeros (suc k) q h = (omega arith, bits_zeros k q h)

bits_take : (n : ℕ) (p : List ℕ) → Bits p → Bits (take n p)
bits_take zero p h = tt
bits_take (suc n) [] h = tt
bits_take (suc n) (c ∷ p) h = (h.0, bits_take n p h.1)

module _ (w : ℕ) (p q : List ℕ) (P : Poly w p) (Q : Poly w q) where
  pub poly_raised : (k : ℕ) → Poly w (raised k q)
  unfolding raised
  poly_raised k = record { long = raised-length k q ∙ Q.long; bits = bits_take (length q) (zeros k ++ q) (bits_zeros k q Q.bits) }

  pub poly_sum : (k : ℕ) → Poly w (p ⊕ raised k q)
  poly_sum k = record { long = sum_length p q k (Q.long ∙ sym P.long) ∙ P.long; bits = bits_sum p (raised k q) P.bits (poly_raised k).bits }

  pub poly_less : Poly w (less p q)
  unfolding less
  poly_less = poly_sum (poly_size p - poly_size q)

  -- no term of p's degree or above is left
  pub less_shorter : 0 < poly_size q → poly_size q ≤ poly_size p → poly_size (less p q) < poly_size p
  unfolding less
  less_shorter l h = omega (arith, size_by (p ⊕ raised (poly_size p - poly_size q) q) (poly_size p - 1) none)
    where
      k : ℕ
      k = poly_size p - poly_size q

      zero_at : (r : List ℕ) (i : ℕ) → Bits r → poly_size r ≤ i → get_or r i 0 ≡ 0
      zero_at r i b s = omega (arith, bits_at r i b, size_above r (poly_size r) i (omega arith) s)

      term : (i : ℕ) → poly_size p - 1 ≤ i → (t : Bool) → ltb i (poly_size p) ≡ t → bit_xor (get_or p i 0) (get_or q (i - k) 0) ≡ 0
      term i a true e =
          let u : i < poly_size p = ltb-true i (poly_size p) e in
          ap₂ bit_xor (size-at p i (omega arith)) (size-at q (i - k) (omega arith))
      term i a false e =
          let u : poly_size p ≤ i = ltb-false i (poly_size p) e in
          ap₂ bit_xor (zero_at p i P.bits u) (zero_at q (i - k) Q.bits (omega arith))

      none : (i : ℕ) → poly_size p - 1 ≤ i → get_or (p ⊕ raised k q) i 0 ≡ 1 → ⊥
      none i a e = inside (ltb i (length p)) refl
        where
          inside : (t : Bool) → ltb i (length p) ≡ t → ⊥
          inside true s =
              let u : i < length p = ltb-true i (length p) s in
              omega (
                arith,
                e,
                ⊕-at p (raised k q) i u (omega (arith, raised-length k q, P.long, Q.long)),
                ap (bit_xor (get_or p i 0)) (raised-high k q i (omega arith) (omega (arith, P.long, Q.long))),
                term i a (ltb i (poly_size p)) refl,
              )
          inside false s =
              let u : length p ≤ i = ltb-false i (length p) s in
              omega (arith, e, List·getD-eq-default (p ⊕ raised k q) 0 {n = i} (omega (arith, sum_length p q k (Q.long ∙ sym P.long))))
