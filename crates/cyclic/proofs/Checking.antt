-- The check polynomial of any list: its degree and the generator polynomial's make m, it takes to 0 what D(x) makes of any sequence of period m, and the
-- generator polynomial is a multiple of D(x) there (Bézout's identity).
use Rattle.std.specs.Prelude.{◌≡◌, ◌&&◌, ◌∷◌, ◌++◌, ◌+◌, ◌-◌, ◌≤◌, ◌<◌, if◌then◌else◌}
use Rattle.fips197.proofs.Kit.{refl, sym, ap, ap₂, ◌∙◌, Bool, true, false, xor, List, [], map, ℕ, zero, suc, arith, eqb, ltb, set}
use Rattle.blocks.specs.Block.{◌⊕◌, zeros}
use Rattle.incidence.specs.Family.{parity}
use Rattle.polynomials.specs.Polynomial.{longer, poly_size, raised, gcd}
use Rattle.incidence.proofs.Parity.{xor-none, xor_turn, xor_four, xor_self, xor-and, parity_ext, parity-append, parity-map}
use Rattle.polynomials.proofs.Sizes.{size-most}
use Rattle.polynomials.proofs.Acting.{Bits, act, act_sum, act_zero, act_zeros, act_raised, act_none}
use Rattle.polynomials.proofs.Lessening.{Poly, poly_raised, poly_sum, bits_zeros}
use Rattle.polynomials.proofs.Euclid.{Kills, Ends, gcd_keeps, gcd_ends}
use Rattle.polynomials.proofs.Division.{Divided, quotient-size, quotient_divided}
use Rattle.polynomials.proofs.Recurring.{act_ext, act_nothing, recurring, recurring_killed, shorter_none}
use Rattle.cyclic.specs.CyclicCode.{modulus, of_list, generator_polynomial, check_polynomial}
use Rattle.cyclic.proofs.Terms.{modulus-length, of_list_length}

-- ---- two polynomials act in either order

act_both : (q : List ℕ) (f g : ℕ → Bool) (x : ℕ) → act q (λ y. xor (f y) (g y)) x ≡ xor (act q f x) (act q g x)
unfolding act
act_both [] f g x = sym (xor-none false)
act_both (c ∷ q) f g x =
    ap₂ xor (xor-and (eqb c 1) (f x) (g x)) (act_both q f g (suc x))
    ∙ xor_four (eqb c 1 && f x) (eqb c 1 && g x) (act q f (suc x)) (act q g (suc x))

act_on : (q : List ℕ) (f : ℕ → Bool) (x : ℕ) → act q (λ y. f (suc y)) x ≡ act q f (suc x)
unfolding act
act_on [] f x = refl
act_on (c ∷ q) f x = ap (xor (eqb c 1 && f (suc x))) (act_on q f (suc x))

act_if : (t : Bool) (q : List ℕ) (f : ℕ → Bool) (x : ℕ) → act q (λ y. t && f y) x ≡ t && act q f x
act_if true q f x = refl
act_if false q f x = act_nothing q x

act_swap : (p q : List ℕ) (f : ℕ → Bool) (x : ℕ) → act p (act q f) x ≡ act q (act p f) x
unfolding act
act_swap [] q f x = sym (act_nothing q x)
act_swap (c ∷ p) q f x =
    ap₂ xor (sym (act_if (eqb c 1) q f x)) (act_swap p q f (suc x) ∙ sym (act_on q (act p f) x))
    ∙ sym (act_both q (λ y. eqb c 1 && f y) (λ y. act p f (suc y)) x)

-- ---- the two polynomials that Euclid's algorithm begins with

module _ (m : ℕ) (some : 0 < m) where
  poly_modulus : Poly (suc m) (modulus m)
  unfolding modulus
  poly_modulus = record { long = modulus-length m some; bits = (omega arith, bits_zeros (m - 1) (1 ∷ []) (omega arith, tt)) }

  size-modulus : poly_size (modulus m) ≡ suc m
  unfolding modulus poly_size longer
  size-modulus = ap (longer 1) (behind (m - 1)) ∙ (let e : suc (suc (m - 1)) ≡ suc m = omega arith in e)
    where
      behind : (k : ℕ) → poly_size (zeros k ++ (1 ∷ [])) ≡ suc k
      behind zero = refl
      behind (suc k) = ap (longer 0) (behind k)

  -- x^m + 1 compares places m apart
  act_modulus : (f : ℕ → Bool) (x : ℕ) → act (modulus m) f x ≡ xor (f x) (f (x + m))
  unfolding modulus act
  act_modulus f x =
      let e : suc x + (m - 1) ≡ x + m = omega arith in
      ap (xor (f x)) (act_zeros (m - 1) (1 ∷ []) f (suc x) ∙ xor_turn (f (suc x + (m - 1))) false ∙ xor-none (f (suc x + (m - 1))) ∙ ap f e)

bits_set : (p : List ℕ) (k : ℕ) → Bits p → Bits (set p k 1)
bits_set [] k b = tt
bits_set (c ∷ p) zero b = (omega arith, b.1)
bits_set (c ∷ p) (suc k) b = (b.0, bits_set p k b.1)

poly_list : (m : ℕ) (D : List ℕ) → Poly (suc m) (of_list m D)
unfolding of_list
poly_list m D = record { long = of_list_length m D; bits = bits D }
  where
    bits : (D : List ℕ) → Bits (of_list m D)
    bits [] = zero_bits (suc m)
      where
        zero_bits : (n : ℕ) → Bits (zeros n)
        zero_bits zero = tt
        zero_bits (suc n) = (omega arith, zero_bits n)
    bits (e ∷ D) = go (bits D) (ltb e m)
      where
        go : Bits (of_list m D) → (t : Bool) → Bits (if t then set (of_list m D) e 1 else of_list m D)
        go b true = bits_set (of_list m D) e b
        go b false = b

-- ---- the generator polynomial and the check polynomial

-- p is a multiple of D(x) on sequences of period m: the XOR of turns of what D(x) makes of them
pub record Multiple (m : ℕ) (D p : List ℕ) : Type 0 where
  pub turns : List ℕ
  pub says : (f : ℕ → Bool) → ((x : ℕ) → f (x + m) ≡ f x) → (x : ℕ) → act p f x ≡ parity (λ u. act (of_list m D) f (x + u)) turns

module _ (m : ℕ) (D : List ℕ) (some : 0 < m) where
  P : Poly (suc m) (of_list m D)
  P = poly_list m D

  Q : Poly (suc m) (modulus m)
  Q = poly_modulus m some

  G : Poly (suc m) (generator_polynomial m D)
  unfolding generator_polynomial gcd
  G = gcd_keeps (suc m) (Poly (suc m)) (λ p q k hp hq l kp kq. poly_sum (suc m) p q hp hq k) (poly_size (of_list m D) + poly_size (modulus m)) (of_list m D) (modulus m) P Q P Q

  ends : Ends (of_list m D) (modulus m) (generator_polynomial m D)
  unfolding generator_polynomial gcd
  ends = gcd_ends (suc m) (poly_size (of_list m D) + poly_size (modulus m)) (of_list m D) (modulus m) P Q (omega arith)

  pub generator_some : 0 < poly_size (generator_polynomial m D)
  generator_some = ends.some (omega (arith, size-modulus m some))

  generator_most : poly_size (generator_polynomial m D) ≤ suc m
  generator_most = omega (arith, size-most (generator_polynomial m D), G.long)

  -- deg h = m − deg g
  pub check_size : poly_size (check_polynomial m D) ≡ suc (suc m - poly_size (generator_polynomial m D))
  unfolding check_polynomial
  check_size =
      quotient-size (suc m) (generator_polynomial m D) G generator_some (modulus m) Q (omega (arith, generator_most, size-modulus m some))
      ∙ ap (λ (n : ℕ). suc (n - poly_size (generator_polynomial m D))) (size-modulus m some)

  multiple_sum : (p q : List ℕ) (k : ℕ) → Poly (suc m) p → Poly (suc m) q → poly_size q + k ≤ suc m → Multiple m D p → Multiple m D q
      → Multiple m D (p ⊕ raised k q)
  multiple_sum p q k hp hq l mp mq = record {
    turns = mp.turns ++ map (λ u. k + u) mq.turns;
    says = λ f per x.
        let F : ℕ → Bool = λ u. act (of_list m D) f (x + u) in
        act_sum p (raised k q) f x hp.bits (poly_raised (suc m) p q hp hq k).bits (hp.long ∙ sym (poly_raised (suc m) p q hp hq k).long)
        ∙ ap₂ xor (mp.says f per x)
        (act_raised k q f x (omega (arith, hq.long))
        ∙ mq.says f per (x + k)
        ∙ parity_ext (λ u. act (of_list m D) f (x + k + u)) (λ u. act (of_list m D) f (x + (k + u)))
        (λ u. let e : x + k + u ≡ x + (k + u) = omega arith in ap (act (of_list m D) f) e) mq.turns
        ∙ sym (parity-map F (λ u. k + u) mq.turns))
        ∙ sym (parity-append F mp.turns (map (λ u. k + u) mq.turns));
  }

  -- Bézout's identity
  pub bezout : Multiple m D (generator_polynomial m D)
  unfolding generator_polynomial gcd parity
  bezout =
      gcd_keeps (suc m) (Multiple m D) multiple_sum (poly_size (of_list m D) + poly_size (modulus m)) (of_list m D) (modulus m) P Q
      (record {
        turns = 0 ∷ [];
        says = λ f per x.
            let e : x ≡ x + 0 = omega arith in
            ap (act (of_list m D) f) e ∙ sym (xor_turn (act (of_list m D) f (x + 0)) false ∙ xor-none (act (of_list m D) f (x + 0)));
      })
      (record { turns = []; says = λ f per x. act_modulus m some f x ∙ ap (xor (f x)) (per x) ∙ xor_self (f x) })

  whole : Divided (suc m) (zeros (suc m)) (modulus m) (generator_polynomial m D) (check_polynomial m D)
  unfolding check_polynomial
  whole = quotient_divided (suc m) (generator_polynomial m D) G generator_some (modulus m) Q

  -- what the generator polynomial takes to 0, the rest of the division does
  rest_kills : (f : ℕ → Bool) → Kills (generator_polynomial m D) f → Kills whole.rest f
  rest_kills f k x =
      sym (xor-none (act whole.rest f x))
      ∙ ap (λ (t : Bool). xor t (act whole.rest f x)) (sym (act_ext (check_polynomial m D) (act (generator_polynomial m D) f) (λ y. false) x (λ i l. k (x + i)) ∙ act_nothing (check_polynomial m D) x))
      ∙ whole.says f x
      ∙ ap₂ xor (act_zero (suc m) (act (generator_polynomial m D) f) x) ((ends.kills f k).1 x)
      ∙ xor-none false

  rest-none : poly_size whole.rest ≡ 0
  rest-none = go (poly_size (generator_polynomial m D)) refl
    where
      go : (n : ℕ) → poly_size (generator_polynomial m D) ≡ n → poly_size whole.rest ≡ 0
      go zero e = omega (arith, whole.short)
      go (suc n) e =
          shorter_none (generator_polynomial m D) n e whole.rest (omega (arith, whole.short))
          (rest_kills (recurring (generator_polynomial m D) n e) (recurring_killed (generator_polynomial m D) n e))

  -- g(x) h(x) = x^m + 1
  pub check_times : (f : ℕ → Bool) (x : ℕ) → act (check_polynomial m D) (act (generator_polynomial m D) f) x ≡ act (modulus m) f x
  check_times f x =
      sym (ap (xor (act (check_polynomial m D) (act (generator_polynomial m D) f) x)) (act_none whole.rest f x (omega (arith, rest-none)))
      ∙ xor_turn (act (check_polynomial m D) (act (generator_polynomial m D) f) x) false
      ∙ xor-none (act (check_polynomial m D) (act (generator_polynomial m D) f) x))
      ∙ whole.says f x
      ∙ ap (λ (t : Bool). xor t (act (modulus m) f x)) (act_zero (suc m) (act (generator_polynomial m D) f) x)
      ∙ xor-none (act (modulus m) f x)

  -- h(x) D(x) is 0 modulo x^m + 1
  pub check_kills : (f : ℕ → Bool) → ((x : ℕ) → f (x + m) ≡ f x) → Kills (check_polynomial m D) (act (of_list m D) f)
  check_kills f per x = act_swap (check_polynomial m D) (of_list m D) f x ∙ (ends.kills (act (check_polynomial m D) f) generator_kills).0 x
    where
      generator_kills : Kills (generator_polynomial m D) (act (check_polynomial m D) f)
      generator_kills x =
          act_swap (generator_polynomial m D) (check_polynomial m D) f x ∙ check_times f x ∙ act_modulus m some f x ∙ ap (xor (f x)) (per x) ∙ xor_self (f x)
