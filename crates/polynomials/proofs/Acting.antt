-- A polynomial over two elements acts on a sequence of bits: x moves it on by one place. This is all that is used of products: sums of polynomials act
-- as sums, and x^k times a polynomial acts k places on.
use Rattle.std.specs.Prelude.{◌≡◌, ◌&&◌, ◌∷◌, ◌++◌, ◌+◌, ◌≤◌, ◌<◌}
use Rattle.fips197.proofs.Kit.{refl, sym, ap, ap₂, ◌∙◌, Bool, true, false, List, [], ℕ, zero, suc, arith, eqb, bit_xor, length, get_or, take, length-take}
use mathlib.Core.Bool.{xor}
use Rattle.blocks.specs.Block.{◌⊕◌, zeros}
use Rattle.incidence.specs.Count.{indicator}
use Rattle.polynomials.specs.Polynomial.{longer, poly_size, raised}
use Rattle.polynomials.proofs.Sizes.{longer-most}
use Rattle.incidence.proofs.Parity.{xor_four, xor-none, and_xor}

-- the coefficients are 0 or 1
abbrev pub Bits : List ℕ → Type 0
Bits [] = Unit {0}
Bits (c ∷ p) = (c < 2) × Bits p

-- the XOR of f at x + k over the terms x^k of p
unfoldable pub act : List ℕ → (ℕ → Bool) → ℕ → Bool
act [] f x = false
act (c ∷ p) f x = xor (eqb c 1 && f x) (act p f (suc x))

-- ---- sums

bit_sum : (a b : ℕ) → a < 2 → b < 2 → eqb (bit_xor a b) 1 ≡ xor (eqb a 1) (eqb b 1)
unfolding xor
bit_sum zero zero h k = refl
bit_sum zero (suc zero) h k = refl
bit_sum zero (suc (suc b)) h k = absurd (omega arith)
bit_sum (suc zero) zero h k = refl
bit_sum (suc zero) (suc zero) h k = refl
bit_sum (suc zero) (suc (suc b)) h k = absurd (omega arith)
bit_sum (suc (suc a)) b h k = absurd (omega arith)

pub act_sum : (p q : List ℕ) (f : ℕ → Bool) (x : ℕ) → Bits p → Bits q → length p ≡ length q → act (p ⊕ q) f x ≡ xor (act p f x) (act q f x)
unfolding act ◌⊕◌
act_sum [] [] f x hp hq e = sym (xor-none false)
act_sum [] (b ∷ q) f x hp hq e = absurd (omega arith)
act_sum (a ∷ p) [] f x hp hq e = absurd (omega arith)
act_sum (a ∷ p) (b ∷ q) f x hp hq e =
    ap₂ xor (ap (λ (t : Bool). t && f x) (bit_sum a b hp.0 hq.0) ∙ and_xor (eqb a 1) (eqb b 1) (f x))
    (act_sum p q f (suc x) hp.1 hq.1 (omega arith))
    ∙ xor_four (eqb a 1 && f x) (eqb b 1 && f x) (act p f (suc x)) (act q f (suc x))

-- ---- past its size a polynomial has no terms

pub size_tail : (c n : ℕ) (p : List ℕ) → poly_size (c ∷ p) ≤ suc n → poly_size p ≤ n
unfolding poly_size longer
size_tail c n p h = go (poly_size p) h
  where
    go : (k : ℕ) → longer c k ≤ suc n → k ≤ n
    go zero h = omega arith
    go (suc k) h = omega arith

pub size_none : (c : ℕ) (p : List ℕ) → poly_size (c ∷ p) ≤ 0 → (eqb c 1 ≡ false) × (poly_size p ≤ 0)
unfolding poly_size longer
size_none c p h = go (poly_size p) h
  where
    go : (k : ℕ) → longer c k ≤ 0 → (eqb c 1 ≡ false) × (k ≤ 0)
    go zero h = (none (eqb c 1) h, omega arith)
      where
        none : (t : Bool) → indicator t ≤ 0 → t ≡ false
        none true h = absurd (omega arith)
        none false h = refl
    go (suc k) h = absurd (omega arith)

pub act_none : (p : List ℕ) (f : ℕ → Bool) (x : ℕ) → poly_size p ≤ 0 → act p f x ≡ false
unfolding act
act_none [] f x h = refl
act_none (c ∷ p) f x h =
    let n = size_none c p h in
    ap₂ (λ (t u : Bool). xor (t && f x) u) n.0 (act_none p f (suc x) n.1) ∙ xor-none false

pub act_take : (n : ℕ) (p : List ℕ) (f : ℕ → Bool) (x : ℕ) → poly_size p ≤ n → act (take n p) f x ≡ act p f x
unfolding act
act_take zero p f x h = sym (act_none p f x h)
act_take (suc n) [] f x h = refl
act_take (suc n) (c ∷ p) f x h = ap (xor (eqb c 1 && f x)) (act_take n p f (suc x) (size_tail c n p h))

-- the first n are at most n
pub take_few : (n : ℕ) (p : List ℕ) → length (take n p) ≤ n
take_few n p = simp length-take (omega arith)

pub zeros-at : (n i : ℕ) → get_or (zeros n) i 0 ≡ 0
zeros-at zero i = refl
zeros-at (suc n) zero = refl
zeros-at (suc n) (suc i) = zeros-at n i

pub act_zero : (n : ℕ) (f : ℕ → Bool) (x : ℕ) → act (zeros n) f x ≡ false
unfolding act
act_zero zero f x = refl
act_zero (suc n) f x = xor-none _ ∙ act_zero n f (suc x)

-- ---- x^k times a polynomial

size-zeros : (k : ℕ) (q : List ℕ) → poly_size (zeros k ++ q) ≤ k + poly_size q
unfolding poly_size
size-zeros zero q = omega arith
size-zeros (suc k) q = omega (arith, longer-most 0 (poly_size (zeros k ++ q)), size-zeros k q)

pub act_zeros : (k : ℕ) (q : List ℕ) (f : ℕ → Bool) (x : ℕ) → act (zeros k ++ q) f x ≡ act q f (x + k)
unfolding act
act_zeros zero q f x = let e : x ≡ x + 0 = omega arith in ap (act q f) e
act_zeros (suc k) q f x = let e : suc x + k ≡ x + suc k = omega arith in xor-none _ ∙ act_zeros k q f (suc x) ∙ ap (act q f) e

pub act_raised : (k : ℕ) (q : List ℕ) (f : ℕ → Bool) (x : ℕ) → poly_size q + k ≤ length q → act (raised k q) f x ≡ act q f (x + k)
unfolding raised
act_raised k q f x h = act_take (length q) (zeros k ++ q) f x (omega (arith, size-zeros k q)) ∙ act_zeros k q f x
