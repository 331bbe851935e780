-- Sets as numbers: what is in an XOR of two, in a set of one, and in the set of those that pass a test.
use Rattle.std.specs.Prelude.{◌≡◌, ◌+◌, ◌*◌, ◌/◌, ◌%◌, ◌≤◌, ◌<◌, ◌^◌, ◌⊎◌, if◌then◌else◌}
use Rattle.fips197.proofs.Kit.{refl, sym, ap, ap₂, ◌∙◌, Bool, true, false, ℕ, zero, suc, inl, inr, arith, eqb, mod-lt, zero-lt-suc, pow-succ', div-div-eq-div-mul, one-mul, bit_xor, xor_shr, xor_mod, xor_comm, xor_zero_r, add-zero}
use mathlib.Core.Bool.{xor}
use lib.Bits.{shifted_half, shifted_even, xor_shifted}
use native.Mathlib.Nat.{div-one}
use Rattle.incidence.proofs.Counting.{last_or}
use Rattle.incidence.proofs.Parity.{xor_turn, xor-none}
use Rattle.affine.specs.Elimination.{has, set_of}

low : (x : ℕ) → x % 2 < 2
low x = mod-lt x (zero-lt-suc 1)

bit-xor : (x y : ℕ) → x < 2 → y < 2 → eqb (bit_xor x y) 1 ≡ xor (eqb x 1) (eqb y 1)
unfolding xor
bit-xor zero zero u w = refl
bit-xor zero (suc zero) u w = refl
bit-xor (suc zero) zero u w = refl
bit-xor (suc zero) (suc zero) u w = refl
bit-xor zero (suc (suc y)) u w = absurd (omega arith)
bit-xor (suc zero) (suc (suc y)) u w = absurd (omega arith)
bit-xor (suc (suc x)) y u w = absurd (omega arith)

-- k is in the XOR of two sets where it is in one of them
pub has-xor : (k a b : ℕ) → has k (bit_xor a b) ≡ xor (has k a) (has k b)
unfolding has
has-xor k a b =
    ap (λ (x : ℕ). eqb (x % 2) 1) (xor_shr a b k)
    ∙ ap (λ (x : ℕ). eqb x 1) (xor_mod (a / 2 ^ k) (b / 2 ^ k) 1)
    ∙ bit-xor (a / 2 ^ k % 2) (b / 2 ^ k % 2) (low _) (low _)

-- nothing is in the empty set
pub has-none : (k : ℕ) → has k 0 ≡ false
unfolding has
has-none zero = refl
has-none (suc k) = ap (λ (x : ℕ). eqb (x % 2) 1) (ap (λ (x : ℕ). 0 / x) (pow-succ' 2 k) ∙ sym (div-div-eq-div-mul 0 2 (2 ^ k))) ∙ has-none k

has_half : (k x : ℕ) → has (suc k) x ≡ has k (x / 2)
unfolding has
has_half k x = ap (λ (y : ℕ). eqb (y % 2) 1) (ap (λ (y : ℕ). x / y) (pow-succ' 2 k) ∙ sym (div-div-eq-div-mul x 2 (2 ^ k)))

half_power : (i : ℕ) → 2 ^ suc i / 2 ≡ 2 ^ i
half_power i = ap (λ (y : ℕ). y / 2) (sym (one-mul (2 ^ suc i))) ∙ shifted_half 1 i ∙ one-mul (2 ^ i)

-- 2^i is the set of i alone
pub has_own : (i : ℕ) → has i (2 ^ i) ≡ true
unfolding has
has_own zero = refl
has_own (suc i) = has_half i (2 ^ suc i) ∙ ap (has i) (half_power i) ∙ has_own i

pub has_other : (k i : ℕ) → (k ≡ i → ⊥) → has k (2 ^ i) ≡ false
unfolding has
has_other zero zero ne = absurd (ne refl)
has_other zero (suc i) ne =
    ap (λ (y : ℕ). eqb (y % 2) 1) (div-one (2 ^ suc i) ∙ sym (one-mul (2 ^ suc i))) ∙ ap (λ (y : ℕ). eqb y 1) (shifted_even 1 i)
has_other (suc k) zero ne = has_half k 1 ∙ has-none k
has_other (suc k) (suc i) ne = has_half k (2 ^ suc i) ∙ ap (has k) (half_power i) ∙ has_other k i (λ e. ne (ap suc e))

-- a set of numbers up to n is below 2^(n + 1), so that adding the next number is an XOR
set_small : (p : ℕ → Bool) (n : ℕ) → set_of p n < 2 ^ suc n
unfolding set_of
set_small p zero = omega arith
set_small p (suc n) = go (set_small p n) (p (suc n))
  where
    go : set_of p n < 2 ^ suc n → (b : Bool) → set_of p n + (if b then 2 ^ suc n else 0) < 2 ^ suc (suc n)
    go ih true = omega (arith, ih, pow-succ' 2 (suc n))
    go ih false = omega (arith, ih, pow-succ' 2 (suc n))

set_step : (p : ℕ → Bool) (n : ℕ) → set_of p (suc n) ≡ bit_xor (set_of p n) (if p (suc n) then 2 ^ suc n else 0)
unfolding set_of
set_step p n = go (p (suc n))
  where
    go : (b : Bool) → set_of p n + (if b then 2 ^ suc n else 0) ≡ bit_xor (set_of p n) (if b then 2 ^ suc n else 0)
    go true =
        let e : 1 * 2 ^ suc n ≡ 2 ^ suc n = one-mul (2 ^ suc n) in
        let f : set_of p n + 2 ^ suc n ≡ 1 * 2 ^ suc n + set_of p n = omega (arith, e) in
        f ∙ sym (xor_shifted 1 (suc n) (set_of p n) (set_small p n)) ∙ xor_comm (1 * 2 ^ suc n) (set_of p n) ∙ ap (bit_xor (set_of p n)) e
    go false = add-zero (set_of p n) ∙ sym (xor_zero_r (set_of p n))

-- a set of numbers up to n has none above it
has_above : (p : ℕ → Bool) (n k : ℕ) → n < k → has k (set_of p n) ≡ false
unfolding set_of
has_above p zero k h = has-none k
has_above p (suc n) k h = rw (set_step p n) (go (has_above p n k (omega arith)) (p (suc n)))
  where
    go : has k (set_of p n) ≡ false → (b : Bool) → has k (bit_xor (set_of p n) (if b then 2 ^ suc n else 0)) ≡ false
    go ih true = has-xor k (set_of p n) (2 ^ suc n) ∙ ap₂ xor ih (has_other k (suc n) (λ e. omega arith)) ∙ xor-none false
    go ih false = ap (has k) (xor_zero_r (set_of p n)) ∙ ih

-- of the numbers 1 to n, those that pass are in their set
pub has_set : (p : ℕ → Bool) (n k : ℕ) → 1 ≤ k → k ≤ n → has k (set_of p n) ≡ p k
unfolding set_of
has_set p zero k l u = absurd (omega arith)
has_set p (suc n) k l u = rw (set_step p n) (go (λ w. has_set p n k l w) (p (suc n)) refl (last_or k n u))
  where
    go : (k ≤ n → has k (set_of p n) ≡ p k) → (b : Bool) → p (suc n) ≡ b → (k ≡ suc n) ⊎ (k ≤ n)
        → has k (bit_xor (set_of p n) (if b then 2 ^ suc n else 0)) ≡ p k
    go rest true e (inl s) =
        has-xor k (set_of p n) (2 ^ suc n)
        ∙ ap₂ xor (has_above p n k (omega arith)) (ap (λ (x : ℕ). has x (2 ^ suc n)) s ∙ has_own (suc n)) ∙ xor-none true ∙ sym e ∙ ap p (sym s)
    go rest true e (inr w) =
        has-xor k (set_of p n) (2 ^ suc n)
        ∙ ap₂ xor (rest w) (has_other k (suc n) (λ s. omega arith)) ∙ xor_turn (p k) false ∙ xor-none (p k)
    go rest false e (inl s) = ap (has k) (xor_zero_r (set_of p n)) ∙ has_above p n k (omega arith) ∙ sym e ∙ ap p (sym s)
    go rest false e (inr w) = ap (has k) (xor_zero_r (set_of p n)) ∙ rest w
