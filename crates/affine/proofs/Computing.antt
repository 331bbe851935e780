-- What the code computes in the field is what the definitions say: tested over the elements of both fields.
use Rattle.std.specs.Prelude.{◌≡◌, ◌⊎◌, ◌+◌, ◌*◌, ◌/◌, ◌%◌, ◌^◌, ◌≤◌, ◌<◌, if◌then◌else◌}
use Rattle.fips197.proofs.Kit.{refl, Bool, true, inl, inr, ℕ, zero, suc, arith, mod-lt, eqb, ltb, leb, eqb-true, ltb-true, leb-true, eq-eqb, ne_eqb, bit_xor}
use Rattle.incidence.proofs.Booleans.{and_left, and_right, or_cases}
use Rattle.incidence.proofs.Counting.{every, every_at}
use Rattle.affine.specs.Lines.{points}
use Rattle.affine.specs.Affine.{sized}
use Rattle.affine.specs.Field.{offered, polynomial, element_times_x, product_over, product, element_power, element_inverse}

-- what holds for 2 and for 3 holds wherever a field is offered
pub of_both : (P : ℕ → Type 0) → P 2 → P 3 → (s : ℕ) → offered s ≡ true → P s
of_both P two three s h = go (or_cases (eqb s 2) (eqb s 3) h)
  where
    go : (eqb s 2 ≡ true) ⊎ (eqb s 3 ≡ true) → P s
    go (inl e) = rw (eqb-true s 2 e) two
    go (inr e) = rw (eqb-true s 3 e) three

pub not-two : (s : ℕ) → offered s ≡ true → (s ≡ 2 → ⊥) → s ≡ 3
not-two = of_both (λ s. (s ≡ 2 → ⊥) → s ≡ 3) (λ ne. absurd (ne refl)) (λ ne. refl)

pub elements_few : (s : ℕ) → offered s ≡ true → (4 ≤ 2 ^ s) × (2 ^ s ≤ 8)
elements_few = of_both (λ s. (4 ≤ 2 ^ s) × (2 ^ s ≤ 8)) (omega arith, omega arith) (omega arith, omega arith)

pub points_few : (s : ℕ) → offered s ≡ true → (16 ≤ points s) × (points s ≤ 64)
unfolding points
points_few = of_both (λ s. (16 ≤ 2 ^ s * 2 ^ s) × (2 ^ s * 2 ^ s ≤ 64)) (omega arith, omega arith) (omega arith, omega arith)

-- ---- the tests

-- an element times x is an element
times_test : ℕ → Bool
times_test s = every (λ a. ltb (element_times_x s a) (2 ^ s)) (2 ^ s)

-- a product, as a sum of three
sum_of_three : ℕ → ℕ → ℕ → ℕ
sum_of_three s a b = bit_xor (bit_xor (b % 2 * a) (b / 2 % 2 * element_times_x s a)) (b / 4 * element_times_x s (element_times_x s a))

product_test : ℕ → Bool
product_test s = every (λ a. every (λ b. eqb (sum_of_three s a b) (product_over s s a b)) (2 ^ s)) (2 ^ s)

-- an inverse, by squares
inverse_test_lem : ℕ → Bool
inverse_test_lem s =
    every (λ a. eqb (if eqb s 2 then product s a a else product s (product s a a) (product s (product s a a) (product s a a))) (element_inverse s a)) (2 ^ s)

record Tests (s : ℕ) : Type 0 where
  timesx : times_test s ≡ true
  products : product_test s ≡ true
  inverses : inverse_test_lem s ≡ true

tested : (s : ℕ) → offered s ≡ true → Tests s
unfolding times_test sum_of_three product_test inverse_test_lem polynomial element_times_x product_over product element_power element_inverse
tested = of_both Tests (record { timesx = refl; products = refl; inverses = refl }) (record { timesx = refl; products = refl; inverses = refl })

-- ---- what they say

module _ (s : ℕ) (field : offered s ≡ true) where
  pub times_small : (a : ℕ) → a < 2 ^ s → element_times_x s a < 2 ^ s
  unfolding times_test
  times_small a h = ltb-true _ _ (every_at (λ a. ltb (element_times_x s a) (2 ^ s)) (2 ^ s) (tested s field).timesx a h)

  pub product_is : (a b : ℕ) → a < 2 ^ s → b < 2 ^ s
      → bit_xor (bit_xor (b % 2 * a) (b / 2 % 2 * element_times_x s a)) (b / 4 * element_times_x s (element_times_x s a)) ≡ product_over s s a b
  unfolding product_test sum_of_three
  product_is a b la lb =
      eqb-true _ _ (every_at _ (2 ^ s) (every_at (λ a. every (λ b. eqb (sum_of_three s a b) (product_over s s a b)) (2 ^ s)) (2 ^ s) (tested s field).products a la) b lb)

  inverse_is : (a : ℕ) → a < 2 ^ s
      → (if eqb s 2 then product s a a else product s (product s a a) (product s (product s a a) (product s a a))) ≡ element_inverse s a
  unfolding inverse_test_lem
  inverse_is a h = eqb-true _ _ (every_at _ (2 ^ s) (tested s field).inverses a h)

  pub inverse-two : (a : ℕ) → a < 2 ^ s → s ≡ 2 → product s a a ≡ element_inverse s a
  inverse-two a h e = rw (eq-eqb s 2 e) at (inverse_is a h)

  pub inverse_three : (a : ℕ) → a < 2 ^ s → (s ≡ 2 → ⊥) → product s (product s a a) (product s (product s a a) (product s a a)) ≡ element_inverse s a
  inverse_three a h e = rw (ne_eqb s 2 e) at (inverse_is a h)

  pub reduced-low : (a : ℕ) → a % 2 ^ s < 2 ^ s
  reduced-low a = mod-lt a (omega (arith, (elements_few s field).0))

-- a bit times an element
pub bit_times : (b a : ℕ) → b < 2 → a < 8 → b * a < 8
bit_times zero a l h = omega arith
bit_times (suc zero) a l h = omega arith
bit_times (suc (suc b)) a l h = absurd (omega arith)

-- ---- sizes

module _ (s l : ℕ) where
  pub sized-offered : sized s l ≡ true → offered s ≡ true
  unfolding sized
  sized-offered h = and_left (offered s) _ h

  pub sized-low : sized s l ≡ true → 3 ≤ l
  unfolding sized
  sized-low h = leb-true 3 l (and_left (leb 3 l) _ (and_right (offered s) _ h))

  pub sized-high : sized s l ≡ true → l ≤ 2 ^ s + 1
  unfolding sized
  sized-high h = leb-true l (2 ^ s + 1) (and_right (leb 3 l) _ (and_right (offered s) _ h))
