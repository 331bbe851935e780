-- The field of 2^s elements, s = 2 and 3: each law is computed over the elements, and then holds of every number, since a product takes
-- the lowest s bits of its factors.
use Rattle.std.specs.Prelude.{◌≡◌, ◌||◌, ◌⊎◌, ◌-◌, ◌%◌, ◌^◌, ◌<◌}
use Rattle.fips197.proofs.Kit.{refl, sym, ap, ap₂, ◌∙◌, Bool, true, inl, inr, ℕ, zero, suc, arith, mod-lt, eqb, ltb, lit<, eqb-true, ltb-true, bit_xor, xor_mod, xor_self}
use Rattle.fips197.proofs.Xor.{xor_cancel}
use native.Mathlib.Nat.{mod-mod}
use Rattle.incidence.proofs.Booleans.{or_cases}
use Rattle.incidence.proofs.Counting.{every, every_at}
use Rattle.affine.specs.Field.{polynomial, element_times_x, product_over, product, element_power, element_inverse}

-- the laws of a field in which the sum is bit_xor
pub record Field (s : ℕ) : Type 0 where
  pub some : 1 < 2 ^ s
  pub small : (a b : ℕ) → product s a b < 2 ^ s
  pub comm : (a b : ℕ) → product s a b ≡ product s b a
  pub assoc : (a b c : ℕ) → product s (product s a b) c ≡ product s a (product s b c)
  pub dist : (a b c : ℕ) → product s a (bit_xor b c) ≡ bit_xor (product s a b) (product s a c)
  pub one : (a : ℕ) → a < 2 ^ s → product s 1 a ≡ a
  pub inv : (a : ℕ) → 0 < a → a < 2 ^ s → product s a (element_inverse s a) ≡ 1

-- ---- the tests

-- whether each two, or each three, of the numbers below n pass
abbrev every2 : ℕ → (ℕ → ℕ → Bool) → Bool
every2 n f = every (λ a. every (f a) n) n

abbrev every3 : ℕ → (ℕ → ℕ → ℕ → Bool) → Bool
every3 n f = every (λ a. every2 n (f a)) n

-- the laws as tests
module _ (s : ℕ) where
  abbrev small_test : ℕ → ℕ → Bool
  small_test a b = ltb (product s a b) (2 ^ s)

  abbrev comm_test : ℕ → ℕ → Bool
  comm_test a b = eqb (product s a b) (product s b a)

  abbrev assoc_test : ℕ → ℕ → ℕ → Bool
  assoc_test a b c = eqb (product s (product s a b) c) (product s a (product s b c))

  abbrev dist_test : ℕ → ℕ → ℕ → Bool
  dist_test a b c = eqb (product s a (bit_xor b c)) (bit_xor (product s a b) (product s a c))

  abbrev one_test : ℕ → Bool
  one_test a = eqb (product s 1 a) a

  abbrev inv_test : ℕ → Bool
  inv_test a = eqb (product s (suc a) (element_inverse s (suc a))) 1

-- each law, tested over the elements
record Tests (s : ℕ) : Type 0 where
  some : 1 < 2 ^ s
  smalls : every2 (2 ^ s) (small_test s) ≡ true
  comms : every2 (2 ^ s) (comm_test s) ≡ true
  assocs : every3 (2 ^ s) (assoc_test s) ≡ true
  dists : every3 (2 ^ s) (dist_test s) ≡ true
  ones : every (one_test s) (2 ^ s) ≡ true
  invs : every (inv_test s) (2 ^ s - 1) ≡ true

-- computed for both fields
tests2 : Tests 2
unfolding polynomial element_times_x product_over product element_power element_inverse
tests2 = record { some = lit< tt; smalls = refl; comms = refl; assocs = refl; dists = refl; ones = refl; invs = refl }

tests3 : Tests 3
unfolding polynomial element_times_x product_over product element_power element_inverse
tests3 = record { some = lit< tt; smalls = refl; comms = refl; assocs = refl; dists = refl; ones = refl; invs = refl }

-- ---- what they say of every number

module _ (s : ℕ) (T : Tests s) where
  -- the lowest s bits of a number are an element
  low : (a : ℕ) → a % 2 ^ s < 2 ^ s
  low a = mod-lt a (omega (arith, T.some))

  -- what each two elements, or each three, pass, the lowest bits of any numbers pass
  at2 : (f : ℕ → ℕ → Bool) → every2 (2 ^ s) f ≡ true → (a b : ℕ) → f (a % 2 ^ s) (b % 2 ^ s) ≡ true
  at2 f h a b = every_at (f (a % 2 ^ s)) (2 ^ s) (every_at (λ a. every (f a) (2 ^ s)) (2 ^ s) h (a % 2 ^ s) (low a)) (b % 2 ^ s) (low b)

  at3 : (f : ℕ → ℕ → ℕ → Bool) → every3 (2 ^ s) f ≡ true → (a b c : ℕ) → f (a % 2 ^ s) (b % 2 ^ s) (c % 2 ^ s) ≡ true
  at3 f h a b c = at2 (f (a % 2 ^ s)) (every_at (λ a. every2 (2 ^ s) (f a)) (2 ^ s) h (a % 2 ^ s) (low a)) b c

  -- a product takes the lowest bits of its factors: the first, the second, both
  left : (a b : ℕ) → product s (a % 2 ^ s) b ≡ product s a b
  unfolding product
  left a b = rw (mod-mod a (2 ^ s))

  right : (a b : ℕ) → product s a (b % 2 ^ s) ≡ product s a b
  unfolding product
  right a b = rw (mod-mod b (2 ^ s))

  both : (a b : ℕ) → product s (a % 2 ^ s) (b % 2 ^ s) ≡ product s a b
  both a b = left a (b % 2 ^ s) ∙ right a b

  -- so the tests speak of all numbers
  is_small : (a b : ℕ) → product s a b < 2 ^ s
  is_small a b = rw (← both a b) (ltb-true (product s (a % 2 ^ s) (b % 2 ^ s)) (2 ^ s) (at2 (small_test s) T.smalls a b))

  is_comm : (a b : ℕ) → product s a b ≡ product s b a
  is_comm a b = sym (both a b) ∙ eqb-true _ _ (at2 (comm_test s) T.comms a b) ∙ both b a

  is_assoc : (a b c : ℕ) → product s (product s a b) c ≡ product s a (product s b c)
  is_assoc a b c =
      sym (right (product s a b) c)
      ∙ ap (λ (z : ℕ). product s z (c % 2 ^ s)) (sym (both a b))
      ∙ eqb-true _ _ (at3 (assoc_test s) T.assocs a b c)
      ∙ ap (product s (a % 2 ^ s)) (both b c)
      ∙ left a (product s b c)

  is_dist : (a b c : ℕ) → product s a (bit_xor b c) ≡ bit_xor (product s a b) (product s a c)
  is_dist a b c =
      sym (right a (bit_xor b c))
      ∙ ap (product s a) (xor_mod b c s)
      ∙ sym (left a _)
      ∙ eqb-true _ _ (at3 (dist_test s) T.dists a b c)
      ∙ ap₂ bit_xor (both a b) (both a c)

  is_inv : (a : ℕ) → 0 < a → a < 2 ^ s → product s a (element_inverse s a) ≡ 1
  is_inv zero l u = absurd (omega arith)
  is_inv (suc a) l u = eqb-true _ _ (every_at (inv_test s) (2 ^ s - 1) T.invs a (omega arith))

  made : Field s
  made = record {
    some = T.some;
    small = is_small;
    comm = is_comm;
    assoc = is_assoc;
    dist = is_dist;
    one = λ a u. eqb-true _ _ (every_at (one_test s) (2 ^ s) T.ones a u);
    inv = is_inv;
  }

-- the fields of 4 and of 8 elements
pub field : (s : ℕ) → eqb s 2 || eqb s 3 ≡ true → Field s
field s h = go (or_cases (eqb s 2) (eqb s 3) h)
  where
    go : (eqb s 2 ≡ true) ⊎ (eqb s 3 ≡ true) → Field s
    go (inl e) = rw (eqb-true s 2 e) (made 2 tests2)
    go (inr e) = rw (eqb-true s 3 e) (made 3 tests3)

-- ---- laws of any field

-- two numbers whose XOR is 0 are the same
pub xor-equal : (a b : ℕ) → bit_xor a b ≡ 0 → a ≡ b
xor-equal a b h = sym (xor_cancel a b) ∙ ap (λ (z : ℕ). bit_xor z b) h

module _ (s : ℕ) (F : Field s) where
  -- the laws that the record states on one side, on the other
  pub dist_left : (a b c : ℕ) → product s (bit_xor a b) c ≡ bit_xor (product s a c) (product s b c)
  dist_left a b c = F.comm (bit_xor a b) c ∙ F.dist c a b ∙ ap₂ bit_xor (F.comm c a) (F.comm c b)

  pub one_right : (a : ℕ) → a < 2 ^ s → product s a 1 ≡ a
  one_right a u = F.comm a 1 ∙ F.one a u

  -- a product with 0 is 0
  pub zero_right : (a : ℕ) → product s a 0 ≡ 0
  zero_right a = F.dist a 0 0 ∙ xor_self (product s a 0)

  pub zero_left : (a : ℕ) → product s 0 a ≡ 0
  zero_left a = F.comm 0 a ∙ zero_right a

  -- a factor other than 0 can be taken away
  pub cancel : (a b u : ℕ) → a < 2 ^ s → b < 2 ^ s → 0 < u → u < 2 ^ s → product s a u ≡ product s b u → a ≡ b
  cancel a b u la lb l h e = sym (back a la) ∙ ap (λ (z : ℕ). product s z (element_inverse s u)) e ∙ back b lb
    where
      back : (c : ℕ) → c < 2 ^ s → product s (product s c u) (element_inverse s u) ≡ c
      back c lc = F.assoc c u (element_inverse s u) ∙ ap (product s c) (F.inv u l h) ∙ one_right c lc
