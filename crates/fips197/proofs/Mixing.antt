-- MixColumns and its inverse undo each other: the product is additive, so that each is algebra over xtimes, and no table is needed.
use Rattle.std.specs.Prelude.{◌≡◌, ◌*◌, ◌/◌, ◌%◌, ◌<◌}
use Rattle.fips197.proofs.Kit.{refl, sym, ap, ap₂, ◌∙◌, ℕ, zero, suc, zero-lt-suc, add-zero, zero-mul, one-mul, mul-zero, arith, bit_xor, xor_block, xor_mod, xor_shr, xor_lt, xor_self, xor_comm, xor_zero_r}
use Rattle.fips197.specs.Field.{xtimes, product_by, ◌•◌}
use Rattle.fips197.specs.Aes.{mixed, inv_mixed}
use Rattle.fips197.proofs.Xor.{mod2_lt, xor_assoc, xor-left, sums}

-- ---- xtimes and the product are additive

-- a bit times a number is additive in the bit
bit_times : (c u v : ℕ) → u < 2 → v < 2 → c * bit_xor u v ≡ bit_xor (c * u) (c * v)
bit_times c zero v hu hv = rw mul-zero
bit_times c (suc zero) zero hu hv = sym (xor_zero_r (c * 1)) ∙ ap (bit_xor (c * 1)) (sym (mul-zero c))
bit_times c (suc zero) (suc zero) hu hv = mul-zero c ∙ sym (xor_self (c * 1))
bit_times c (suc zero) (suc (suc v)) hu hv = absurd (omega arith)
bit_times c (suc (suc u)) v hu hv = absurd (omega arith)

-- and in the number
times_bit : (u a b : ℕ) → u < 2 → u * bit_xor a b ≡ bit_xor (u * a) (u * b)
times_bit zero a b h = simp zero-mul
times_bit (suc zero) a b h = simp one-mul
times_bit (suc (suc u)) a b h = absurd (omega arith)

double-xor : (a b : ℕ) → bit_xor a b * 2 ≡ bit_xor (a * 2) (b * 2)
double-xor a b =
    sym (add-zero (bit_xor a b * 2)) ∙ sym (xor_block 1 a b 0 0 (zero-lt-suc 1) (zero-lt-suc 1))
    ∙ ap₂ bit_xor (add-zero (a * 2)) (add-zero (b * 2))

-- the middle two change places
xor_mid : (a b c d : ℕ) → bit_xor (bit_xor a b) (bit_xor c d) ≡ bit_xor (bit_xor a c) (bit_xor b d)
xor_mid a b c d = simp sums

pub xtimes-xor : (a b : ℕ) → xtimes (bit_xor a b) ≡ bit_xor (xtimes a) (xtimes b)
unfolding xtimes
xtimes-xor a b =
    ap₂ bit_xor
    (ap (λ (x : ℕ). x % 256) (double-xor a b) ∙ xor_mod (a * 2) (b * 2) 8)
    (ap (λ (x : ℕ). 27 * x) (ap (λ (x : ℕ). x % 2) (xor_shr a b 7) ∙ xor_mod (a / 128) (b / 128) 1)
    ∙ bit_times 27 (a / 128 % 2) (b / 128 % 2) (mod2_lt (a / 128)) (mod2_lt (b / 128)))
    ∙ xor_mid (a * 2 % 256) (b * 2 % 256) (27 * (a / 128 % 2)) (27 * (b / 128 % 2))

product_by-xor : (n c a b : ℕ) → product_by n c (bit_xor a b) ≡ bit_xor (product_by n c a) (product_by n c b)
unfolding product_by
product_by-xor zero c a b = refl
product_by-xor (suc n) c a b =
    ap₂ bit_xor (times_bit (c % 2) a b (mod2_lt c))
    (ap (product_by n (c / 2)) (xtimes-xor a b) ∙ product_by-xor n (c / 2) (xtimes a) (xtimes b))
    ∙ xor_mid (c % 2 * a) (c % 2 * b) (product_by n (c / 2) (xtimes a)) (product_by n (c / 2) (xtimes b))

pub product-xor : (c a b : ℕ) → c • bit_xor a b ≡ bit_xor (c • a) (c • b)
unfolding ◌•◌
product-xor c a b = product_by-xor 8 c a b

-- ---- bytes

pub xtimes_lt : (a : ℕ) → xtimes a < 256
unfolding xtimes
xtimes_lt a = xor_lt 8 (a * 2 % 256) (27 * (a / 128 % 2)) (omega arith) (omega arith)

product_by_lt : (n c a : ℕ) → a < 256 → product_by n c a < 256
unfolding product_by
product_by_lt zero c a h = omega arith
product_by_lt (suc n) c a h =
    xor_lt 8 (c % 2 * a) (product_by n (c / 2) (xtimes a)) (times (c % 2) (mod2_lt c)) (product_by_lt n (c / 2) (xtimes a) (xtimes_lt a))
  where
    times : (u : ℕ) → u < 2 → u * a < 256
    times zero hu = simp zero-mul (omega arith)
    times (suc zero) hu = simp one-mul h
    times (suc (suc u)) hu = absurd (omega arith)

pub product_lt : (c a : ℕ) → a < 256 → c • a < 256
unfolding ◌•◌
product_lt c a h = product_by_lt 8 c a h

module _ (a b c d : ℕ) (ha : a < 256) (hb : b < 256) (hc : c < 256) (hd : d < 256) where
  pub mixed_lt : mixed a b c d < 256
  unfolding mixed
  mixed_lt = xor_lt 8 _ _ (xor_lt 8 _ _ (product_lt 2 a ha) (product_lt 3 b hb)) (xor_lt 8 _ _ hc hd)

  pub inv_mixed_lt : inv_mixed a b c d < 256
  unfolding inv_mixed
  inv_mixed_lt = xor_lt 8 _ _ (xor_lt 8 _ _ (product_lt 14 a ha) (product_lt 11 b hb)) (xor_lt 8 _ _ (product_lt 13 c hc) (product_lt 9 d hd))

-- ---- products by the constants, in xtimes

by_2 : (a : ℕ) → 2 • a ≡ xtimes a
unfolding ◌•◌ product_by
by_2 a = simp (zero-mul, one-mul, xor_zero_r)

by_3 : (a : ℕ) → 3 • a ≡ bit_xor a (xtimes a)
unfolding ◌•◌ product_by
by_3 a = simp (zero-mul, one-mul, xor_zero_r)

by_9 : (a : ℕ) → 9 • a ≡ bit_xor a (xtimes (xtimes (xtimes a)))
unfolding ◌•◌ product_by
by_9 a = simp (zero-mul, one-mul, xor_zero_r)

by_11 : (a : ℕ) → 11 • a ≡ bit_xor a (bit_xor (xtimes a) (xtimes (xtimes (xtimes a))))
unfolding ◌•◌ product_by
by_11 a = simp (zero-mul, one-mul, xor_zero_r)

by_13 : (a : ℕ) → 13 • a ≡ bit_xor a (bit_xor (xtimes (xtimes a)) (xtimes (xtimes (xtimes a))))
unfolding ◌•◌ product_by
by_13 a = simp (zero-mul, one-mul, xor_zero_r)

by_14 : (a : ℕ) → 14 • a ≡ bit_xor (xtimes a) (bit_xor (xtimes (xtimes a)) (xtimes (xtimes (xtimes a))))
unfolding ◌•◌ product_by
by_14 a = simp (zero-mul, one-mul, xor_zero_r)

ruleset constants = (by_2, by_3, by_9, by_11, by_13, by_14, xtimes-xor)

-- ---- the two undo each other: on each byte of a column alone, and so on all four

split_inv : (a b c d : ℕ)
    → inv_mixed (mixed a b c d) (mixed b c d a) (mixed c d a b) (mixed d a b c)
    ≡ bit_xor (bit_xor (inv_mixed (2 • a) a a (3 • a)) (inv_mixed (3 • b) (2 • b) b b)) (bit_xor (inv_mixed c (3 • c) (2 • c) c) (inv_mixed d d (3 • d) (2 • d)))
unfolding mixed inv_mixed
split_inv a b c d = simp (product-xor, xor_assoc, xor_comm, xor-left)

split_mix : (a b c d : ℕ)
    → mixed (inv_mixed a b c d) (inv_mixed b c d a) (inv_mixed c d a b) (inv_mixed d a b c)
    ≡ bit_xor (bit_xor (mixed (14 • a) (9 • a) (13 • a) (11 • a)) (mixed (11 • b) (14 • b) (9 • b) (13 • b))) (bit_xor (mixed (13 • c) (11 • c) (14 • c) (9 • c)) (mixed (9 • d) (13 • d) (11 • d) (14 • d)))
unfolding mixed inv_mixed
split_mix a b c d = simp (product-xor, xor_assoc, xor_comm, xor-left)

inv_0 : (a : ℕ) → inv_mixed (2 • a) a a (3 • a) ≡ a
unfolding inv_mixed
inv_0 a = simp (constants, sums)

inv_1 : (a : ℕ) → inv_mixed (3 • a) (2 • a) a a ≡ 0
unfolding inv_mixed
inv_1 a = simp (constants, sums)

inv_2 : (a : ℕ) → inv_mixed a (3 • a) (2 • a) a ≡ 0
unfolding inv_mixed
inv_2 a = simp (constants, sums)

inv_3 : (a : ℕ) → inv_mixed a a (3 • a) (2 • a) ≡ 0
unfolding inv_mixed
inv_3 a = simp (constants, sums)

mix_0 : (a : ℕ) → mixed (14 • a) (9 • a) (13 • a) (11 • a) ≡ a
unfolding mixed
mix_0 a = simp (constants, sums)

mix_1 : (a : ℕ) → mixed (11 • a) (14 • a) (9 • a) (13 • a) ≡ 0
unfolding mixed
mix_1 a = simp (constants, sums)

mix_2 : (a : ℕ) → mixed (13 • a) (11 • a) (14 • a) (9 • a) ≡ 0
unfolding mixed
mix_2 a = simp (constants, sums)

mix_3 : (a : ℕ) → mixed (9 • a) (13 • a) (11 • a) (14 • a) ≡ 0
unfolding mixed
mix_3 a = simp (constants, sums)

-- a sum of which only the first is left
alone : (a w x y z : ℕ) → w ≡ a → x ≡ 0 → y ≡ 0 → z ≡ 0 → bit_xor (bit_xor w x) (bit_xor y z) ≡ a
alone a w x y z p q r s = rw (p, q, r, s) (xor_zero_r (bit_xor a 0) ∙ xor_zero_r a)

pub inv_mixed_lem : (a b c d : ℕ) → inv_mixed (mixed a b c d) (mixed b c d a) (mixed c d a b) (mixed d a b c) ≡ a
inv_mixed_lem a b c d = split_inv a b c d ∙ alone a _ _ _ _ (inv_0 a) (inv_1 b) (inv_2 c) (inv_3 d)

pub mixed_inv : (a b c d : ℕ) → mixed (inv_mixed a b c d) (inv_mixed b c d a) (inv_mixed c d a b) (inv_mixed d a b c) ≡ a
mixed_inv a b c d = split_mix a b c d ∙ alone a _ _ _ _ (mix_0 a) (mix_1 b) (mix_2 c) (mix_3 d)

-- ---- as the code computes them

pub mixed-words : (a b c d : ℕ) → bit_xor (bit_xor (xtimes a) (bit_xor b (xtimes b))) (bit_xor c d) ≡ mixed a b c d
unfolding mixed
mixed-words a b c d = simp (by_2, by_3, xor_assoc, xor_comm, xor-left)

-- mixing what has 4 times the byte two below it added
pub inv_mixed-words : (a b c d : ℕ)
    → mixed (bit_xor a (xtimes (xtimes (bit_xor a c)))) (bit_xor b (xtimes (xtimes (bit_xor b d))))
    (bit_xor c (xtimes (xtimes (bit_xor c a)))) (bit_xor d (xtimes (xtimes (bit_xor d b))))
    ≡ inv_mixed a b c d
unfolding mixed inv_mixed
inv_mixed-words a b c d = simp (constants, sums)
