-- FIPS 197's tables as their rules give them. The code's tables are compared with these, entry by entry, by computation; no table is
-- written down here. What the rules give is computed at every byte (Table's `below`).
use Rattle.std.specs.Prelude.{◌≡◌, ◌∷◌, ◌+◌, ◌-◌, ◌%◌, ◌≤◌, ◌<◌}
use Rattle.fips197.proofs.Kit.{refl, sym, ap, ◌∙◌, subst, Bool, true, false, List, ℕ, zero, suc, not-suc-le-zero, le_of_suc-le-suc, arith, lt_of_le-ne, T, eqb, eqb→eq, ltb, ltb→lt, get_or, bit_xor, eqb-true, eqb-false}
use Rattle.fips197.specs.Block.{Tabulates, tabulate}
use Rattle.fips197.specs.Field.{xtimes, product_by, ◌•◌, power_by, power, inverse}
use Rattle.fips197.specs.Aes.{bit, byte_of, affine, sbox, preimage, inv_sbox}
use Rattle.fips197.proofs.Table.{tabulate-at, both, both_left, both_right, below}

-- ---- the S-box is the inverse in the field, then the affine map

unfoldable pub sbox_table_lem : List ℕ
sbox_table_lem = tabulate 256 sbox

pub sbox_table : Tabulates sbox_table_lem sbox
unfolding sbox_table_lem
sbox_table k h = tabulate-at 256 sbox k h

-- 1 but for 0, which has no inverse
abbrev pub one : ℕ → ℕ
one zero = 0
one (suc k) = 1

-- what `inverse` gives is a byte, the inverse, and goes back
is_inverse : ℕ → ℕ → Bool
is_inverse k v = both (ltb v 256) (both (eqb (k • v) (one k)) (eqb (inverse v) k))

inverse_test : (k : ℕ) → k < 256 → T (is_inverse k (inverse k))
unfolding is_inverse inverse power power_by ◌•◌ product_by xtimes
inverse_test k h = below (λ k. is_inverse k (inverse k)) 256 tt k h

inverse_lt : (k : ℕ) → k < 256 → inverse k < 256
unfolding is_inverse
inverse_lt k h =
    ltb→lt (inverse k) 256 (both_left (ltb (inverse k) 256) (both (eqb (k • inverse k) (one k)) (eqb (inverse (inverse k)) k)) (inverse_test k h))

inverse_both : (k : ℕ) → k < 256 → T (both (eqb (k • inverse k) (one k)) (eqb (inverse (inverse k)) k))
unfolding is_inverse
inverse_both k h = both_right (ltb (inverse k) 256) (both (eqb (k • inverse k) (one k)) (eqb (inverse (inverse k)) k)) (inverse_test k h)

-- what `inverse` gives is the inverse
pub inverse_rule : (k : ℕ) → k < 256 → k • inverse k ≡ one k
inverse_rule k h = eqb→eq (k • inverse k) (one k) (both_left (eqb (k • inverse k) (one k)) (eqb (inverse (inverse k)) k) (inverse_both k h))

inverse_twice : (k : ℕ) → k < 256 → inverse (inverse k) ≡ k
inverse_twice k h = eqb→eq (inverse (inverse k)) k (both_right (eqb (k • inverse k) (one k)) (eqb (inverse (inverse k)) k) (inverse_both k h))

-- ---- the affine map, and 5.3.2's way back

unfoldable pub unaffine : ℕ → ℕ
unaffine b = bit_xor (byte_of (λ i. (bit b (i + 2) + bit b (i + 5) + bit b (i + 7)) % 2)) 0x05

is_bijection : ℕ → Bool
is_bijection k = both (both (ltb (affine k) 256) (ltb (unaffine k) 256)) (both (eqb (unaffine (affine k)) k) (eqb (affine (unaffine k)) k))

affine_test : (k : ℕ) → k < 256 → T (is_bijection k)
unfolding is_bijection affine unaffine byte_of bit
affine_test k h = below is_bijection 256 tt k h

module _ (k : ℕ) (h : k < 256) where
  affine_small : T (both (ltb (affine k) 256) (ltb (unaffine k) 256))
  unfolding is_bijection
  affine_small =
      both_left (both (ltb (affine k) 256) (ltb (unaffine k) 256)) (both (eqb (unaffine (affine k)) k) (eqb (affine (unaffine k)) k)) (affine_test k h)

  affine_round : T (both (eqb (unaffine (affine k)) k) (eqb (affine (unaffine k)) k))
  unfolding is_bijection
  affine_round =
      both_right (both (ltb (affine k) 256) (ltb (unaffine k) 256)) (both (eqb (unaffine (affine k)) k) (eqb (affine (unaffine k)) k)) (affine_test k h)

  affine_lt : affine k < 256
  affine_lt = ltb→lt (affine k) 256 (both_left (ltb (affine k) 256) (ltb (unaffine k) 256) affine_small)

  unaffine_lt : unaffine k < 256
  unaffine_lt = ltb→lt (unaffine k) 256 (both_right (ltb (affine k) 256) (ltb (unaffine k) 256) affine_small)

  unaffine_affine : unaffine (affine k) ≡ k
  unaffine_affine = eqb→eq (unaffine (affine k)) k (both_left (eqb (unaffine (affine k)) k) (eqb (affine (unaffine k)) k) affine_round)

  affine_unaffine : affine (unaffine k) ≡ k
  affine_unaffine = eqb→eq (affine (unaffine k)) k (both_right (eqb (unaffine (affine k)) k) (eqb (affine (unaffine k)) k) affine_round)

pub sbox_lt : (k : ℕ) → k < 256 → sbox k < 256
unfolding sbox
sbox_lt k h = affine_lt (inverse k) (inverse_lt k h)

-- ---- the inverse S-box undoes it

unfoldable pub way_back : ℕ → ℕ
way_back b = inverse (unaffine b)

unfoldable pub inv_sbox_table_lem : List ℕ
inv_sbox_table_lem = tabulate 256 way_back

way_back_lt : (k : ℕ) → k < 256 → way_back k < 256
unfolding way_back
way_back_lt k h = inverse_lt (unaffine k) (unaffine_lt k h)

back : (k : ℕ) → k < 256 → way_back (sbox k) ≡ k
unfolding way_back sbox
back k h = ap inverse (unaffine_affine (inverse k) (inverse_lt k h)) ∙ inverse_twice k h

forth : (k : ℕ) → k < 256 → sbox (way_back k) ≡ k
unfolding way_back sbox
forth k h = ap affine (inverse_twice (unaffine k) (unaffine_lt k h)) ∙ affine_unaffine k h

-- a number below n that f sends to y is the one that is found, where no other is sent to y
preimage_is : (f : ℕ → ℕ) (y n x : ℕ) → x < n → f x ≡ y → ((i : ℕ) → i < n → f i ≡ y → i ≡ x) → preimage f y n ≡ x
unfolding preimage
preimage_is f y zero x h e u = absurd (not-suc-le-zero h)
preimage_is f y (suc n) x h e u = go (eqb (f n) y) refl (λ l. preimage_is f y n x l e (λ i j. u i (omega arith)))
  where
    go : (t : Bool) → eqb (f n) y ≡ t → (x < n → preimage f y n ≡ x) → preimage f y (suc n) ≡ x
    go true q r = rw q (u n (omega arith) (eqb-true (f n) y q))
    go false q r = rw q (r (lt_of_le-ne (le_of_suc-le-suc h) (λ (p : x ≡ n). eqb-false (f n) y q (ap f (sym p) ∙ e))))

sbox-one : (i j : ℕ) → i < 256 → j < 256 → sbox i ≡ sbox j → i ≡ j
sbox-one i j hi hj e = sym (back i hi) ∙ ap way_back e ∙ back j hj

pub inv_sbox_lem : (k : ℕ) → k < 256 → inv_sbox (sbox k) ≡ k
unfolding inv_sbox
inv_sbox_lem k h = preimage_is sbox (sbox k) 256 k h refl (λ i l e. sbox-one i k l h e)

way_back_is : (k : ℕ) → k < 256 → way_back k ≡ inv_sbox k
way_back_is k h = sym (inv_sbox_lem (way_back k) (way_back_lt k h)) ∙ ap inv_sbox (forth k h)

pub inv_sbox_table : Tabulates inv_sbox_table_lem inv_sbox
unfolding inv_sbox_table_lem
inv_sbox_table k h = tabulate-at 256 way_back k h ∙ way_back_is k h

pub inv_sbox_lt : (k : ℕ) → k < 256 → inv_sbox k < 256
inv_sbox_lt k h = subst (λ (x : ℕ). x < 256) (way_back_is k h) (way_back_lt k h)

pub sbox_inv : (k : ℕ) → k < 256 → sbox (inv_sbox k) ≡ k
sbox_inv k h = ap sbox (sym (way_back_is k h)) ∙ forth k h

-- ---- the round constants

unfoldable pub rcon_table_lem : List ℕ
rcon_table_lem = 0 ∷ tabulate 10 (power 2)

pub rcon_table : (j : ℕ) → 1 ≤ j → j ≤ 10 → get_or rcon_table_lem j 0 ≡ power 2 (j - 1)
unfolding rcon_table_lem
rcon_table zero l h = absurd (omega arith)
rcon_table (suc j) l h = let e : suc j - 1 ≡ j = omega arith in tabulate-at 10 (power 2) j (omega arith) ∙ ap (power 2) (sym e)
