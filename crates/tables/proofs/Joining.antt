-- What the tables hold for the four bytes of a column adds up to the mixed column, and so for a state. InvMixColumns is additive, so that
-- it may be taken of the round keys beforehand.
use Rattle.std.specs.Prelude.{◌≡◌, ◌∷◌, ◌++◌, ◌+◌, ◌*◌, ◌/◌, ◌%◌, ◌<◌}
use Rattle.fips197.proofs.Kit.{refl, sym, ap, ap₂, ◌∙◌, List, [], map, ℕ, zero-mul, one-mul, arith, lit<, length, get_or, bit_xor, xor_comm, xor_zero_r}
use Rattle.fips197.specs.Block.{◌⊕◌}
use Rattle.fips197.specs.Field.{product_by, ◌•◌}
use Rattle.fips197.specs.Aes.{sbox, rot_word, mixed, inv_mixed, shift_rows, inv_shift_rows, columnwise, inv_mix_columns}
use Rattle.fips197.specs.Words.{bytes_of, state_of, column}
use Rattle.fips197.proofs.Xor.{xor_assoc, xor-left, ⊕_assoc, ⊕-at}
use Rattle.fips197.proofs.Mixing.{product-xor}
use Rattle.fips197.proofs.WordLaws.{bytes-xor}
use Rattle.tables.specs.RoundTables.{RoundTables, round_entry, spread, inv_spread, down}

-- ---- a column

-- two rows further down
down_twice : (x y : List ℕ) → rot_word (rot_word (down 0 x ⊕ down 1 y)) ≡ down 2 x ⊕ down 3 y
unfolding down rot_word ◌⊕◌
down_twice x y = refl

⊕_groups : (p q r s : List ℕ) → (p ⊕ q) ⊕ (r ⊕ s) ≡ p ⊕ q ⊕ r ⊕ s
⊕_groups p q r s = sym (⊕_assoc (p ⊕ q) r s)

-- the XOR of a word for each byte, of which two are turned
module _ (t : List ℕ) (f : ℕ → List ℕ) (e : RoundTables t f) where
  looked_up : (i j x y : ℕ) → i ≡ x % 256 → j ≡ 256 + y % 256
      → bytes_of (bit_xor (get_or t i 0) (get_or t j 0)) ≡ down 0 (f (x % 256)) ⊕ down 1 (f (y % 256))
  looked_up i j x y p q =
      bytes-xor (get_or t i 0) (get_or t j 0)
      ∙ ap₂ ◌⊕◌ (at 0 x i (omega arith) (omega arith)) (at 1 y j (omega arith) (omega arith))
    where
      at : (r x n : ℕ) → r < 2 → n ≡ 256 * r + x % 256 → bytes_of (get_or t n 0) ≡ down r (f (x % 256))
      at r x n h p = ap (λ (m : ℕ). bytes_of (get_or t m 0)) p ∙ e.entry r (x % 256) h (omega arith)

  pub joined_bytes : (a b c d v : ℕ)
      → bytes_of v ≡ rot_word (rot_word (bytes_of (bit_xor (get_or t (c / 65536 % 256) 0) (get_or t (256 + d / 16777216 % 256) 0))))
      → bytes_of (bit_xor (bit_xor (get_or t (a % 256) 0) (get_or t (256 + b / 256 % 256) 0)) v)
      ≡ down 0 (f (a % 256)) ⊕ down 1 (f (b / 256 % 256)) ⊕ down 2 (f (c / 65536 % 256)) ⊕ down 3 (f (d / 16777216 % 256))
  joined_bytes a b c d v turned =
      bytes-xor (bit_xor (get_or t (a % 256) 0) (get_or t (256 + b / 256 % 256) 0)) v
      ∙ ap₂ ◌⊕◌ (looked_up (a % 256) (256 + b / 256 % 256) a (b / 256) refl refl)
      (turned ∙ ap (λ (l : List ℕ). rot_word (rot_word l)) (looked_up (c / 65536 % 256) (256 + d / 16777216 % 256) (c / 65536) (d / 16777216) refl refl)
      ∙ down_twice (f (c / 65536 % 256)) (f (d / 16777216 % 256)))
      ∙ ⊕_groups _ _ _ _

by_1 : (a : ℕ) → 1 • a ≡ a
unfolding ◌•◌ product_by
by_1 a = simp (zero-mul, one-mul, xor_zero_r)

-- the second byte of an entry is 1 times the S-box
pub read_sbox : (t : List ℕ) → RoundTables t round_entry → (x : ℕ) → x < 256 → get_or t x 0 / 256 % 256 ≡ sbox x
unfolding bytes_of down spread round_entry
read_sbox t e x h =
    let q : x ≡ 256 * 0 + x = omega arith in
    ap (λ (k : ℕ). get_or t k 0 / 256 % 256) q ∙ ap (λ (l : List ℕ). get_or l 1 0) (e.entry 0 x (lit< tt) h) ∙ by_1 (sbox x)

module _ (p q r s : ℕ) where
  pub spread_sum : down 0 (spread p) ⊕ down 1 (spread q) ⊕ down 2 (spread r) ⊕ down 3 (spread s) ≡ column mixed (p ∷ q ∷ r ∷ s ∷ [])
  unfolding down spread column ◌⊕◌ mixed
  spread_sum = λ i. row0 i ∷ row1 i ∷ row2 i ∷ row3 i ∷ []
    where
      row0 : bit_xor (bit_xor (bit_xor (2 • p) (3 • q)) (1 • r)) (1 • s) ≡ bit_xor (bit_xor (2 • p) (3 • q)) (bit_xor r s)
      row0 = simp (by_1, xor_assoc, xor_comm, xor-left)

      row1 : bit_xor (bit_xor (bit_xor (1 • p) (2 • q)) (3 • r)) (1 • s) ≡ bit_xor (bit_xor (2 • q) (3 • r)) (bit_xor s p)
      row1 = simp (by_1, xor_assoc, xor_comm, xor-left)

      row2 : bit_xor (bit_xor (bit_xor (1 • p) (1 • q)) (2 • r)) (3 • s) ≡ bit_xor (bit_xor (2 • r) (3 • s)) (bit_xor p q)
      row2 = simp (by_1, xor_assoc, xor_comm, xor-left)

      row3 : bit_xor (bit_xor (bit_xor (3 • p) (1 • q)) (1 • r)) (2 • s) ≡ bit_xor (bit_xor (2 • s) (3 • p)) (bit_xor q r)
      row3 = simp (by_1, xor_assoc, xor_comm, xor-left)

  pub inv_spread_sum : down 0 (inv_spread p) ⊕ down 1 (inv_spread q) ⊕ down 2 (inv_spread r) ⊕ down 3 (inv_spread s) ≡ column inv_mixed (p ∷ q ∷ r ∷ s ∷ [])
  unfolding down inv_spread column ◌⊕◌ inv_mixed
  inv_spread_sum = λ i. row0 i ∷ row1 i ∷ row2 i ∷ row3 i ∷ []
    where
      row0 : bit_xor (bit_xor (bit_xor (14 • p) (11 • q)) (13 • r)) (9 • s) ≡ bit_xor (bit_xor (14 • p) (11 • q)) (bit_xor (13 • r) (9 • s))
      row0 = simp (xor_assoc, xor_comm, xor-left)

      row1 : bit_xor (bit_xor (bit_xor (9 • p) (14 • q)) (11 • r)) (13 • s) ≡ bit_xor (bit_xor (14 • q) (11 • r)) (bit_xor (13 • s) (9 • p))
      row1 = simp (xor_assoc, xor_comm, xor-left)

      row2 : bit_xor (bit_xor (bit_xor (13 • p) (9 • q)) (14 • r)) (11 • s) ≡ bit_xor (bit_xor (14 • r) (11 • s)) (bit_xor (13 • p) (9 • q))
      row2 = simp (xor_assoc, xor_comm, xor-left)

      row3 : bit_xor (bit_xor (bit_xor (11 • p) (13 • q)) (9 • r)) (14 • s) ≡ bit_xor (bit_xor (14 • s) (11 • p)) (bit_xor (13 • q) (9 • r))
      row3 = simp (xor_assoc, xor_comm, xor-left)

-- ---- a state

-- SubBytes, ShiftRows and a mixing, a column at a time
pub mixed_shifted : (f : ℕ → ℕ) (m : ℕ → ℕ → ℕ → ℕ → ℕ) (a b c d p q r s : ℕ)
    → bytes_of p ≡ column m (f (a % 256) ∷ f (b / 256 % 256) ∷ f (c / 65536 % 256) ∷ f (d / 16777216 % 256) ∷ [])
    → bytes_of q ≡ column m (f (b % 256) ∷ f (c / 256 % 256) ∷ f (d / 65536 % 256) ∷ f (a / 16777216 % 256) ∷ [])
    → bytes_of r ≡ column m (f (c % 256) ∷ f (d / 256 % 256) ∷ f (a / 65536 % 256) ∷ f (b / 16777216 % 256) ∷ [])
    → bytes_of s ≡ column m (f (d % 256) ∷ f (a / 256 % 256) ∷ f (b / 65536 % 256) ∷ f (c / 16777216 % 256) ∷ [])
    → state_of p q r s ≡ columnwise m (shift_rows (map f (state_of a b c d)))
unfolding state_of bytes_of column columnwise
mixed_shifted f m a b c d p q r s ep eq er es = λ i. ep i ++ eq i ++ er i ++ es i

pub mixed_unshifted : (f : ℕ → ℕ) (m : ℕ → ℕ → ℕ → ℕ → ℕ) (a b c d p q r s : ℕ)
    → bytes_of p ≡ column m (f (a % 256) ∷ f (d / 256 % 256) ∷ f (c / 65536 % 256) ∷ f (b / 16777216 % 256) ∷ [])
    → bytes_of q ≡ column m (f (b % 256) ∷ f (a / 256 % 256) ∷ f (d / 65536 % 256) ∷ f (c / 16777216 % 256) ∷ [])
    → bytes_of r ≡ column m (f (c % 256) ∷ f (b / 256 % 256) ∷ f (a / 65536 % 256) ∷ f (d / 16777216 % 256) ∷ [])
    → bytes_of s ≡ column m (f (d % 256) ∷ f (c / 256 % 256) ∷ f (b / 65536 % 256) ∷ f (a / 16777216 % 256) ∷ [])
    → state_of p q r s ≡ columnwise m (map f (inv_shift_rows (state_of a b c d)))
unfolding state_of bytes_of column columnwise
mixed_unshifted f m a b c d p q r s ep eq er es = λ i. ep i ++ eq i ++ er i ++ es i

-- XOR with the words of a round
pub keyed_words : (a b c d p q r s : ℕ) {v w x y : List ℕ} → bytes_of p ≡ v → bytes_of q ≡ w → bytes_of r ≡ x → bytes_of s ≡ y
    → state_of (bit_xor a p) (bit_xor b q) (bit_xor c r) (bit_xor d s) ≡ state_of a b c d ⊕ (v ++ w ++ x ++ y)
unfolding state_of bytes_of ◌⊕◌
keyed_words a b c d p q r s ep eq er es =
    (λ i. bytes-xor a p i ++ bytes-xor b q i ++ bytes-xor c r i ++ bytes-xor d s i)
    ∙ (λ i. state_of a b c d ⊕ (ep i ++ eq i ++ er i ++ es i))

-- ---- InvMixColumns is additive

inv_mixed-xor : (a b c d p q r s : ℕ)
    → inv_mixed (bit_xor a p) (bit_xor b q) (bit_xor c r) (bit_xor d s) ≡ bit_xor (inv_mixed a b c d) (inv_mixed p q r s)
unfolding inv_mixed
inv_mixed-xor a b c d p q r s = simp (product-xor, xor_assoc, xor_comm, xor-left)

pub inv_mix_columns-xor : (s k : List ℕ) → length s ≡ 16 → length k ≡ 16 → inv_mix_columns (s ⊕ k) ≡ inv_mix_columns s ⊕ inv_mix_columns k
unfolding inv_mix_columns columnwise ◌⊕◌
inv_mix_columns-xor s k hs hk =
    let z : (i : ℕ) → i < 16 → get_or (s ⊕ k) i 0 ≡ bit_xor (get_or s i 0) (get_or k i 0) = λ i l. ⊕-at s k i (omega arith) (omega arith) in
    let m : (a b c d : ℕ) → a < 16 → b < 16 → c < 16 → d < 16
    → inv_mixed (get_or (s ⊕ k) a 0) (get_or (s ⊕ k) b 0) (get_or (s ⊕ k) c 0) (get_or (s ⊕ k) d 0)
    ≡ bit_xor (inv_mixed (get_or s a 0) (get_or s b 0) (get_or s c 0) (get_or s d 0)) (inv_mixed (get_or k a 0) (get_or k b 0) (get_or k c 0) (get_or k d 0))
    = λ a b c d ha hb hc hd. (λ i. inv_mixed (z a ha i) (z b hb i) (z c hc i) (z d hd i))
    ∙ inv_mixed-xor (get_or s a 0) (get_or s b 0) (get_or s c 0) (get_or s d 0) (get_or k a 0) (get_or k b 0) (get_or k c 0) (get_or k d 0) in
    λ i. m 0 1 2 3 (lit< tt) (lit< tt) (lit< tt) (lit< tt) i ∷ m 1 2 3 0 (lit< tt) (lit< tt) (lit< tt) (lit< tt) i ∷
    m 2 3 0 1 (lit< tt) (lit< tt) (lit< tt) (lit< tt) i ∷ m 3 0 1 2 (lit< tt) (lit< tt) (lit< tt) (lit< tt) i ∷
    m 4 5 6 7 (lit< tt) (lit< tt) (lit< tt) (lit< tt) i ∷ m 5 6 7 4 (lit< tt) (lit< tt) (lit< tt) (lit< tt) i ∷
    m 6 7 4 5 (lit< tt) (lit< tt) (lit< tt) (lit< tt) i ∷ m 7 4 5 6 (lit< tt) (lit< tt) (lit< tt) (lit< tt) i ∷
    m 8 9 10 11 (lit< tt) (lit< tt) (lit< tt) (lit< tt) i ∷ m 9 10 11 8 (lit< tt) (lit< tt) (lit< tt) (lit< tt) i ∷
    m 10 11 8 9 (lit< tt) (lit< tt) (lit< tt) (lit< tt) i ∷ m 11 8 9 10 (lit< tt) (lit< tt) (lit< tt) (lit< tt) i ∷
    m 12 13 14 15 (lit< tt) (lit< tt) (lit< tt) (lit< tt) i ∷ m 13 14 15 12 (lit< tt) (lit< tt) (lit< tt) (lit< tt) i ∷
    m 14 15 12 13 (lit< tt) (lit< tt) (lit< tt) (lit< tt) i ∷ m 15 12 13 14 (lit< tt) (lit< tt) (lit< tt) (lit< tt) i ∷ []
