-- Doubling: what each byte is, as the code computes it; that it is multiplication by x; and that it keeps blocks.
use Rattle.std.specs.Prelude.{◌≡◌, ◌∷◌, ◌++◌, ◌+◌, ◌*◌, ◌/◌, ◌%◌, ◌^◌, ◌<◌}
use Rattle.fips197.proofs.Kit.{sym, ap, ap₂, ◌∙◌, subst, ⊎_elim, List, [], ℕ, zero, suc, not-suc-le-zero, le_of_suc-le-suc, eq-or-lt_of_le, div-div-eq-div-mul, pow-suc, add-mul, mul_assoc, mul_comm, mod-lt, div-add-mod', div-lt_iff_lt-mul, zero-add, add-zero, lit<, pow_pos, arith, length, get_or, get_or-replicate, List·getD-append, get_or_at, bit_and, bit_xor, bit_or, and_mask, or_shifted, xor_zero_r, xor_block, xor_lt, xor_self}
use Rattle.blocks.specs.Block.{Bytes, Block, ◌⊕◌, zeros}
use Rattle.blocks.specs.Number.{number_of, number, big_endian}
use Rattle.blocks.specs.Double.{double, times_x}
use Rattle.blocks.proofs.Xor.{⊕-length, ⊕-bytes, ⊕-at, byte_at}
use Rattle.blocks.proofs.Numbers.{big_endian-length, big_endian-bytes, big_endian_zero, big_endian-over, big_endian-xor, number-big_endian}

-- ---- the shifted number, byte by byte

module _ (s : List ℕ) (h : Bytes s) where
  -- the number of k + 1 bytes, shifted with a bit c coming in: its last byte, and the rest, into which the byte's high bit goes
  last_byte : (k c : ℕ) → c < 2 → (number_of s (suc k) * 2 + c) % 256 ≡ get_or s k 0 * 2 % 256 + c
  unfolding number_of
  last_byte k c l = let b : get_or s k 0 < 256 = byte_at s h k in omega arith

  the_rest : (k c : ℕ) → c < 2 → (number_of s (suc k) * 2 + c) / 256 ≡ number_of s k * 2 + get_or s k 0 / 128
  unfolding number_of
  the_rest k c l = let b : get_or s k 0 < 256 = byte_at s h k in omega arith

  high_bit : (k : ℕ) → get_or s k 0 / 128 < 2
  high_bit k = let b : get_or s k 0 < 256 = byte_at s h k in omega arith

  shifted_last : (k c : ℕ) → c < 2 → get_or (big_endian (suc k) (number_of s (suc k) * 2 + c)) k 0 ≡ get_or s k 0 * 2 % 256 + c
  unfolding big_endian
  shifted_last k c l =
      let m = number_of s (suc k) * 2 + c in
      get_or_at (big_endian k (m / 256)) (m % 256) [] 0 k (big_endian-length k (m / 256)) ∙ last_byte k c l

  shifted_at : (k c i : ℕ) → c < 2 → suc i < k → get_or (big_endian k (number_of s k * 2 + c)) i 0 ≡ get_or s i 0 * 2 % 256 + get_or s (suc i) 0 / 128
  unfolding big_endian
  shifted_at zero c i l b = absurd (not-suc-le-zero b)
  shifted_at (suc k) c i l b =
      let m = number_of s (suc k) * 2 + c in
      let q : length (big_endian k (m / 256)) ≡ k = big_endian-length k (m / 256) in
      List·getD-append (big_endian k (m / 256)) (m % 256 ∷ []) 0 i (omega arith)
      ∙ ap (λ (n : ℕ). get_or (big_endian k n) i 0) (the_rest k c l)
      ∙ ⊎_elim
      (λ (e : suc i ≡ k). ap (λ (j : ℕ). get_or (big_endian j (number_of s j * 2 + get_or s k 0 / 128)) i 0) (sym e)
      ∙ shifted_last i (get_or s k 0 / 128) (high_bit k) ∙ ap (λ (j : ℕ). get_or s i 0 * 2 % 256 + get_or s j 0 / 128) (sym e))
      (λ (t : suc i < k). shifted_at k (get_or s k 0 / 128) i (high_bit k) t)
      (eq-or-lt_of_le (le_of_suc-le-suc b))

  -- the bit that is lost is the first byte's
  top_bit : (k : ℕ) → number_of s (suc k) / (128 * 256 ^ k) ≡ get_or s 0 0 / 128
  unfolding number_of
  top_bit zero = ap (λ (m : ℕ). m / 128) (zero-add (get_or s 0 0))
  top_bit (suc k) =
      let n = number_of s (suc k) * 256 + get_or s (suc k) 0 in
      let b : get_or s (suc k) 0 < 256 = byte_at s h (suc k) in
      let q : n / 256 ≡ number_of s (suc k) = omega arith in
      ap (λ (m : ℕ). n / m) turn
      ∙ sym (div-div-eq-div-mul n 256 (128 * 256 ^ k))
      ∙ ap (λ (m : ℕ). m / (128 * 256 ^ k)) q
      ∙ top_bit k
    where
      turn : 128 * 256 ^ suc k ≡ 256 * (128 * 256 ^ k)
      turn = ap (λ (m : ℕ). 128 * m) (pow-suc 256 k) ∙ omega arith

-- a byte alone is the last of 16
byte_alone : (x : ℕ) → x < 256 → big_endian 16 x ≡ zeros 15 ++ (x ∷ [])
unfolding big_endian
byte_alone x h =
    let q : x / 256 ≡ 0 = omega arith in
    let r : x % 256 ≡ x = omega arith in
    ap₂ (λ (m y : ℕ). big_endian 15 m ++ (y ∷ [])) q r ∙ ap (λ (t : List ℕ). t ++ (x ∷ [])) (big_endian_zero 15)

module _ (b : List ℕ) (h : Block b) where
  lost : number b / 2 ^ 127 ≡ get_or b 0 0 / 128
  unfolding number
  lost = ap (λ (k : ℕ). number_of b k / 2 ^ 127) h.long ∙ top_bit b h.bytes 15

  marked : big_endian 16 (0x87 * (number b / 2 ^ 127)) ≡ zeros 15 ++ ((0x87 * (get_or b 0 0 / 128)) ∷ [])
  marked =
      let l : get_or b 0 0 < 256 = byte_at b h.bytes 0 in
      ap (λ (x : ℕ). big_endian 16 (0x87 * x)) lost ∙ byte_alone (0x87 * (get_or b 0 0 / 128)) (omega arith)

  shifted : big_endian 16 (number b * 2) ≡ big_endian 16 (number_of b 16 * 2 + 0)
  unfolding number
  shifted = ap (λ (k : ℕ). big_endian 16 (number_of b k * 2)) h.long ∙ ap (big_endian 16) (sym (add-zero (number_of b 16 * 2)))

  pub double-at : (i : ℕ) → i < 15 → get_or (double b) i 0 ≡ get_or b i 0 * 2 % 256 + get_or b (suc i) 0 / 128
  unfolding double
  double-at i l =
      ⊕-at (big_endian 16 (number b * 2)) (big_endian 16 (0x87 * (number b / 2 ^ 127))) i
      (simp big_endian-length (omega arith)) (simp big_endian-length (omega arith))
      ∙ ap₂ bit_xor
      (ap (λ (t : List ℕ). get_or t i 0) shifted ∙ shifted_at b h.bytes 16 0 i (omega arith) (omega arith))
      (ap (λ (t : List ℕ). get_or t i 0) marked ∙ List·getD-append (zeros 15) ((0x87 * (get_or b 0 0 / 128)) ∷ []) 0 i l ∙ get_or-replicate 15 i 0 0 l)
      ∙ xor_zero_r _

  pub double-last : get_or (double b) 15 0 ≡ bit_xor (get_or b 15 0 * 2 % 256) (0x87 * (get_or b 0 0 / 128))
  unfolding double
  double-last =
      ⊕-at (big_endian 16 (number b * 2)) (big_endian 16 (0x87 * (number b / 2 ^ 127))) 15
      (simp big_endian-length (omega arith)) (simp big_endian-length (omega arith))
      ∙ ap₂ bit_xor
      (ap (λ (t : List ℕ). get_or t 15 0) shifted ∙ shifted_last b h.bytes 15 0 (omega arith) ∙ add-zero _)
      (ap (λ (t : List ℕ). get_or t 15 0) marked)

-- the code's `(y >> 7) & 1`: the bit that is carried
carried_bit : (y : ℕ) → y < 256 → bit_and (y / 128) 1 ≡ y / 128
carried_bit y h = and_mask (y / 128) 1 ∙ omega arith

-- `(x << 1) | (y >> 7)`
pub or_carried_bit : (x y : ℕ) → y < 256 → bit_or (x * 2 % 256) (y / 128) ≡ x * 2 % 256 + y / 128
or_carried_bit x y h =
    let e : x * 2 % 256 ≡ x % 128 * 2 = omega arith in
    ap (λ (z : ℕ). bit_or z (y / 128)) e ∙ or_shifted (x % 128) 1 (y / 128) (omega arith) ∙ ap (λ (z : ℕ). z + y / 128) (sym e)

-- and `(x << 1) | ((y >> 7) & 1)`, which the code has
pub or_shifted_bit : (x y : ℕ) → y < 256 → bit_or (x * 2 % 256) (bit_and (y / 128) 1) ≡ x * 2 % 256 + y / 128
or_shifted_bit x y h = ap (bit_or (x * 2 % 256)) (carried_bit y h) ∙ or_carried_bit x y h

-- and `0x87 & mask`, where the mask is the lost bit's negative
pub masked_bit : (y mask : ℕ) → y < 256 → mask < 256 → (mask + bit_and (y / 128) 1) % 2 ^ 8 ≡ 0 → bit_and 0x87 mask ≡ 0x87 * (y / 128)
masked_bit y mask h l e = go (y / 128) (omega arith) (sym (ap (λ (b : ℕ). (mask + b) % 256) (carried_bit y h)) ∙ e)
  where
    go : (b : ℕ) → b < 2 → (mask + b) % 256 ≡ 0 → bit_and 0x87 mask ≡ 0x87 * b
    go zero s q = let z : mask ≡ 0 = omega arith in ap (bit_and 0x87) z
    go (suc zero) s q = let z : mask ≡ 255 = omega arith in ap (bit_and 0x87) z
    go (suc (suc b)) s q = absurd (omega arith)

-- ---- blocks

pub double-length : (b : List ℕ) → length (double b) ≡ 16
unfolding double
double-length b =
    ⊕-length (big_endian 16 (number b * 2)) (big_endian 16 (0x87 * (number b / 2 ^ 127))) (simp big_endian-length (omega arith))
    ∙ big_endian-length 16 (number b * 2)

pub double-block : (b : List ℕ) → Block (double b)
unfolding double
double-block b = record { long = double-length b; bytes = ⊕-bytes _ _ (big_endian-bytes 16 (number b * 2)) (big_endian-bytes 16 (0x87 * (number b / 2 ^ 127))) }

-- ---- multiplication by x

-- doubling is multiplication by x in the field
pub double-times_x : (b : List ℕ) → double b ≡ big_endian 16 (times_x (number b))
unfolding double times_x
double-times_x b =
    let n = number b in
    let l = n / 2 ^ 127 in
    let e : (2 ^ 128 + 0x87) * l ≡ 256 ^ 16 * l + 0x87 * l = add-mul (2 ^ 128) 0x87 l in
    sym (big_endian-xor 16 (n * 2) ((2 ^ 128 + 0x87) * l)
    ∙ ap (λ (t : List ℕ). big_endian 16 (n * 2) ⊕ t) (ap (big_endian 16) e ∙ big_endian-over 16 l (0x87 * l)))

-- twice a number, by the digits to the base p
twice : (p n l r : ℕ) → l * p + r ≡ n → n * 2 ≡ l * (p * 2) + r * 2
twice p n l r e = let m : n * 2 ≡ l * p * 2 + r * 2 = omega arith in m ∙ ap (λ (x : ℕ). x + r * 2) (mul_assoc l p 2)

half_lt : (p r : ℕ) → r < p → r * 2 < p * 2
half_lt p r h = omega arith

small_lt : (q l : ℕ) → l < 2 → 0x87 < q → 0x87 * l < q
small_lt q l h b = omega arith

-- the product stays below x^128, so that 16 bytes hold it
times_x_lt : (n : ℕ) → n < 2 ^ 128 → times_x n < 2 ^ 128
unfolding times_x
times_x_lt n h =
    let l = n / 2 ^ 127 in
    let r = n % 2 ^ 127 in
    let hl : l < 2 = (div-lt_iff_lt-mul (pow_pos 127)).1 h in
    let hr : r * 2 < 2 ^ 128 = half_lt (2 ^ 127) r (mod-lt n (pow_pos 127)) in
    let hq : 0x87 * l < 2 ^ 128 = small_lt (2 ^ 128) l hl (lit< tt) in
    let e : bit_xor (n * 2) ((2 ^ 128 + 0x87) * l) ≡ bit_xor (r * 2) (0x87 * l)
    = ap₂ bit_xor (twice (2 ^ 127) n l r (div-add-mod' n (2 ^ 127))) (add-mul (2 ^ 128) 0x87 l ∙ ap (λ (x : ℕ). x + 0x87 * l) (mul_comm (2 ^ 128) l))
    ∙ xor_block 128 l l (r * 2) (0x87 * l) hr hq
    ∙ ap (λ (x : ℕ). x * 2 ^ 128 + bit_xor (r * 2) (0x87 * l)) (xor_self l) ∙ zero-add (bit_xor (r * 2) (0x87 * l)) in
    subst (λ (x : ℕ). x < 2 ^ 128) (sym e) (xor_lt 128 (r * 2) (0x87 * l) hr hq)

pub number-double : (b : List ℕ) → number b < 2 ^ 128 → number (double b) ≡ times_x (number b)
number-double b h = ap number (double-times_x b) ∙ number-big_endian 16 (times_x (number b)) (times_x_lt (number b) h)
