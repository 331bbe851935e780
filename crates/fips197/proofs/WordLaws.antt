-- Words of four bytes: XOR, doubling in the field, turning and mixing go byte by byte; four words are a state.
use Rattle.std.specs.Prelude.{◌≡◌, ◌∷◌, ◌++◌, ◌+◌, ◌*◌, ◌/◌, ◌%◌, ◌^◌, ◌≤◌, ◌<◌}
use Rattle.fips197.proofs.Kit.{sym, ap, ap₂, ◌∙◌, subst, List, [], map, div-div-eq-div-mul, div-lt_iff_lt-mul, mod-add-div', mod-eq_of_lt, pow_pos, ℕ, arith, get_or, bit_xor, bit_and, bit_or, w32, xor_shr, xor_mod, and_shr, and_mod, and_mask, and_high, and_le_r, lit<}
use Rattle.std.specs.Int.{rotate_right}
use Rattle.std.specs.Int.Bits.{or_shifted_r}
use Rattle.fips197.specs.Block.{◌⊕◌}
use Rattle.fips197.specs.Field.{xtimes}
use Rattle.fips197.specs.Aes.{rot_word, mixed, inv_mixed, shift_rows, inv_shift_rows, columnwise}
use Rattle.fips197.specs.Words.{bytes_of, state_of, column}
use Rattle.fips197.proofs.Mixing.{mixed-words, inv_mixed-words}
use Rattle.fips197.proofs.Xor.{mod2_lt}

-- the word of four bytes
abbrev pub packed : ℕ → ℕ → ℕ → ℕ → ℕ
packed a b c d = a + b * 256 + c * 65536 + d * 16777216

-- ---- bytes to a word and back

module _ (a b c d : ℕ) (ha : a < 256) (hb : b < 256) (hc : c < 256) (hd : d < 256) where
  byte0 : packed a b c d % 256 ≡ a
  byte0 = omega arith

  byte1 : packed a b c d / 256 % 256 ≡ b
  byte1 = omega arith

  byte2 : packed a b c d / 65536 % 256 ≡ c
  byte2 = omega arith

  byte3 : packed a b c d / 16777216 % 256 ≡ d
  byte3 = omega arith

  pub bytes_packed : bytes_of (packed a b c d) ≡ a ∷ b ∷ c ∷ d ∷ []
  unfolding bytes_of
  bytes_packed = λ i. byte0 i ∷ byte1 i ∷ byte2 i ∷ byte3 i ∷ []

digits : (x p q r a b c d : ℕ) → x ≡ a + p * 256 → p ≡ b + q * 256 → q ≡ c + r * 256 → r ≡ d → x ≡ packed a b c d
digits x p q r a b c d e f g h = omega arith

pub packed-bytes : (x : ℕ) → x < 4294967296 → x ≡ packed (x % 256) (x / 256 % 256) (x / 65536 % 256) (x / 16777216 % 256)
packed-bytes x h =
    let top : x / 16777216 < 256 = (div-lt_iff_lt-mul (pow_pos 24)).1 h in
    digits x (x / 256) (x / 65536) (x / 16777216) _ _ _ _
    (sym (mod-add-div' x 256))
    (sym (mod-add-div' (x / 256) 256) ∙ ap (λ (q : ℕ). x / 256 % 256 + q * 256) (div-div-eq-div-mul x 256 256))
    (sym (mod-add-div' (x / 65536) 256) ∙ ap (λ (q : ℕ). x / 65536 % 256 + q * 256) (div-div-eq-div-mul x 65536 256))
    (sym (mod-eq_of_lt top))

-- ---- XOR

byte_xor : (x y k : ℕ) → bit_xor x y / 2 ^ k % 256 ≡ bit_xor (x / 2 ^ k % 256) (y / 2 ^ k % 256)
byte_xor x y k = ap (λ (z : ℕ). z % 256) (xor_shr x y k) ∙ xor_mod (x / 2 ^ k) (y / 2 ^ k) 8

pub bytes-xor : (x y : ℕ) → bytes_of (bit_xor x y) ≡ bytes_of x ⊕ bytes_of y
unfolding bytes_of ◌⊕◌
bytes-xor x y = λ i. xor_mod x y 8 i ∷ byte_xor x y 8 i ∷ byte_xor x y 16 i ∷ byte_xor x y 24 i ∷ []

-- a word of one byte
pub bytes_small : (x y : ℕ) → x < 256 → x ≡ y → bytes_of x ≡ y ∷ 0 ∷ 0 ∷ 0 ∷ []
bytes_small x y h e =
    let p : x ≡ packed x 0 0 0 = omega arith in
    ap bytes_of p ∙ bytes_packed x 0 0 0 h (omega arith) (omega arith) (omega arith) ∙ ap (λ (a : ℕ). a ∷ 0 ∷ 0 ∷ 0 ∷ []) e

-- a law of four bytes holds of every word
by_bytes : (P : ℕ → List ℕ → Type 0)
    → ((a b c d : ℕ) → a < 256 → b < 256 → c < 256 → d < 256 → P (packed a b c d) (a ∷ b ∷ c ∷ d ∷ []))
    → (x : ℕ) → x < 4294967296 → P x (bytes_of x)
unfolding bytes_of
by_bytes P h x l =
    subst (λ (y : ℕ). P y (bytes_of x)) (sym (packed-bytes x l))
    (h (x % 256) (x / 256 % 256) (x / 65536 % 256) (x / 16777216 % 256) (omega arith) (omega arith) (omega arith) (omega arith))

-- ---- turning

module _ (a b c d : ℕ) (ha : a < 256) (hb : b < 256) (hc : c < 256) (hd : d < 256) where
  turned1 : rotate_right w32 (packed a b c d) 8 ≡ packed b c d a
  turned1 =
      let p = packed a b c d in
      let e : p * 2 ^ 24 % 2 ^ 32 ≡ p % 256 * 2 ^ 24 = omega arith in
      ap (bit_or (p / 256)) e ∙ or_shifted_r (p % 256) 24 (p / 256) (omega arith) ∙ omega arith

  turned2 : rotate_right w32 (packed a b c d) 16 ≡ packed c d a b
  turned2 =
      let p = packed a b c d in
      let e : p * 2 ^ 16 % 2 ^ 32 ≡ p % 65536 * 2 ^ 16 = omega arith in
      ap (bit_or (p / 65536)) e ∙ or_shifted_r (p % 65536) 16 (p / 65536) (omega arith) ∙ omega arith

pub bytes_turn1 : (x : ℕ) → x < 4294967296 → bytes_of (rotate_right w32 x 8) ≡ rot_word (bytes_of x)
unfolding rot_word
bytes_turn1 =
    by_bytes (λ x l. bytes_of (rotate_right w32 x 8) ≡ rot_word l)
    (λ a b c d ha hb hc hd. ap bytes_of (turned1 a b c d ha hb hc hd) ∙ bytes_packed b c d a hb hc hd ha)

pub bytes_turn2 : (x : ℕ) → x < 4294967296 → bytes_of (rotate_right w32 x 16) ≡ rot_word (rot_word (bytes_of x))
unfolding rot_word
bytes_turn2 =
    by_bytes (λ x l. bytes_of (rotate_right w32 x 16) ≡ rot_word (rot_word l))
    (λ a b c d ha hb hc hd. ap bytes_of (turned2 a b c d ha hb hc hd) ∙ bytes_packed c d a b hc hd ha hb)

-- ---- doubling in the field

byte_and : (x m k : ℕ) → bit_and x m / 2 ^ k % 256 ≡ bit_and (x / 2 ^ k % 256) (m / 2 ^ k % 256)
byte_and x m k = ap (λ (z : ℕ). z % 256) (and_shr x m k) ∙ and_mod (x / 2 ^ k) (m / 2 ^ k) 8

-- the low seven bits of each byte, and the high one
low_bits : (x : ℕ) → bytes_of (bit_and x 0x7f7f7f7f) ≡ map (λ b. b % 128) (bytes_of x)
unfolding bytes_of
low_bits x =
    λ i. (and_mod x 0x7f7f7f7f 8 ∙ and_mask (x % 256) 7) i ∷ (byte_and x 0x7f7f7f7f 8 ∙ and_mask (x / 256 % 256) 7) i ∷
    (byte_and x 0x7f7f7f7f 16 ∙ and_mask (x / 65536 % 256) 7) i ∷ (byte_and x 0x7f7f7f7f 24 ∙ and_mask (x / 16777216 % 256) 7) i ∷ []

high_bits : (x : ℕ) → bytes_of (bit_and x 0x80808080) ≡ map (λ b. b / 128 % 2 * 128) (bytes_of x)
unfolding bytes_of
high_bits x =
    λ i. (and_mod x 0x80808080 8 ∙ and_high (x % 256) 1 7) i ∷ (byte_and x 0x80808080 8 ∙ and_high (x / 256 % 256) 1 7) i ∷
    (byte_and x 0x80808080 16 ∙ and_high (x / 65536 % 256) 1 7) i ∷ (byte_and x 0x80808080 24 ∙ and_high (x / 16777216 % 256) 1 7) i ∷ []

-- twice a word of small bytes, and 27 times a word of bits
module _ (a b c d : ℕ) where
  twice_packed : a < 128 → b < 128 → c < 128 → d < 128 → bytes_of (packed a b c d * 2 % 4294967296) ≡ a * 2 ∷ b * 2 ∷ c * 2 ∷ d * 2 ∷ []
  twice_packed ha hb hc hd =
      let e : packed a b c d * 2 % 4294967296 ≡ packed (a * 2) (b * 2) (c * 2) (d * 2) = omega arith in
      ap bytes_of e ∙ bytes_packed (a * 2) (b * 2) (c * 2) (d * 2) (omega arith) (omega arith) (omega arith) (omega arith)

  bits_packed : a < 2 → b < 2 → c < 2 → d < 2
      → bytes_of (packed (a * 128) (b * 128) (c * 128) (d * 128) / 128 * 27) ≡ 27 * a ∷ 27 * b ∷ 27 * c ∷ 27 * d ∷ []
  bits_packed ha hb hc hd =
      let e : packed (a * 128) (b * 128) (c * 128) (d * 128) / 128 * 27 ≡ packed (27 * a) (27 * b) (27 * c) (27 * d) = omega arith in
      ap bytes_of e ∙ bytes_packed (27 * a) (27 * b) (27 * c) (27 * d) (omega arith) (omega arith) (omega arith) (omega arith)

and_small : (x m : ℕ) → m < 4294967296 → bit_and x m < 4294967296
and_small x m h = let l : bit_and x m ≤ m = and_le_r x m in omega arith

-- a word whose bytes are known
packed_from : (y a b c d : ℕ) → y < 4294967296 → bytes_of y ≡ a ∷ b ∷ c ∷ d ∷ [] → y ≡ packed a b c d
unfolding bytes_of
packed_from y a b c d h e =
    packed-bytes y h
    ∙ (λ i. packed (get_or (e i) 0 0) (get_or (e i) 1 0) (get_or (e i) 2 0) (get_or (e i) 3 0))

-- each byte times x
pub bytes-xtimes : (x : ℕ)
    → bytes_of (bit_xor (bit_and x 0x7f7f7f7f * 2 % 4294967296) (bit_and x 0x80808080 / 128 * 27)) ≡ map xtimes (bytes_of x)
unfolding bytes_of xtimes ◌⊕◌
bytes-xtimes x =
    let a = x % 256 in
    let b = x / 256 % 256 in
    let c = x / 65536 % 256 in
    let d = x / 16777216 % 256 in
    let lo = packed_from (bit_and x 0x7f7f7f7f) (a % 128) (b % 128) (c % 128) (d % 128) (and_small x 0x7f7f7f7f (lit< tt)) (low_bits x) in
    let hi = packed_from (bit_and x 0x80808080) (a / 128 % 2 * 128) (b / 128 % 2 * 128) (c / 128 % 2 * 128) (d / 128 % 2 * 128) (and_small x 0x80808080 (lit< tt)) (high_bits x) in
    bytes-xor (bit_and x 0x7f7f7f7f * 2 % 4294967296) (bit_and x 0x80808080 / 128 * 27)
    ∙ ap₂ ◌⊕◌
    (ap (λ (y : ℕ). bytes_of (y * 2 % 4294967296)) lo ∙ twice_packed (a % 128) (b % 128) (c % 128) (d % 128) (small a) (small b) (small c) (small d))
    (ap (λ (y : ℕ). bytes_of (y / 128 * 27)) hi
    ∙ bits_packed (a / 128 % 2) (b / 128 % 2) (c / 128 % 2) (d / 128 % 2) (mod2_lt (a / 128)) (mod2_lt (b / 128)) (mod2_lt (c / 128)) (mod2_lt (d / 128)))
    ∙ (λ i. one a i ∷ one b i ∷ one c i ∷ one d i ∷ [])
  where
    small : (b : ℕ) → b % 128 < 128
    small b = omega arith

    one : (b : ℕ) → bit_xor (b % 128 * 2) (27 * (b / 128 % 2)) ≡ bit_xor (b * 2 % 256) (27 * (b / 128 % 2))
    one b = let e : b % 128 * 2 ≡ b * 2 % 256 = omega arith in ap (λ (z : ℕ). bit_xor z (27 * (b / 128 % 2))) e

-- ---- mixing a column

pub mix_bytes : (x y t v u : ℕ) → bytes_of y ≡ map xtimes (bytes_of x) → bytes_of t ≡ rot_word (bytes_of (bit_xor x y))
    → bytes_of v ≡ rot_word (bytes_of x) → bytes_of u ≡ rot_word (rot_word (bytes_of (bit_xor x v)))
    → bytes_of (bit_xor (bit_xor y t) u) ≡ column mixed (bytes_of x)
unfolding bytes_of rot_word ◌⊕◌ column
mix_bytes x y t v u ey et ev eu =
    let a = x % 256 in
    let b = x / 256 % 256 in
    let c = x / 65536 % 256 in
    let d = x / 16777216 % 256 in
    bytes-xor (bit_xor y t) u
    ∙ ap₂ ◌⊕◌
    (bytes-xor y t ∙ ap₂ ◌⊕◌ ey (et ∙ ap rot_word (bytes-xor x y ∙ ap (λ (l : List ℕ). bytes_of x ⊕ l) ey)))
    (eu ∙ ap (λ (l : List ℕ). rot_word (rot_word l)) (bytes-xor x v ∙ ap (λ (l : List ℕ). bytes_of x ⊕ l) ev))
    ∙ (λ i. mixed-words a b c d i ∷ mixed-words b c d a i ∷ mixed-words c d a b i ∷ mixed-words d a b c i ∷ [])

pub inv_mix_bytes : (x v p q r : ℕ) → bytes_of v ≡ rot_word (rot_word (bytes_of x)) → bytes_of p ≡ map xtimes (bytes_of (bit_xor x v))
    → bytes_of q ≡ map xtimes (bytes_of p) → bytes_of r ≡ column mixed (bytes_of (bit_xor x q)) → bytes_of r ≡ column inv_mixed (bytes_of x)
unfolding bytes_of rot_word ◌⊕◌ column
inv_mix_bytes x v p q r ev ep eq er =
    let a = x % 256 in
    let b = x / 256 % 256 in
    let c = x / 65536 % 256 in
    let d = x / 16777216 % 256 in
    let e4 = eq ∙ ap (map xtimes) (ep ∙ ap (map xtimes) (bytes-xor x v ∙ ap (λ (l : List ℕ). bytes_of x ⊕ l) ev)) in
    er
    ∙ ap (column mixed) (bytes-xor x q ∙ ap (λ (l : List ℕ). bytes_of x ⊕ l) e4)
    ∙ (λ i. inv_mixed-words a b c d i ∷ inv_mixed-words b c d a i ∷ inv_mixed-words c d a b i ∷ inv_mixed-words d a b c i ∷ [])

-- ---- four columns

-- SubBytes and ShiftRows
pub shifted_columns : (f : ℕ → ℕ) (a b c d p q r s : ℕ)
    → bytes_of p ≡ f (a % 256) ∷ f (b / 256 % 256) ∷ f (c / 65536 % 256) ∷ f (d / 16777216 % 256) ∷ []
    → bytes_of q ≡ f (b % 256) ∷ f (c / 256 % 256) ∷ f (d / 65536 % 256) ∷ f (a / 16777216 % 256) ∷ []
    → bytes_of r ≡ f (c % 256) ∷ f (d / 256 % 256) ∷ f (a / 65536 % 256) ∷ f (b / 16777216 % 256) ∷ []
    → bytes_of s ≡ f (d % 256) ∷ f (a / 256 % 256) ∷ f (b / 65536 % 256) ∷ f (c / 16777216 % 256) ∷ []
    → state_of p q r s ≡ shift_rows (map f (state_of a b c d))
unfolding state_of bytes_of
shifted_columns f a b c d p q r s ep eq er es = λ i. ep i ++ eq i ++ er i ++ es i

pub inv_shifted_columns : (f : ℕ → ℕ) (a b c d p q r s : ℕ)
    → bytes_of p ≡ f (a % 256) ∷ f (d / 256 % 256) ∷ f (c / 65536 % 256) ∷ f (b / 16777216 % 256) ∷ []
    → bytes_of q ≡ f (b % 256) ∷ f (a / 256 % 256) ∷ f (d / 65536 % 256) ∷ f (c / 16777216 % 256) ∷ []
    → bytes_of r ≡ f (c % 256) ∷ f (b / 256 % 256) ∷ f (a / 65536 % 256) ∷ f (d / 16777216 % 256) ∷ []
    → bytes_of s ≡ f (d % 256) ∷ f (c / 256 % 256) ∷ f (b / 65536 % 256) ∷ f (a / 16777216 % 256) ∷ []
    → state_of p q r s ≡ map f (inv_shift_rows (state_of a b c d))
unfolding state_of bytes_of
inv_shifted_columns f a b c d p q r s ep eq er es = λ i. ep i ++ eq i ++ er i ++ es i

-- a column at a time
pub mixed_columns : (f : ℕ → ℕ → ℕ → ℕ → ℕ) (a b c d p q r s : ℕ)
    → bytes_of p ≡ column f (bytes_of a) → bytes_of q ≡ column f (bytes_of b) → bytes_of r ≡ column f (bytes_of c) → bytes_of s ≡ column f (bytes_of d)
    → state_of p q r s ≡ columnwise f (state_of a b c d)
unfolding state_of bytes_of column columnwise
mixed_columns f a b c d p q r s ep eq er es = λ i. ep i ++ eq i ++ er i ++ es i

-- XOR of two states
pub added_columns : (a b c d p q r s : ℕ) → state_of (bit_xor a p) (bit_xor b q) (bit_xor c r) (bit_xor d s) ≡ state_of a b c d ⊕ state_of p q r s
unfolding state_of bytes_of ◌⊕◌
added_columns a b c d p q r s = λ i. bytes-xor a p i ++ bytes-xor b q i ++ bytes-xor c r i ++ bytes-xor d s i
