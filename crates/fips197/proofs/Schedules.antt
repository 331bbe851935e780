-- The key schedule: its length, its bytes and its round keys, and what the engines' loops keep of it.
use Rattle.std.specs.Prelude.{◌≡◌, ◌∷◌, ◌++◌, ◌+◌, ◌-◌, ◌*◌, ◌/◌, ◌%◌, ◌≤◌, ◌<◌, if◌then◌else◌}
use Rattle.fips197.proofs.Kit.{refl, sym, ap, ap₂, ◌∙◌, Bool, true, false, List, [], map, ℕ, zero, suc, zero-lt-suc, arith, eqb, length, get_or, take, drop, length-append, length-take, length-drop, take-append-le, drop-append-le, take_at, take_all, drop_at, drop-drop, drop-append-add, append_assoc, add-one, eq-eqb, ne_eqb}
use Rattle.fips197.specs.Block.{Bytes, Block, ◌⊕◌}
use Rattle.fips197.specs.Field.{power, power_by, ◌•◌}
use Rattle.fips197.specs.Aes.{sbox, word, rot_word, sub_word, rcon, temp, expanded, key_expansion, round_key}
use Rattle.fips197.specs.Words.{bytes_of, state_of}
use Rattle.fips197.specs.declared.columns.Columns.{Columns}
use Rattle.fips197.proofs.Xor.{⊕-length, ⊕-bytes, byte_at, append-bytes, take-bytes, drop-bytes, map-bytes}
use Rattle.fips197.proofs.Loop.{placed-long}
use Rattle.fips197.proofs.TableRules.{sbox_lt}
use Rattle.fips197.proofs.Mixing.{product_lt}
use Rattle.fips197.proofs.States.{bytes-at, words-at}

-- ---- words

pub word-length : (w : List ℕ) (i : ℕ) → 4 * i + 4 ≤ length w → length (word w i) ≡ 4
unfolding word
word-length w i h = simp (length-take, length-drop) (omega arith)

-- a word of the front is a word of the whole
pub word-front : (a b : List ℕ) (i : ℕ) → 4 * i + 4 ≤ length a → word (a ++ b) i ≡ word a i
unfolding word
word-front a b i h =
    ap (take 4) (drop-append-le (4 * i) a b (omega arith)) ∙ take-append-le 4 (drop (4 * i) a) b (simp length-drop (omega arith))

word_bytes : (w : List ℕ) (i : ℕ) → Bytes w → Bytes (word w i)
unfolding word
word_bytes w i h = take-bytes 4 (drop (4 * i) w) (drop-bytes (4 * i) w h)

power_by_lt : (k b n : ℕ) → power_by k b n < 256
unfolding power_by
power_by_lt zero b n = omega arith
power_by_lt (suc k) b n = product_lt (if eqb (n % 2) 1 then b else 1) (power_by k (b • b) (n / 2)) (power_by_lt k (b • b) (n / 2))

rcon-bytes : (j : ℕ) → Bytes (rcon j)
unfolding rcon power
rcon-bytes j = (power_by_lt 8 2 (j - 1), (zero-lt-suc 255, (zero-lt-suc 255, (zero-lt-suc 255, tt))))

rot_word-bytes : (a : List ℕ) → Bytes a → Bytes (rot_word a)
unfolding rot_word
rot_word-bytes a h = (byte_at a h 1, (byte_at a h 2, (byte_at a h 3, (byte_at a h 0, tt))))

if_cases : (P : List ℕ → Type 0) (t : Bool) (a b : List ℕ) → P a → P b → P (if t then a else b)
if_cases P true a b p q = p
if_cases P false a b p q = q

temp-bytes : (i : ℕ) (w : List ℕ) → Bytes w → Bytes (temp i w)
unfolding temp sub_word
temp-bytes i w h =
    let a = word w (i - 1) in
    let b : Bytes a = word_bytes w (i - 1) h in
    if_cases Bytes (eqb (i % 4) 0) (map sbox (rot_word a) ⊕ rcon (i / 4)) a
    (⊕-bytes (map sbox (rot_word a)) (rcon (i / 4)) (map-bytes sbox sbox_lt (rot_word a) (rot_word-bytes a b)) (rcon-bytes (i / 4)))
    b

temp-length : (i : ℕ) (w : List ℕ) → 4 ≤ i → 4 * i ≤ length w → length (temp i w) ≡ 4
unfolding temp sub_word rot_word rcon ◌⊕◌
temp-length i w l h = if_cases (λ (a : List ℕ). length a ≡ 4) (eqb (i % 4) 0) _ _ refl (word-length w (i - 1) (omega arith))

-- ---- the schedule

module _ (key : List ℕ) (hk : length key ≡ 16) where
  pub expanded-length : (n : ℕ) → length (expanded key n) ≡ 4 * (n + 4)
  unfolding expanded
  expanded-length zero = hk
  expanded-length (suc n) =
      let w = expanded key n in
      let e : length w ≡ 4 * (n + 4) = expanded-length n in
      let a : length (word w n) ≡ 4 = word-length w n (omega arith) in
      let b : length (temp (n + 4) w) ≡ 4 = temp-length (n + 4) w (omega arith) (omega arith) in
      let s : length (word w n ⊕ temp (n + 4) w) ≡ length (word w n) = ⊕-length _ _ (omega arith) in
      length-append w (word w n ⊕ temp (n + 4) w) ∙ omega arith

  pub key_expansion-length : length (key_expansion key) ≡ 176
  unfolding key_expansion
  key_expansion-length = expanded-length 40

  pub expanded-bytes : Bytes key → (n : ℕ) → Bytes (expanded key n)
  unfolding expanded
  expanded-bytes h zero = h
  expanded-bytes h (suc n) =
      let w = expanded key n in
      let b : Bytes w = expanded-bytes h n in
      append-bytes w _ b (⊕-bytes _ _ (word_bytes w n b) (temp-bytes (n + 4) w b))

pub round_key-length : (w : List ℕ) (n : ℕ) → length w ≡ 176 → n < 11 → length (round_key w n) ≡ 16
unfolding round_key
round_key-length w n h l = simp (length-take, length-drop) (omega arith)

pub round_key-block : (key : List ℕ) → Block key → (n : ℕ) → n < 11 → Block (round_key (key_expansion key) n)
unfolding round_key key_expansion
round_key-block key h n l =
    record {
      long = round_key-length (expanded key 40) n (expanded-length key h.long 40) l;
      bytes = take-bytes 16 (drop (16 * n) (expanded key 40)) (drop-bytes (16 * n) (expanded key 40) (expanded-bytes key h.long h.bytes 40));
    }

-- ---- as the code computes it

pub word_is : (w : List ℕ) (i : ℕ) → 4 * i + 4 ≤ length w
    → word w i ≡ get_or w (4 * i) 0 ∷ get_or w (4 * i + 1) 0 ∷ get_or w (4 * i + 2) 0 ∷ get_or w (4 * i + 3) 0 ∷ []
unfolding word
word_is w i h = bytes-at w (4 * i) h

-- a word behind the front
word-behind : (a b : List ℕ) (i k : ℕ) → 4 * i ≡ length a + k → word (a ++ b) i ≡ take 4 (drop k b)
unfolding word
word-behind a b i k e = ap (λ (n : ℕ). take 4 (drop n (a ++ b))) e ∙ ap (take 4) (drop-append-add a b k)

-- the first word of a round key, and the others
temp-first : (i : ℕ) (w : List ℕ) → i % 4 ≡ 0 → temp i w ≡ sub_word (rot_word (word w (i - 1))) ⊕ rcon (i / 4)
unfolding temp
temp-first i w e = ap (λ (t : Bool). if t then sub_word (rot_word (word w (i - 1))) ⊕ rcon (i / 4) else word w (i - 1)) (eq-eqb (i % 4) 0 e)

temp_other : (i : ℕ) (w : List ℕ) → (i % 4 ≡ 0 → ⊥) → temp i w ≡ word w (i - 1)
unfolding temp
temp_other i w e = ap (λ (t : Bool). if t then sub_word (rot_word (word w (i - 1))) ⊕ rcon (i / 4) else word w (i - 1)) (ne_eqb (i % 4) 0 e)

-- one word more
word_more : (key w u v : List ℕ) (m k : ℕ) → k ≡ m + 1 → expanded key m ≡ w → word w m ≡ u → temp (m + 4) w ≡ v → expanded key k ≡ w ++ (u ⊕ v)
unfolding expanded
word_more key w u v m k ek e eu ev =
    ap (expanded key) (ek ∙ add-one m) ∙ ap (λ (x : List ℕ). x ++ (word x m ⊕ temp (m + 4) x)) e ∙ ap₂ (λ (x y : List ℕ). w ++ (x ⊕ y)) eu ev

-- four words more: round key n + 1 from round key n, whose words are a to d
module _ (key w : List ℕ) (n : ℕ) (so : expanded key (4 * n) ≡ w) (long : length w ≡ 16 * n + 16) (a b c d p q r s : ℕ)
    (last : drop (16 * n) w ≡ state_of a b c d) (ep : bytes_of p ≡ bytes_of a ⊕ (sub_word (rot_word (bytes_of d)) ⊕ rcon (n + 1)))
    (eq : bytes_of q ≡ bytes_of b ⊕ bytes_of p) (er : bytes_of r ≡ bytes_of c ⊕ bytes_of q) (es : bytes_of s ≡ bytes_of d ⊕ bytes_of r) where
  pick : (i k : ℕ) → 4 * i ≡ 16 * n + k → word w i ≡ take 4 (drop k (state_of a b c d))
  unfolding word
  pick i k e = ap (λ (j : ℕ). take 4 (drop j w)) e ∙ ap (take 4) (sym (drop-drop k (16 * n) w)) ∙ ap (λ (l : List ℕ). take 4 (drop k l)) last

  longer : (l : List ℕ) (x : ℕ) → length (l ++ bytes_of x) ≡ length l + 4
  unfolding bytes_of
  longer l x = length-append l (bytes_of x)

  one : expanded key (4 * n + 1) ≡ w ++ bytes_of p
  unfolding state_of bytes_of
  one =
      let e : (4 * n + 4) / 4 ≡ n + 1 = omega arith in
      word_more key w _ _ (4 * n) (4 * n + 1) refl so (pick (4 * n) 0 (omega arith))
      (temp-first (4 * n + 4) w (omega arith) ∙ ap₂ (λ (l : List ℕ) (j : ℕ). sub_word (rot_word l) ⊕ rcon j) (pick (4 * n + 4 - 1) 12 (omega arith)) e)
      ∙ ap (λ (l : List ℕ). w ++ l) (sym ep)

  two : expanded key (4 * n + 2) ≡ w ++ bytes_of p ++ bytes_of q
  unfolding state_of bytes_of
  two =
      word_more key (w ++ bytes_of p) _ _ (4 * n + 1) (4 * n + 2) (omega arith) one
      (word-front w (bytes_of p) (4 * n + 1) (omega arith) ∙ pick (4 * n + 1) 4 (omega arith))
      (temp_other (4 * n + 1 + 4) (w ++ bytes_of p) (λ e. omega arith) ∙ word-behind w (bytes_of p) (4 * n + 1 + 4 - 1) 0 (omega arith))
      ∙ ap (λ (l : List ℕ). w ++ bytes_of p ++ l) (sym eq)

  three : expanded key (4 * n + 3) ≡ w ++ bytes_of p ++ bytes_of q ++ bytes_of r
  unfolding state_of bytes_of
  three =
      let l = longer w p in
      word_more key (w ++ bytes_of p ++ bytes_of q) _ _ (4 * n + 2) (4 * n + 3) (omega arith) two
      (word-front (w ++ bytes_of p) (bytes_of q) (4 * n + 2) (omega arith) ∙ word-front w (bytes_of p) (4 * n + 2) (omega arith) ∙ pick (4 * n + 2) 8 (omega arith))
      (temp_other (4 * n + 2 + 4) (w ++ bytes_of p ++ bytes_of q) (λ e. omega arith) ∙ word-behind (w ++ bytes_of p) (bytes_of q) (4 * n + 2 + 4 - 1) 0 (omega arith))
      ∙ ap (λ (l : List ℕ). w ++ bytes_of p ++ bytes_of q ++ l) (sym er)

  four : expanded key (4 * n + 4) ≡ w ++ bytes_of p ++ bytes_of q ++ bytes_of r ++ bytes_of s
  unfolding state_of bytes_of
  four =
      let l = longer w p in
      let m = longer (w ++ bytes_of p) q in
      word_more key (w ++ bytes_of p ++ bytes_of q ++ bytes_of r) _ _ (4 * n + 3) (4 * n + 4) (omega arith) three
      (word-front (w ++ bytes_of p ++ bytes_of q) (bytes_of r) (4 * n + 3) (omega arith) ∙ word-front (w ++ bytes_of p) (bytes_of q) (4 * n + 3) (omega arith)
      ∙ word-front w (bytes_of p) (4 * n + 3) (omega arith) ∙ pick (4 * n + 3) 12 (omega arith))
      (temp_other (4 * n + 3 + 4) (w ++ bytes_of p ++ bytes_of q ++ bytes_of r) (λ e. omega arith)
      ∙ word-behind (w ++ bytes_of p ++ bytes_of q) (bytes_of r) (4 * n + 3 + 4 - 1) 0 (omega arith))
      ∙ ap (λ (l : List ℕ). w ++ bytes_of p ++ bytes_of q ++ bytes_of r ++ l) (sym es)

  round_more : expanded key (4 * (n + 1)) ≡ w ++ state_of p q r s
  unfolding state_of
  round_more =
      let e : 4 * (n + 1) ≡ 4 * n + 4 = omega arith in
      ap (expanded key) e ∙ four
      ∙ append_assoc (w ++ bytes_of p ++ bytes_of q) (bytes_of r) (bytes_of s)
      ∙ append_assoc (w ++ bytes_of p) (bytes_of q) (bytes_of r ++ bytes_of s)
      ∙ append_assoc w (bytes_of p) (bytes_of q ++ (bytes_of r ++ bytes_of s))
      ∙ ap (λ (l : List ℕ). w ++ l) (sym (append_assoc (bytes_of p) (bytes_of q) (bytes_of r ++ bytes_of s)) ∙ sym (append_assoc (bytes_of p ++ bytes_of q) (bytes_of r) (bytes_of s)))

-- round keys 0 to n stand in w, which has room for all eleven, and the last of them is k
pub record Written (key w : List ℕ) (n : ℕ) (k : Columns) : Type 0 where
  pub reach : n ≤ 10
  pub long : length w ≡ 176
  pub front : take (16 * n + 16) w ≡ expanded key (4 * n)
  pub last : drop (16 * n) (expanded key (4 * n)) ≡ state_of k.a k.b k.c k.d

state-length : (a b c d : ℕ) → length (state_of a b c d) ≡ 16
unfolding state_of bytes_of
state-length a b c d = refl

-- the schedule begins with the key
pub written_first : (w w' : List ℕ) (k : Columns) → length w ≡ 176
    → w' ≡ take (16 * 0) w ++ (state_of k.a k.b k.c k.d ++ drop (16 * 0 + 16) w)
    → Written (state_of k.a k.b k.c k.d) w' 0 k
unfolding expanded
written_first w w' k h p =
    let s = state_of k.a k.b k.c k.d in
    let l = state-length k.a k.b k.c k.d in
    record {
      reach = omega arith;
      long = ap length p ∙ placed-long w s 0 16 (omega arith) l ∙ h;
      front = ap (take 16) p ∙ take_at s (drop 16 w) 16 l;
      last = refl;
    }

-- a turn of the loop: x is the last word turned and through the S-box
module _ (k₀ : Columns) where
  abbrev key : List ℕ
  key = state_of k₀.a k₀.b k₀.c k₀.d

  pub written_next : (w w' : List ℕ) (n x : ℕ) (k r : Columns) → n < 10 → Written key w n k
      → bytes_of x ≡ sub_word (rot_word (bytes_of k.d))
      → bytes_of r.a ≡ bytes_of k.a ⊕ (bytes_of x ⊕ rcon (n + 1))
      → (bytes_of r.b ≡ bytes_of k.b ⊕ bytes_of r.a) × (bytes_of r.c ≡ bytes_of k.c ⊕ bytes_of r.b) × (bytes_of r.d ≡ bytes_of k.d ⊕ bytes_of r.c)
      → w' ≡ take (16 * (n + 1)) w ++ (state_of r.a r.b r.c r.d ++ drop (16 * (n + 1) + 16) w) → Written key w' (n + 1) r
  written_next w w' n x k r l W ex ea (eb, ec, ed) e =
      let v = expanded key (4 * n) in
      let s = state_of r.a r.b r.c r.d in
      let ls = state-length r.a r.b r.c r.d in
      let lw : length w ≡ 176 = W.long in
      let lv : length v ≡ 16 * n + 16 = expanded-length key (state-length k₀.a k₀.b k₀.c k₀.d) (4 * n) ∙ omega arith in
      let more : expanded key (4 * (n + 1)) ≡ v ++ s =
      round_more key v n refl lv k.a k.b k.c k.d r.a r.b r.c r.d W.last (ea ∙ ap (λ (y : List ℕ). bytes_of k.a ⊕ (y ⊕ rcon (n + 1))) ex) eb ec ed
      in
      let f : 16 * (n + 1) ≡ 16 * n + 16 = omega arith in
      let g : take (16 * (n + 1)) w ≡ v = ap (λ (i : ℕ). take i w) f ∙ W.front in
      let z : length (v ++ s) ≡ 16 * (n + 1) + 16 = length-append v s ∙ ap (λ (i : ℕ). length v + i) ls ∙ omega arith in
      record {
        reach = omega arith;
        long = ap length e ∙ placed-long w s (16 * (n + 1)) 16 (omega arith) ls ∙ lw;
        front = ap (take (16 * (n + 1) + 16)) (e ∙ sym (append_assoc (take (16 * (n + 1)) w) s _) ∙ ap (λ (l : List ℕ). l ++ s ++ drop (16 * (n + 1) + 16) w) g)
            ∙ take_at (v ++ s) (drop (16 * (n + 1) + 16) w) (16 * (n + 1) + 16) z ∙ sym more;
        last = ap (drop (16 * (n + 1))) more ∙ drop_at v s (16 * (n + 1)) (omega arith);
      }

  pub written_all : (l w : List ℕ) (n : ℕ) (k : Columns) → key ≡ l → 10 ≤ n → Written key w n k → w ≡ key_expansion l
  unfolding key_expansion
  written_all l w n k so h W =
      let r : n ≤ 10 = W.reach in
      let lw : length w ≡ 176 = W.long in
      let e : n ≡ 10 = omega arith in
      sym (take_all (16 * n + 16) w (omega arith)) ∙ W.front ∙ ap₂ (λ (v : List ℕ) (i : ℕ). expanded v (4 * i)) so e

-- a round key is four words
pub round_key-words : (w : List ℕ) (n : ℕ) → round_key w n ≡ word w (4 * n) ++ word w (4 * n + 1) ++ word w (4 * n + 2) ++ word w (4 * n + 3)
unfolding round_key word
round_key-words w n =
    let e0 : 16 * n ≡ 4 * (4 * n) = omega arith in
    let e1 : 16 * n + 4 ≡ 4 * (4 * n + 1) = omega arith in
    let e2 : 16 * n + 8 ≡ 4 * (4 * n + 2) = omega arith in
    let e3 : 16 * n + 12 ≡ 4 * (4 * n + 3) = omega arith in
    words-at w (16 * n)
    ∙ (λ i. take 4 (drop (e0 i) w) ++ take 4 (drop (e1 i) w) ++ take 4 (drop (e2 i) w) ++ take 4 (drop (e3 i) w))
