-- Big-endian numbers and their bytes: each gives the other back; lengths and byte ranges; XOR byte by byte.
use Rattle.std.specs.Prelude.{◌≡◌, ◌∷◌, ◌++◌, ◌+◌, ◌*◌, ◌/◌, ◌%◌, ◌^◌, ◌≤◌, ◌<◌}
use Rattle.fips197.proofs.Kit.{refl, sym, ap, ap₂, ◌∙◌, subst, List, [], ℕ, zero, suc, mod-lt, zero-lt-suc, pow-suc, mul_assoc, mul_comm, div-lt_iff_lt-mul, div-div-eq-div-mul, add-one, arith, length, get_or, take, length-append, List·getD-append, get_or-append-add, take-suc, take_all, bit_xor, xor_shr, xor_mod}
use Rattle.std.specs.Int.{bytes_high_first, byte_at as std_byte}
use Rattle.blocks.specs.Block.{Bytes, ◌⊕◌, zeros}
use Rattle.blocks.specs.Number.{number_of, number, big_endian}
use Rattle.blocks.proofs.Xor.{append-bytes, byte_at}

pub big_endian-length : (k n : ℕ) → length (big_endian k n) ≡ k
unfolding big_endian
big_endian-length zero n = refl
big_endian-length (suc k) n =
    length-append (big_endian k (n / 256)) (n % 256 ∷ []) ∙ ap (λ (j : ℕ). j + 1) (big_endian-length k (n / 256)) ∙ add-one k

pub big_endian-bytes : (k n : ℕ) → Bytes (big_endian k n)
unfolding big_endian
big_endian-bytes zero n = tt
big_endian-bytes (suc k) n = append-bytes (big_endian k (n / 256)) (n % 256 ∷ []) (big_endian-bytes k (n / 256)) (mod-lt n (zero-lt-suc 255), tt)

-- k bytes are a number below 256 to the k
below_front : (s : List ℕ) → Bytes s → (k : ℕ) → number_of s k < 256 ^ k
unfolding number_of
below_front s h zero = omega arith
below_front s h (suc k) =
    let b : get_or s k 0 < 256 = byte_at s h k in
    let r = below_front s h k in
    subst (λ (m : ℕ). number_of s k * 256 + get_or s k 0 < m) (sym (pow-suc 256 k)) (omega arith)

pub number_below : (s : List ℕ) → Bytes s → (k : ℕ) → length s ≡ k → number s < 256 ^ k
unfolding number
number_below s h k e = subst (λ (m : ℕ). number s < 256 ^ m) e (below_front s h (length s))

-- what comes behind the first k bytes does not count
number_of-front : (a b : List ℕ) (k : ℕ) → k ≤ length a → number_of (a ++ b) k ≡ number_of a k
unfolding number_of
number_of-front a b zero h = refl
number_of-front a b (suc k) h =
    ap₂ (λ (x y : ℕ). x * 256 + y) (number_of-front a b k (omega arith)) (List·getD-append a b 0 k (omega arith))

-- one byte more
number_snoc : (s : List ℕ) (k x : ℕ) → length s ≡ k → number_of (s ++ (x ∷ [])) (suc k) ≡ number s * 256 + x
unfolding number_of number
number_snoc s k x h =
    ap₂ (λ (m j : ℕ). m * 256 + get_or (s ++ (x ∷ [])) j 0) (number_of-front s (x ∷ []) k (omega arith)) (sym h ∙ sym (add-zero (length s)))
    ∙ ap₂ (λ (j y : ℕ). number_of s j * 256 + y) (sym h) (get_or-append-add s (x ∷ []) 0 0)
  where
    add-zero : (n : ℕ) → n + 0 ≡ n
    add-zero n = omega arith

pub number-big_endian : (k n : ℕ) → n < 256 ^ k → number (big_endian k n) ≡ n
unfolding number number_of big_endian
number-big_endian zero n h = omega arith
number-big_endian (suc k) n h =
    let l : length (big_endian k (n / 256)) ≡ k = big_endian-length k (n / 256) in
    let b : n < 256 ^ k * 256 = subst (λ (m : ℕ). n < m) (pow-suc 256 k) h in
    let q : n / 256 < 256 ^ k = (div-lt_iff_lt-mul (zero-lt-suc 255)).1 b in
    ap (number_of (big_endian (suc k) n)) (big_endian-length (suc k) n)
    ∙ number_snoc (big_endian k (n / 256)) k (n % 256) l
    ∙ ap (λ (m : ℕ). m * 256 + n % 256) (number-big_endian k (n / 256) q)
    ∙ omega arith

-- the bytes of the number that the first k bytes are
big_endian-front : (s : List ℕ) → Bytes s → (k : ℕ) → k ≤ length s → big_endian k (number_of s k) ≡ take k s
unfolding big_endian number_of
big_endian-front s h zero l = refl
big_endian-front s h (suc k) l =
    let b : get_or s k 0 < 256 = byte_at s h k in
    let q : (number_of s k * 256 + get_or s k 0) / 256 ≡ number_of s k = omega arith in
    let r : (number_of s k * 256 + get_or s k 0) % 256 ≡ get_or s k 0 = omega arith in
    ap₂ (λ (m x : ℕ). big_endian k m ++ (x ∷ [])) q r
    ∙ ap (λ (t : List ℕ). t ++ (get_or s k 0 ∷ [])) (big_endian-front s h k (omega arith))
    ∙ sym (take-suc s k 0 (omega arith))

pub big_endian-number : (s : List ℕ) → Bytes s → big_endian (length s) (number s) ≡ s
unfolding number
big_endian-number s h = big_endian-front s h (length s) (omega arith) ∙ take_all (length s) s (omega arith)

-- a multiple of 256 to the k does not show in k bytes
pub big_endian-over : (k a n : ℕ) → big_endian k (256 ^ k * a + n) ≡ big_endian k n
unfolding big_endian
big_endian-over zero a n = refl
big_endian-over (suc k) a n =
    let p = 256 ^ k * a in
    let e : 256 ^ suc k * a + n ≡ p * 256 + n = ap (λ (m : ℕ). m * a + n) (pow-suc 256 k) ∙ ap (λ (m : ℕ). m + n) (turn (256 ^ k) a) in
    let q : (p * 256 + n) / 256 ≡ p + n / 256 = omega arith in
    let r : (p * 256 + n) % 256 ≡ n % 256 = omega arith in
    ap₂ (λ (m x : ℕ). big_endian k m ++ (x ∷ [])) (ap (λ (m : ℕ). m / 256) e ∙ q) (ap (λ (m : ℕ). m % 256) e ∙ r)
    ∙ ap (λ (t : List ℕ). t ++ (n % 256 ∷ [])) (big_endian-over k a (n / 256))
  where
    turn : (x y : ℕ) → x * 256 * y ≡ x * y * 256
    turn x y = mul_assoc x 256 y ∙ ap (λ (m : ℕ). x * m) (mul_comm 256 y) ∙ sym (mul_assoc x y 256)

pub big_endian_zero : (k : ℕ) → big_endian k 0 ≡ zeros k
unfolding big_endian
big_endian_zero zero = refl
big_endian_zero (suc k) = ap (λ (t : List ℕ). t ++ (0 ∷ [])) (big_endian_zero k) ∙ more k
  where
    more : (k : ℕ) → zeros k ++ (0 ∷ []) ≡ zeros (suc k)
    more zero = refl
    more (suc k) = ap (λ (t : List ℕ). 0 ∷ t) (more k)

-- XOR of two lists with one more each
⊕_snoc : (a b : List ℕ) (x y : ℕ) → length a ≡ length b → (a ++ (x ∷ [])) ⊕ (b ++ (y ∷ [])) ≡ (a ⊕ b) ++ (bit_xor x y ∷ [])
unfolding ◌⊕◌
⊕_snoc [] [] x y h = refl
⊕_snoc [] (v ∷ b) x y h = absurd (omega arith)
⊕_snoc (u ∷ a) [] x y h = absurd (omega arith)
⊕_snoc (u ∷ a) (v ∷ b) x y h = ap (λ (t : List ℕ). bit_xor u v ∷ t) (⊕_snoc a b x y (omega arith))

pub big_endian-xor : (k a b : ℕ) → big_endian k (bit_xor a b) ≡ big_endian k a ⊕ big_endian k b
unfolding big_endian ◌⊕◌
big_endian-xor zero a b = refl
big_endian-xor (suc k) a b =
    ap₂ (λ (m x : ℕ). big_endian k m ++ (x ∷ [])) (xor_shr a b 8) (xor_mod a b 8)
    ∙ ap (λ (t : List ℕ). t ++ (bit_xor (a % 256) (b % 256) ∷ [])) (big_endian-xor k (a / 256) (b / 256))
    ∙ sym (⊕_snoc (big_endian k (a / 256)) (big_endian k (b / 256)) (a % 256) (b % 256) (big_endian-length k (a / 256) ∙ sym (big_endian-length k (b / 256))))

-- four bytes and four behind them
pair_below : (a r : ℕ) → r < 4294967296 → big_endian 8 (a * 4294967296 + r) ≡ big_endian 4 a ++ big_endian 4 r
unfolding big_endian
pair_below a r h =
    let n = a * 4294967296 + r in
    let q1 : n / 256 ≡ a * 16777216 + r / 256 = omega arith in
    let q2 : n / 256 / 256 ≡ a * 65536 + r / 256 / 256 = ap (λ (m : ℕ). m / 256) q1 ∙ omega arith in
    let q3 : n / 256 / 256 / 256 ≡ a * 256 + r / 256 / 256 / 256 = ap (λ (m : ℕ). m / 256) q2 ∙ omega arith in
    let l1 : r / 256 < 16777216 = omega arith in
    let l2 : r / 256 / 256 < 65536 = omega arith in
    let l3 : r / 256 / 256 / 256 < 256 = omega arith in
    let q4 : n / 256 / 256 / 256 / 256 ≡ a = ap (λ (m : ℕ). m / 256) q3 ∙ omega arith in
    let e1 : n % 256 ≡ r % 256 = omega arith in
    let e2 : n / 256 % 256 ≡ r / 256 % 256 = ap (λ (m : ℕ). m % 256) q1 ∙ omega arith in
    let e3 : n / 256 / 256 % 256 ≡ r / 256 / 256 % 256 = ap (λ (m : ℕ). m % 256) q2 ∙ omega arith in
    let e4 : n / 256 / 256 / 256 % 256 ≡ r / 256 / 256 / 256 % 256 = ap (λ (m : ℕ). m % 256) q3 ∙ omega arith in
    (λ i. q4 i / 256 / 256 / 256 % 256 ∷ q4 i / 256 / 256 % 256 ∷ q4 i / 256 % 256 ∷ q4 i % 256 ∷ e4 i ∷ e3 i ∷ e2 i ∷ e1 i ∷ [])

pub big_endian_pair : (a b : ℕ) → big_endian 8 (a * 4294967296 + b % 4294967296) ≡ big_endian 4 a ++ big_endian 4 b
big_endian_pair a b =
    let e : b ≡ 4294967296 * (b / 4294967296) + b % 4294967296 = omega arith in
    pair_below a (b % 4294967296) (omega arith)
    ∙ ap (λ (t : List ℕ). big_endian 4 a ++ t) (sym (ap (big_endian 4) e ∙ big_endian-over 4 (b / 4294967296) (b % 4294967296)))

-- ---- the library's bytes of a number

byte_up : (k n : ℕ) → std_byte k (n / 256) ≡ std_byte (suc k) n
byte_up zero n = refl
byte_up (suc k) n =
    ap (λ (m : ℕ). m % 256)
    (div-div-eq-div-mul n 256 (256 ^ suc k) ∙ ap (λ (m : ℕ). n / m) (mul_comm 256 (256 ^ suc k) ∙ sym (pow-suc 256 (suc k))))

big_endian-top : (k n : ℕ) → big_endian (suc k) n ≡ std_byte k n ∷ big_endian k n
unfolding big_endian
big_endian-top zero n = refl
big_endian-top (suc k) n =
    ap (λ (t : List ℕ). t ++ (n % 256 ∷ [])) (big_endian-top k (n / 256)) ∙ ap (λ (b : ℕ). b ∷ big_endian (suc k) n) (byte_up k n)

pub high_first : (k n : ℕ) → bytes_high_first k n ≡ big_endian k n
unfolding big_endian
high_first zero n = refl
high_first (suc k) n = ap (λ (t : List ℕ). std_byte k n ∷ t) (high_first k n) ∙ sym (big_endian-top k n)
