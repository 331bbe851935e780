-- The laws of XOR, on numbers and on lists, that the kit lacks: associative, commutative, its own inverse; lengths and byte ranges.
use Rattle.std.specs.Prelude.{◌≡◌, ◌∷◌, ◌++◌, ◌+◌, ◌*◌, ◌/◌, ◌%◌, ◌≤◌, ◌<◌}
use Rattle.fips197.proofs.Kit.{refl, sym, ap, ap₂, ◌∙◌, List, [], map, ℕ, zero, suc, mod-lt, zero-lt-suc, not-suc-le-zero, le_of_suc-le-suc, arith, bin_ind, digits_mod, length, get_or, take, drop, bit_xor, differ, xor_step, xor_shr, xor_comm, xor_self, xor_zero_r, xor_lt}
use Rattle.fips197.specs.Block.{Bytes, Block, ◌⊕◌, zeros}

-- ---- on numbers

-- two bits differ or not
differ_lt : (x y : ℕ) → x < 2 → y < 2 → differ x y < 2
differ_lt zero y hx hy = hy
differ_lt (suc zero) zero hx hy = hx
differ_lt (suc zero) (suc zero) hx hy = omega arith
differ_lt (suc zero) (suc (suc y)) hx hy = omega arith
differ_lt (suc (suc x)) zero hx hy = omega arith
differ_lt (suc (suc x)) (suc y) hx hy = omega arith

differ_assoc : (x y z : ℕ) → x < 2 → y < 2 → z < 2 → differ (differ x y) z ≡ differ x (differ y z)
differ_assoc zero y z hx hy hz = refl
differ_assoc (suc zero) zero z hx hy hz = refl
differ_assoc (suc zero) (suc zero) zero hx hy hz = refl
differ_assoc (suc zero) (suc zero) (suc zero) hx hy hz = refl
differ_assoc (suc zero) (suc zero) (suc (suc z)) hx hy hz = absurd (omega arith)
differ_assoc (suc zero) (suc (suc y)) z hx hy hz = absurd (omega arith)
differ_assoc (suc (suc x)) y z hx hy hz = absurd (omega arith)

pub mod2_lt : (n : ℕ) → n % 2 < 2
mod2_lt n = mod-lt n (zero-lt-suc 1)

xor_odd : (a b : ℕ) → bit_xor a b % 2 ≡ differ (a % 2) (b % 2)
xor_odd a b =
    ap (λ (x : ℕ). x % 2) (xor_step a b)
    ∙ digits_mod (bit_xor (a / 2) (b / 2)) (differ_lt (a % 2) (b % 2) (mod2_lt a) (mod2_lt b))

pub xor_assoc : (a b c : ℕ) → bit_xor (bit_xor a b) c ≡ bit_xor a (bit_xor b c)
xor_assoc a =
    bin_ind (λ (n : ℕ). (b c : ℕ) → bit_xor (bit_xor n b) c ≡ bit_xor n (bit_xor b c)) (λ b c. refl)
    (λ n ih b c. xor_step (bit_xor n b) c
    ∙ ap₂ (λ (x y : ℕ). bit_xor x (c / 2) * 2 + differ y (c % 2)) (xor_shr n b 1) (xor_odd n b)
    ∙ ap₂ (λ (x y : ℕ). x * 2 + y) (ih (b / 2) (c / 2)) (differ_assoc (n % 2) (b % 2) (c % 2) (mod2_lt n) (mod2_lt b) (mod2_lt c))
    ∙ ap₂ (λ (x y : ℕ). bit_xor (n / 2) x * 2 + differ (n % 2) y) (sym (xor_shr b c 1)) (sym (xor_odd b c))
    ∙ sym (xor_step n (bit_xor b c))) a

pub xor_cancel : (a b : ℕ) → bit_xor (bit_xor a b) b ≡ a
xor_cancel a b = xor_assoc a b b ∙ ap (bit_xor a) (xor_self b) ∙ xor_zero_r a

-- with associativity and commutativity, these two make `simp` decide equations of sums
pub xor-left : (a b c : ℕ) → bit_xor a (bit_xor b c) ≡ bit_xor b (bit_xor a c)
xor-left a b c = sym (xor_assoc a b c) ∙ ap (λ (x : ℕ). bit_xor x c) (xor_comm a b) ∙ xor_assoc b a c

pub xor_twice : (a b : ℕ) → bit_xor a (bit_xor a b) ≡ b
xor_twice a b = sym (xor_assoc a a b) ∙ ap (λ (x : ℕ). bit_xor x b) (xor_self a)

pub ruleset sums = (xor_assoc, xor_comm, xor-left, xor_twice, xor_self, xor_zero_r)

-- ---- on lists

pub ⊕_comm : (a b : List ℕ) → a ⊕ b ≡ b ⊕ a
unfolding ◌⊕◌
⊕_comm [] [] = refl
⊕_comm [] (y ∷ ys) = refl
⊕_comm (x ∷ xs) [] = refl
⊕_comm (x ∷ xs) (y ∷ ys) = ap₂ ◌∷◌ (xor_comm x y) (⊕_comm xs ys)

pub ⊕_assoc : (a b c : List ℕ) → (a ⊕ b) ⊕ c ≡ a ⊕ (b ⊕ c)
unfolding ◌⊕◌
⊕_assoc [] b c = refl
⊕_assoc (x ∷ xs) [] c = refl
⊕_assoc (x ∷ xs) (y ∷ ys) [] = refl
⊕_assoc (x ∷ xs) (y ∷ ys) (z ∷ zs) = ap₂ ◌∷◌ (xor_assoc x y z) (⊕_assoc xs ys zs)

pub ⊕-length : (a b : List ℕ) → length a ≤ length b → length (a ⊕ b) ≡ length a
unfolding ◌⊕◌
⊕-length [] b h = refl
⊕-length (x ∷ xs) [] h = absurd (not-suc-le-zero h)
⊕-length (x ∷ xs) (y ∷ ys) h = ap suc (⊕-length xs ys (le_of_suc-le-suc h))

pub ⊕_cancel : (a b : List ℕ) → length a ≤ length b → (a ⊕ b) ⊕ b ≡ a
unfolding ◌⊕◌
⊕_cancel [] b h = refl
⊕_cancel (x ∷ xs) [] h = absurd (not-suc-le-zero h)
⊕_cancel (x ∷ xs) (y ∷ ys) h = ap₂ ◌∷◌ (xor_cancel x y) (⊕_cancel xs ys (le_of_suc-le-suc h))

pub ⊕_self : (a : List ℕ) → a ⊕ a ≡ zeros (length a)
unfolding ◌⊕◌
⊕_self [] = refl
⊕_self (x ∷ xs) = ap₂ ◌∷◌ (xor_self x) (⊕_self xs)

pub ⊕-zeros : (a : List ℕ) (n : ℕ) → length a ≤ n → a ⊕ zeros n ≡ a
unfolding ◌⊕◌
⊕-zeros [] n h = refl
⊕-zeros (x ∷ xs) zero h = absurd (not-suc-le-zero h)
⊕-zeros (x ∷ xs) (suc n) h = ap₂ ◌∷◌ (xor_zero_r x) (⊕-zeros xs n (le_of_suc-le-suc h))

pub ⊕-at : (a b : List ℕ) (k : ℕ) → k < length a → k < length b → get_or (a ⊕ b) k 0 ≡ bit_xor (get_or a k 0) (get_or b k 0)
unfolding ◌⊕◌
⊕-at [] b k h l = absurd (not-suc-le-zero h)
⊕-at (x ∷ xs) [] k h l = absurd (not-suc-le-zero l)
⊕-at (x ∷ xs) (y ∷ ys) zero h l = refl
⊕-at (x ∷ xs) (y ∷ ys) (suc k) h l = ⊕-at xs ys k (le_of_suc-le-suc h) (le_of_suc-le-suc l)

-- ---- bytes

pub byte_at : (s : List ℕ) → Bytes s → (i : ℕ) → get_or s i 0 < 256
byte_at [] h i = zero-lt-suc 255
byte_at (x ∷ xs) h zero = h.0
byte_at (x ∷ xs) h (suc i) = byte_at xs h.1 i

pub bytes_from : (s : List ℕ) → ((i : ℕ) → i < length s → get_or s i 0 < 256) → Bytes s
bytes_from [] h = tt
bytes_from (x ∷ xs) h = (h 0 (omega arith), bytes_from xs (λ i l. h (suc i) (omega arith)))

pub ⊕-bytes : (a b : List ℕ) → Bytes a → Bytes b → Bytes (a ⊕ b)
unfolding ◌⊕◌
⊕-bytes [] b h k = tt
⊕-bytes (x ∷ xs) [] h k = tt
⊕-bytes (x ∷ xs) (y ∷ ys) h k = (xor_lt 8 x y h.0 k.0, ⊕-bytes xs ys h.1 k.1)

pub append-bytes : (a b : List ℕ) → Bytes a → Bytes b → Bytes (a ++ b)
append-bytes [] b h k = k
append-bytes (x ∷ xs) b h k = (h.0, append-bytes xs b h.1 k)

pub take-bytes : (n : ℕ) (a : List ℕ) → Bytes a → Bytes (take n a)
take-bytes zero a h = tt
take-bytes (suc n) [] h = tt
take-bytes (suc n) (x ∷ xs) h = (h.0, take-bytes n xs h.1)

pub drop-bytes : (n : ℕ) (a : List ℕ) → Bytes a → Bytes (drop n a)
drop-bytes zero a h = h
drop-bytes (suc n) [] h = tt
drop-bytes (suc n) (x ∷ xs) h = drop-bytes n xs h.1

pub zeros-bytes : (n : ℕ) → Bytes (zeros n)
zeros-bytes zero = tt
zeros-bytes (suc n) = (zero-lt-suc 255, zeros-bytes n)

pub map-bytes : (f : ℕ → ℕ) → ((x : ℕ) → x < 256 → f x < 256) → (s : List ℕ) → Bytes s → Bytes (map f s)
map-bytes f hf [] h = tt
map-bytes f hf (x ∷ xs) h = (hf x h.0, map-bytes f hf xs h.1)

-- ---- blocks

pub ⊕-block : (a b : List ℕ) → Block a → Block b → Block (a ⊕ b)
⊕-block a b h k = record { long = ⊕-length a b (omega arith) ∙ h.long; bytes = ⊕-bytes a b h.bytes k.bytes }

pub block_cancel : (a b : List ℕ) → Block a → Block b → (a ⊕ b) ⊕ b ≡ a
block_cancel a b h k = ⊕_cancel a b (omega arith)

pub zeros-block : Block (zeros 16)
zeros-block = record { long = refl; bytes = zeros-bytes 16 }
