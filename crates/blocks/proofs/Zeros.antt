-- Blocks of zeros: a block is zero where the OR of its bytes is, and the first n blocks are where each of them is.
use Rattle.std.specs.Prelude.{◌≡◌, ◌&&◌, ◌⊎◌, ◌+◌, ◌≤◌, ◌<◌}
use Rattle.fips197.proofs.Kit.{refl, sym, ap, ap₂, ◌∙◌, Bool, true, false, true≢false, List, inl, inr, ℕ, zero, suc, le_of_suc-le-suc, eq-or-lt_of_le, arith, add-one, eqb, length, get_or, drop, length-replicate, get_or-replicate, and-true, bit_or, and_le_r, ne_eqb}
use lib.Bits.{or_zero_l, or_add_and}
use Rattle.blocks.specs.Block.{zeros, slot, same, all_zero}
use Rattle.blocks.proofs.Xor.{same_true, same_drop, same_end}

-- ---- one block

or-none : (a b : ℕ) → eqb (bit_or a b) 0 ≡ (eqb a 0 && eqb b 0)
or-none zero b = ap (λ (x : ℕ). eqb x 0) (or_zero_l b)
or-none (suc a) b =
    ne_eqb (bit_or (suc a) b) 0 (λ e. omega (arith, or_add_and (suc a) b, and_le_r (suc a) b))
    ∙ ap (λ (t : Bool). t && eqb b 0) (sym (ne_eqb (suc a) 0 (λ e. omega arith)))

and_assoc : (a b c : Bool) → (a && (b && c)) ≡ ((a && b) && c)
and_assoc true b c = refl
and_assoc false b c = refl

-- the OR of the bytes passed and the bytes left to look at decide
pub zero_more : (s : List ℕ) (n i any byte : ℕ) → i < length s → i < n → byte ≡ get_or s i 0
    → (eqb any 0 && same (drop i s) (drop i (zeros n))) ≡ (eqb (bit_or any byte) 0 && same (drop (i + 1) s) (drop (i + 1) (zeros n)))
zero_more s n i any byte h k e =
    let rest = same (drop (i + 1) s) (drop (i + 1) (zeros n)) in
    ap (λ (t : Bool). eqb any 0 && t)
    (same_drop s (zeros n) i h (omega (arith, length-replicate {A = ℕ} n 0))
    ∙ ap₂ (λ (x y : ℕ). eqb x y && rest) (sym e) (get_or-replicate n i 0 0 k))
    ∙ and_assoc (eqb any 0) (eqb byte 0) rest ∙ ap (λ (t : Bool). t && rest) (sym (or-none any byte))

pub zero_end : (s : List ℕ) (n i any : ℕ) → length s ≤ i → n ≤ i → (eqb any 0 && same (drop i s) (drop i (zeros n))) ≡ eqb any 0
zero_end s n i any h k =
    ap (λ (t : Bool). eqb any 0 && t) (same_end s (zeros n) i h (omega (arith, length-replicate {A = ℕ} n 0))) ∙ and-true (eqb any 0)

-- ---- blocks one after another

pub zeros-next : (s : List ℕ) (k : ℕ) → all_zero s k ≡ true → same (slot s k) (zeros 16) ≡ true → all_zero s (k + 1) ≡ true
unfolding all_zero
zeros-next s k p q = ap (all_zero s) (add-one k) ∙ ap₂ ◌&&◌ p q

-- a block that is not zero
pub zeros_stop : (s : List ℕ) (n k : ℕ) → k < n → same (slot s k) (zeros 16) ≡ false → all_zero s n ≡ false
unfolding all_zero
zeros_stop s zero k h e = absurd (omega arith)
zeros_stop s (suc n) k h e = go (eq-or-lt_of_le (le_of_suc-le-suc h)) (zeros_stop s n k)
  where
    and_no : (t : Bool) → (t && false) ≡ false
    and_no true = refl
    and_no false = refl

    go : (k ≡ n) ⊎ (k < n) → (k < n → same (slot s k) (zeros 16) ≡ false → all_zero s n ≡ false) → (all_zero s n && same (slot s n) (zeros 16)) ≡ false
    go (inl q) rest = ap (λ (m : ℕ). all_zero s n && same (slot s m) (zeros 16)) (sym q) ∙ ap (λ (t : Bool). all_zero s n && t) e ∙ and_no (all_zero s n)
    go (inr b) rest = ap (λ (t : Bool). t && same (slot s n) (zeros 16)) (rest b e)

-- where the first n blocks are zero, each is
pub zero_slot : (s : List ℕ) (n : ℕ) → all_zero s n ≡ true → (k : ℕ) → k < n → slot s k ≡ zeros 16
zero_slot s n h k l = go (same (slot s k) (zeros 16)) refl
  where
    go : (t : Bool) → same (slot s k) (zeros 16) ≡ t → slot s k ≡ zeros 16
    go true e = same_true (slot s k) (zeros 16) e
    go false e = absurd (true≢false (sym h ∙ zeros_stop s n k l e))
