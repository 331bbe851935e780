-- The laws of XOR and of bytes (fips197's Xor), passed on for the crates above; and equality of lists, as `same` decides it.
use Rattle.std.specs.Prelude.{◌≡◌, ◌&&◌, ◌∷◌, ◌+◌, ◌≤◌, ◌<◌}
use Rattle.fips197.proofs.Kit.{refl, sym, ap, ap₂, ◌∙◌, Bool, true, false, List, [], ℕ, arith, add-one, eqb, length, get_or, drop, drop_of_length-le, drop-cons, eqb-true, eq-eqb}
use Rattle.std.specs.Prelude.{nat_eq}
use Rattle.std.specs.Cmp.Lexicographic.{pointwise}
use Rattle.blocks.specs.Block.{◌⊕◌, zeros, same}
pub use Rattle.fips197.proofs.Xor.{⊕_comm, ⊕_assoc, ⊕-length, ⊕_cancel, ⊕_self, ⊕-zeros, ⊕-at, ⊕-bytes, ⊕-block, block_cancel}
pub use Rattle.fips197.proofs.Xor.{byte_at, bytes_from, append-bytes, take-bytes, drop-bytes, zeros-bytes, zeros-block}

both : (a b : Bool) → (a && b) ≡ true → (a ≡ true) × (b ≡ true)
both true b h = (refl, h)
both false b h = (h, absurd (differ_bool h))
  where
    differ_bool : false ≡ true → ⊥
    differ_bool p = let z : ◌≡◌ {A = ℕ} 0 1 = cc in omega arith

-- `same` says yes exactly when the lists are equal
pub same_true : (a b : List ℕ) → same a b ≡ true → a ≡ b
unfolding same
same_true [] [] h = refl
same_true [] (y ∷ ys) h = absurd (let z : ◌≡◌ {A = ℕ} 0 1 = cc in omega arith)
same_true (x ∷ xs) [] h = absurd (let z : ◌≡◌ {A = ℕ} 0 1 = cc in omega arith)
same_true (x ∷ xs) (y ∷ ys) h =
    ap₂ ◌∷◌ (eqb-true x y (both (eqb x y) (same xs ys) h).0) (same_true xs ys (both (eqb x y) (same xs ys) h).1)

pub same_refl : (a : List ℕ) → same a a ≡ true
unfolding same
same_refl [] = refl
same_refl (x ∷ xs) = ap₂ ◌&&◌ (eq-eqb x x refl) (same_refl xs)

pub same_eq : (a b : List ℕ) → a ≡ b → same a b ≡ true
same_eq a b e = ap (same a) (sym e) ∙ same_refl a

-- as the library compares them
pub pointwise-same : (a b : List ℕ) → pointwise nat_eq a b ≡ same a b
unfolding same
pointwise-same [] [] = refl
pointwise-same [] (y ∷ ys) = refl
pointwise-same (x ∷ xs) [] = refl
pointwise-same (x ∷ xs) (y ∷ ys) = ap (λ (t : Bool). nat_eq x y && t) (pointwise-same xs ys)

-- lists from their first i elements on, which were equal, compare as their next elements and the rest do
pub same_drop : (a b : List ℕ) (i : ℕ) → i < length a → i < length b
    → same (drop i a) (drop i b) ≡ (eqb (get_or a i 0) (get_or b i 0) && same (drop (i + 1) a) (drop (i + 1) b))
unfolding same
same_drop a b i h k =
    ap₂ same (drop-cons a i 0 h) (drop-cons b i 0 k)
    ∙ ap (λ (j : ℕ). eqb (get_or a i 0) (get_or b i 0) && same (drop j a) (drop j b)) (sym (add-one i))

pub same_end : (a b : List ℕ) (i : ℕ) → length a ≤ i → length b ≤ i → same (drop i a) (drop i b) ≡ true
unfolding same
same_end a b i h k = ap₂ same (drop_of_length-le a h) (drop_of_length-le b k)

-- lists of one length are equal exactly when their XOR is zero
pub same-xor : (a b : List ℕ) (n : ℕ) → length a ≡ n → length b ≡ n → same a b ≡ same (a ⊕ b) (zeros n)
same-xor a b n p q = go (same a b) refl (same (a ⊕ b) (zeros n)) refl
  where
    zero_if : same a b ≡ true → same (a ⊕ b) (zeros n) ≡ true
    zero_if h = same_eq (a ⊕ b) (zeros n) (ap (λ (z : List ℕ). a ⊕ z) (sym (same_true a b h)) ∙ ⊕_self a ∙ ap zeros p)

    only_if : same (a ⊕ b) (zeros n) ≡ true → same a b ≡ true
    only_if h =
        same_eq a b
        (sym (⊕_cancel a b (omega arith)) ∙ ap (λ (z : List ℕ). z ⊕ b) (same_true (a ⊕ b) (zeros n) h) ∙ ⊕_comm (zeros n) b
        ∙ ⊕-zeros b n (omega arith))

    go : (s : Bool) → same a b ≡ s → (t : Bool) → same (a ⊕ b) (zeros n) ≡ t → s ≡ t
    go true e t f = sym (zero_if e) ∙ f
    go false e true f = sym e ∙ only_if f
    go false e false f = refl
