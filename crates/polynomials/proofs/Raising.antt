-- The laws of `raised`, and of a loop that adds a raised polynomial from its lowest term on.
use Rattle.std.specs.Prelude.{◌≡◌, ◌∷◌, ◌++◌, ◌+◌, ◌-◌, ◌≤◌, ◌<◌}
use Rattle.fips197.proofs.Kit.{refl, sym, ap, ap₂, ◌∙◌, List, [], ℕ, zero, suc, arith, bit_xor, length, get_or, set, take, drop, length-append, length-take, length-replicate, take-append-drop, take-length, take-take, take_at, get_or-take, get_or-append-add}
use Rattle.blocks.specs.Block.{◌⊕◌, zeros}
use Rattle.blocks.proofs.Xor.{⊕-at, ⊕-length, ⊕-zeros}
use Rattle.blocks.proofs.Loop.{part, part_turn, part_read, part_done}
use Rattle.polynomials.specs.Polynomial.{raised}

pub raised-length : (k : ℕ) (q : List ℕ) → length (raised k q) ≡ length q
unfolding raised
raised-length k q = simp (length-take, length-append, length-replicate) (omega arith)

pub raised-none : (q : List ℕ) → raised 0 q ≡ q
unfolding raised
raised-none q = take-length q

-- the coefficients below x^k are 0, and those from there on are q's
raised-low : (k : ℕ) (q : List ℕ) → k ≤ length q → take k (raised k q) ≡ zeros k
unfolding raised
raised-low k q h = take-take k (length q) (zeros k ++ q) h ∙ take_at (zeros k) q k (length-replicate k 0)

pub raised-high : (k : ℕ) (q : List ℕ) (i : ℕ) → k ≤ i → i < length q → get_or (raised k q) i 0 ≡ get_or q (i - k) 0
unfolding raised
raised-high k q i l h =
    let e : i ≡ length (zeros k) + (i - k) = simp length-replicate (omega arith) in
    get_or-take (length q) (zeros k ++ q) i 0 h ∙ ap (λ (j : ℕ). get_or (zeros k ++ q) j 0) e ∙ get_or-append-add (zeros k) q (i - k) 0

⊕-take : (k : ℕ) (a b : List ℕ) → take k (a ⊕ b) ≡ take k a ⊕ take k b
unfolding ◌⊕◌
⊕-take zero a b = refl
⊕-take (suc k) [] b = refl
⊕-take (suc k) (x ∷ a) [] = refl
⊕-take (suc k) (x ∷ a) (y ∷ b) = ap (λ (l : List ℕ). bit_xor x y ∷ l) (⊕-take k a b)

-- ---- the loop

pub sum_length : (p q : List ℕ) (k : ℕ) → length q ≡ length p → length (p ⊕ raised k q) ≡ length p
sum_length p q k e = ⊕-length p (raised k q) (omega (arith, raised-length k q))

-- below x^k nothing is added
pub sum_begun : (p q : List ℕ) (k : ℕ) → length q ≡ length p → k ≤ length p → p ≡ part k (p ⊕ raised k q) p
sum_begun p q k e h =
    let l : length (take k p) ≤ k = simp length-take (omega arith) in
    let low : take k (p ⊕ raised k q) ≡ take k p
    = ⊕-take k p (raised k q) ∙ ap (λ (z : List ℕ). take k p ⊕ z) (raised-low k q (omega arith)) ∙ ⊕-zeros (take k p) k l in
    sym (ap (λ (z : List ℕ). z ++ drop k p) low ∙ take-append-drop k p)

pub sum_next : (p q s : List ℕ) (k i : ℕ) → s ≡ part i (p ⊕ raised k q) p → length q ≡ length p → length s ≡ length p → k ≤ i → i < length s
    → set s i (bit_xor (get_or s i 0) (get_or q (i - k) 0)) ≡ part (i + 1) (p ⊕ raised k q) p
sum_next p q s k i e d f l h =
    let t = p ⊕ raised k q in
    let a : i < length p = omega arith in
    let b : i < length t = omega (arith, sum_length p q k d) in
    part_turn i t p s _ e a b
    (ap₂ bit_xor (part_read i t p s e b) (sym (raised-high k q i l (omega arith)))
    ∙ sym (⊕-at p (raised k q) i a (omega (arith, raised-length k q))))

pub sum_done : (p q s : List ℕ) (k i : ℕ) → s ≡ part i (p ⊕ raised k q) p → length q ≡ length p → length s ≡ length p → length s ≤ i
    → s ≡ p ⊕ raised k q
sum_done p q s k i e d f h = part_done (length p) i (p ⊕ raised k q) p s e (omega arith) (sum_length p q k d) refl
