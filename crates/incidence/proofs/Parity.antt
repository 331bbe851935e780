-- Sums of bits, and the laws of `parity`: of no members, of a sum, of two lists one behind the other, and of a parity of parities, which may be
-- taken in either order; and of the numbers that a test lists.
use Rattle.std.specs.Prelude.{◌≡◌, ◌&&◌, ◌∷◌, ◌++◌, if◌then◌else◌}
use Rattle.fips197.proofs.Kit.{refl, sym, ap, ap₂, ◌∙◌, Bool, true, false, List, [], map, ℕ, zero, suc}
use mathlib.Core.Bool.{xor}
use Rattle.incidence.specs.Count.{listed}
use Rattle.incidence.specs.Family.{parity}

-- ---- bits

pub xor_three : (a b c : Bool) → xor a (xor b c) ≡ xor (xor a b) c
unfolding xor
xor_three true true true = refl
xor_three true true false = refl
xor_three true false true = refl
xor_three true false false = refl
xor_three false true true = refl
xor_three false true false = refl
xor_three false false true = refl
xor_three false false false = refl

pub xor_turn : (a b : Bool) → xor a b ≡ xor b a
unfolding xor
xor_turn true true = refl
xor_turn true false = refl
xor_turn false true = refl
xor_turn false false = refl

-- (a + b) + (c + d) is (a + c) + (b + d)
pub xor_four : (a b c d : Bool) → xor (xor a b) (xor c d) ≡ xor (xor a c) (xor b d)
xor_four a b c d =
    sym (xor_three a b (xor c d))
    ∙ ap (xor a) (xor_three b c d ∙ ap (λ (x : Bool). xor x d) (xor_turn b c) ∙ sym (xor_three c b d))
    ∙ xor_three a c (xor b d)

pub xor-none : (a : Bool) → xor false a ≡ a
unfolding xor
xor-none true = refl
xor-none false = refl

pub xor_self : (a : Bool) → xor a a ≡ false
unfolding xor
xor_self true = refl
xor_self false = refl

pub xor_same : (a b : Bool) → xor a b ≡ false → a ≡ b
unfolding xor
xor_same true true h = refl
xor_same true false h = h
xor_same false true h = sym h
xor_same false false h = refl

pub and_xor : (a b c : Bool) → xor a b && c ≡ xor (a && c) (b && c)
unfolding xor
and_xor true true true = refl
and_xor true true false = refl
and_xor true false true = refl
and_xor true false false = refl
and_xor false true true = refl
and_xor false true false = refl
and_xor false false true = refl
and_xor false false false = refl

pub xor-and : (a b c : Bool) → a && xor b c ≡ xor (a && b) (a && c)
unfolding xor
xor-and true b c = refl
xor-and false b c = refl

-- ---- parity

pub parity_ext : (p q : ℕ → Bool) → ((k : ℕ) → p k ≡ q k) → (Q : List ℕ) → parity p Q ≡ parity q Q
unfolding parity
parity_ext p q h [] = refl
parity_ext p q h (k ∷ Q) = ap₂ xor (h k) (parity_ext p q h Q)

pub parity-none : (Q : List ℕ) → parity (λ k. false) Q ≡ false
unfolding parity
parity-none [] = refl
parity-none (k ∷ Q) = xor-none _ ∙ parity-none Q

parity_sum : (p q : ℕ → Bool) (Q : List ℕ) → parity (λ k. xor (p k) (q k)) Q ≡ xor (parity p Q) (parity q Q)
unfolding parity
parity_sum p q [] = sym (xor-none false)
parity_sum p q (k ∷ Q) = ap (xor (xor (p k) (q k))) (parity_sum p q Q) ∙ xor_four (p k) (q k) (parity p Q) (parity q Q)

pub parity-append : (p : ℕ → Bool) (P Q : List ℕ) → parity p (P ++ Q) ≡ xor (parity p P) (parity p Q)
unfolding parity
parity-append p [] Q = sym (xor-none (parity p Q))
parity-append p (a ∷ P) Q = ap (xor (p a)) (parity-append p P Q) ∙ xor_three (p a) (parity p P) (parity p Q)

pub parity-map : (p : ℕ → Bool) (f : ℕ → ℕ) (Q : List ℕ) → parity p (map f Q) ≡ parity (λ k. p (f k)) Q
unfolding parity
parity-map p f [] = refl
parity-map p f (k ∷ Q) = ap (xor (p (f k))) (parity-map p f Q)

pub parity_swap : (f : ℕ → ℕ → Bool) (U Q : List ℕ) → parity (λ u. parity (f u) Q) U ≡ parity (λ k. parity (λ u. f u k) U) Q
unfolding parity
parity_swap f [] Q = sym (parity-none Q)
parity_swap f (u ∷ U) Q =
    ap (xor (parity (f u) Q)) (parity_swap f U Q) ∙ sym (parity_sum (f u) (λ k. parity (λ v. f v k) U) Q)

-- one more behind the others
pub parity-last : (p : ℕ → Bool) (Q : List ℕ) (k : ℕ) → parity p (Q ++ (k ∷ [])) ≡ xor (parity p Q) (p k)
unfolding parity
parity-last p Q k = parity-append p Q (k ∷ []) ∙ ap (xor (parity p Q)) (xor_turn (p k) false ∙ xor-none (p k))

-- ---- over the numbers that pass another test

pub parity-next : (p c : ℕ → Bool) (n : ℕ) → parity p (listed c (suc n)) ≡ xor (parity p (listed c n)) (c (suc n) && p (suc n))
parity-next p c n = go (c (suc n))
  where
    go : (b : Bool) → parity p (if b then listed c n ++ (suc n ∷ []) else listed c n) ≡ xor (parity p (listed c n)) (b && p (suc n))
    go true = parity-last p (listed c n) (suc n)
    go false = sym (xor_turn (parity p (listed c n)) false ∙ xor-none (parity p (listed c n)))

-- over those that pass one of two tests, and not both
pub parity_either : (p c d : ℕ → Bool) (n : ℕ) → parity p (listed (λ a. xor (c a) (d a)) n) ≡ xor (parity p (listed c n)) (parity p (listed d n))
unfolding parity
parity_either p c d zero = sym (xor-none false)
parity_either p c d (suc n) =
    parity-next p (λ a. xor (c a) (d a)) n
    ∙ ap₂ xor (parity_either p c d n) (and_xor (c (suc n)) (d (suc n)) (p (suc n)))
    ∙ xor_four (parity p (listed c n)) (parity p (listed d n)) (c (suc n) && p (suc n)) (d (suc n) && p (suc n))
    ∙ sym (ap₂ xor (parity-next p c n) (parity-next p d n))
