-- Sums of terms, written into zeros: x^m + 1, and D(x) from the last member of the list to the first.
use Rattle.std.specs.Prelude.{◌≡◌, ◌∷◌, ◌++◌, ◌-◌, ◌≤◌, ◌<◌, if◌then◌else◌}
use Rattle.fips197.proofs.Kit.{refl, sym, ap, ◌∙◌, Bool, true, false, List, [], ℕ, zero, suc, arith, ltb, length, get_or, set, drop, length-append, length-set, length-replicate, drop-length, drop-cons}
use Rattle.blocks.specs.Block.{zeros}
use Rattle.cyclic.specs.CyclicCode.{modulus, of_list}

-- ---- x^m + 1

set_last : (n : ℕ) → set (zeros (suc n)) n 1 ≡ zeros n ++ (1 ∷ [])
set_last zero = refl
set_last (suc n) = ap (λ (l : List ℕ). 0 ∷ l) (set_last n)

modulus_of : (m : ℕ) → 0 < m → set (set (zeros (suc m)) 0 1) m 1 ≡ modulus m
unfolding modulus
modulus_of zero h = absurd (omega arith)
modulus_of (suc n) h =
    let z : suc n - 1 ≡ n = omega arith in
    ap (λ (l : List ℕ). 1 ∷ l) (set_last n) ∙ ap (λ (k : ℕ). (1 ∷ zeros k) ++ (1 ∷ [])) (sym z)

-- an array of n places has one for each term to x^(n - 1)
pub modulus_set : (n : ℕ) (p : List ℕ) → 1 < n → p ≡ zeros n → set (set p 0 1) (n - 1) 1 ≡ modulus (n - 1)
modulus_set n p h e =
    let z : n ≡ suc (n - 1) = omega arith in
    ap (λ (l : List ℕ). set (set l 0 1) (n - 1) 1) (e ∙ ap zeros z) ∙ modulus_of (n - 1) (omega arith)

pub modulus-length : (m : ℕ) → 0 < m → length (modulus m) ≡ suc m
unfolding modulus
modulus-length m h = simp (length-append, length-replicate) (omega arith)

-- ---- D(x)

pub of_list_length : (m : ℕ) (D : List ℕ) → length (of_list m D) ≡ suc m
unfolding of_list
of_list_length m [] = length-replicate (suc m) 0
of_list_length m (e ∷ D) = go (of_list_length m D) (ltb e m)
  where
    go : length (of_list m D) ≡ suc m → (t : Bool) → length (if t then set (of_list m D) e 1 else of_list m D) ≡ suc m
    go h true = length-set (of_list m D) e 1 ∙ h
    go h false = h

pub list-none : (n : ℕ) (D p : List ℕ) → 0 < n → p ≡ zeros n → p ≡ of_list (n - 1) (drop (length D) D)
unfolding of_list
list-none n D p h e =
    let z : n ≡ suc (n - 1) = omega arith in
    e ∙ ap zeros z ∙ ap (of_list (n - 1)) (sym (drop-length D))

pub list_more : (m : ℕ) (D p q : List ℕ) (i : ℕ) → p ≡ of_list m (drop i D) → 0 < i → i ≤ length D
    → q ≡ (if ltb (get_or D (i - 1) 0) m then set p (get_or D (i - 1) 0) 1 else p) → q ≡ of_list m (drop (i - 1) D)
unfolding of_list
list_more m D p q i e h l f =
    let z : i ≡ suc (i - 1) = omega arith in
    let x = get_or D (i - 1) 0 in
    f ∙ ap (λ (r : List ℕ). if ltb x m then set r x 1 else r) (e ∙ ap (λ (k : ℕ). of_list m (drop k D)) z)
    ∙ ap (of_list m) (sym (drop-cons D (i - 1) 0 (omega arith)))

pub list_all : (m : ℕ) (D p : List ℕ) (i : ℕ) → p ≡ of_list m (drop i D) → i ≤ 0 → p ≡ of_list m D
list_all m D p i e h =
    let z : i ≡ 0 = omega arith in
    e ∙ ap (λ (k : ℕ). of_list m (drop k D)) z
