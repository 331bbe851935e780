-- The laws of `poly_size`: it is at most the length, and the place behind the last 1.
use Rattle.std.specs.Prelude.{◌≡◌, ◌∷◌, ◌+◌, ◌-◌, ◌≤◌, ◌<◌}
use Rattle.fips197.proofs.Kit.{refl, sym, ap, ◌∙◌, List, [], ℕ, zero, suc, arith, eqb, length, get_or, eq-eqb, ne_eqb}
use Rattle.incidence.specs.Count.{indicator}
use Rattle.incidence.proofs.Counting.{bit-most}
use Rattle.polynomials.specs.Polynomial.{longer, poly_size}

pub longer-most : (c n : ℕ) → longer c n ≤ suc n
unfolding longer
longer-most c zero = bit-most (eqb c 1)
longer-most c (suc n) = omega arith

pub size-most : (p : List ℕ) → poly_size p ≤ length p
unfolding poly_size
size-most [] = omega arith
size-most (c ∷ p) = omega (arith, longer-most c (poly_size p), size-most p)

-- ---- the last 1

pub size-zero : (p : List ℕ) → ((k : ℕ) → k < length p → get_or p k 0 ≡ 1 → ⊥) → 0 ≡ poly_size p
unfolding poly_size longer
size-zero [] none = refl
size-zero (c ∷ p) none =
    sym (ap indicator (ne_eqb c 1 (none 0 (omega arith)))) ∙ ap (longer c) (size-zero p (λ k l. none (suc k) (omega arith)))

pub size_last : (p : List ℕ) (i : ℕ) → i < length p → get_or p i 0 ≡ 1 → ((k : ℕ) → i + 1 ≤ k → k < length p → get_or p k 0 ≡ 1 → ⊥) → i + 1 ≡ poly_size p
unfolding poly_size longer
size_last [] i l one none = absurd (omega arith)
size_last (c ∷ p) zero l one none =
    sym (ap indicator (eq-eqb c 1 one)) ∙ ap (longer c) (size-zero p (λ k h. none (suc k) (omega arith) (omega arith)))
size_last (c ∷ p) (suc i) l one none =
    let e : suc i + 1 ≡ suc (suc i) = omega arith in
    let z : suc i ≡ i + 1 = omega arith in
    e ∙ ap (longer c) (z ∙ size_last p i (omega arith) one (λ k a h. none (suc k) (omega arith) (omega arith)))

-- what two sizes come to, where both lists have at most 274 coefficients
pub sizes_few : (p q : List ℕ) (a b : ℕ) → a ≡ poly_size p → b ≡ poly_size q → length q ≡ length p → length p ≤ 274 → a + b ≤ 548
sizes_few p q a b ea eb e h = omega (arith, size-most p, size-most q)

-- ---- how far one polynomial is raised to meet another, of size a

pub gap_most : (p : List ℕ) (a b : ℕ) → a ≡ poly_size p → a - b ≤ length p
gap_most p a b e = omega (arith, size-most p)

pub gap_inside : (p h : List ℕ) (a b : ℕ) → a ≡ poly_size p → length p ≡ length h → (b ≡ 0 → ⊥) → b ≤ a → a - b < length h
gap_inside p h a b e f z l = omega (arith, size-most p, z)
