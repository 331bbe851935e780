-- Polynomials over two elements. A polynomial is the list of its coefficients, 0 or 1, from that of x^0 on. Zeros may stand at its end,
-- and polynomials that are added have equally long lists. Their sum is ⊕, and so is their difference. In a recursion a choice is written `elim`, so that
-- only the branch taken is computed. Assumes nothing.
use Rattle.std.specs.Prelude.{true, false, ◌||◌, List, [], ◌∷◌, ◌++◌, ℕ, zero, suc, ◌+◌, ◌-◌, eqb, ltb, length, take, set}
use Rattle.blocks.specs.Block.{◌⊕◌, zeros}
use Rattle.incidence.specs.Count.{indicator}

-- a coefficient c, and the n behind it that end in the last 1
unfoldable pub longer : ℕ → ℕ → ℕ
longer c zero = indicator (eqb c 1)
longer c (suc n) = suc (suc n)

-- how many coefficients there are up to the last 1: the degree and one more, or 0 for the polynomial 0
unfoldable pub poly_size : List ℕ → ℕ
poly_size [] = 0
poly_size (c ∷ p) = longer c (poly_size p)

-- x^k times p, with as many coefficients as p
unfoldable pub raised : ℕ → List ℕ → List ℕ
raised k p = take (length p) (zeros k ++ p)

-- a step of long division: p less q times that power of x at which their highest terms are the same
unfoldable pub less : List ℕ → List ℕ → List ℕ
less p q = p ⊕ raised (poly_size p - poly_size q) q

-- Euclid's algorithm in at most n steps: the longer polynomial is lessened by the other until one of the two is 0; their sum is then the other one
unfoldable pub gcd_in : ℕ → List ℕ → List ℕ → List ℕ
gcd_in zero p q = p ⊕ q
gcd_in (suc n) p q =
    elim (eqb (poly_size p) 0 || eqb (poly_size q) 0) [
      | true ↦ p ⊕ q
      | false ↦ elim (ltb (poly_size p) (poly_size q)) [ true ↦ gcd_in n p (less q p) | false ↦ gcd_in n (less p q) q ]
    ]

-- the greatest common divisor: each step shortens one of the two
unfoldable pub gcd : List ℕ → List ℕ → List ℕ
gcd p q = gcd_in (poly_size p + poly_size q) p q

-- long division of p by q in at most n steps, which add their terms to h
unfoldable pub quotient_in : ℕ → List ℕ → List ℕ → List ℕ → List ℕ
quotient_in zero h p q = h
quotient_in (suc n) h p q =
    elim (eqb (poly_size q) 0 || ltb (poly_size p) (poly_size q)) [ true ↦ h | false ↦ quotient_in n (set h (poly_size p - poly_size q) 1) (less p q) q ]

-- the quotient of p by q: each step shortens p
unfoldable pub quotient : List ℕ → List ℕ → List ℕ
quotient p q = quotient_in (poly_size p) (zeros (length p)) p q
