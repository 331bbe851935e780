-- The binary cyclic code of length m that a difference list generates, its generator polynomial and its check polynomial, and the row pattern
-- that they give (document 02, 2.6). Words of the code are polynomials modulo x^m + 1, in which the coefficient of x^j stands for card j, and that of
-- x^0 for card m. D(x) is the sum of x^e over the members e of the list, and row i is x^i D(x). Assumes nothing.
use Rattle.std.specs.Prelude.{List, [], ◌∷◌, ◌++◌, ℕ, suc, ◌-◌, eqb, ltb, get_or, set, if◌then◌else◌}
use Rattle.blocks.specs.Block.{zeros}
use Rattle.incidence.specs.Count.{listed}
use Rattle.polynomials.specs.Polynomial.{poly_size, gcd, quotient}

-- x^m + 1
unfoldable pub modulus : ℕ → List ℕ
modulus m = (1 ∷ zeros (m - 1)) ++ (1 ∷ [])

-- D(x); a member from m on is left out
unfoldable pub of_list : ℕ → List ℕ → List ℕ
of_list m [] = zeros (suc m)
of_list m (e ∷ D) = if ltb e m then set (of_list m D) e 1 else of_list m D

-- the generator polynomial: the greatest common divisor of D(x) and x^m + 1
unfoldable pub generator_polynomial : ℕ → List ℕ → List ℕ
generator_polynomial m D = gcd (of_list m D) (modulus m)

-- the check polynomial h(x): the generator polynomial times h(x) is x^m + 1
unfoldable pub check_polynomial : ℕ → List ℕ → List ℕ
check_polynomial m D = quotient (modulus m) (generator_polynomial m D)

-- h(x) D(x) is 0 modulo x^m + 1, so the rows i + k, for the terms x^k of h(x), XOR to nothing. The last of them is row i + t, where t is h's degree, and it
-- is the XOR of the others, which stand t − k rows back: these steps, rising
unfoldable pub steps_back : List ℕ → List ℕ
steps_back h = listed (λ k. eqb (get_or h (poly_size h - 1 - k) 0) 1) (poly_size h - 1)

-- the row pattern of a difference list
unfoldable pub row_pattern : ℕ → List ℕ → List ℕ
row_pattern m D = steps_back (check_polynomial m D)
