-- Sums over rows (000, section 4.3): S[i] is the XOR of the items' values on row i, and (4) a row without a tag is expanded from the tagged ones.
-- A value is 16 bytes; places above n add nothing (document 01, Planes). Assumes nothing.
use Rattle.std.specs.Prelude.{Bool, List, [], ◌∷◌, ℕ, zero, suc, eqb, if◌then◌else◌}
use Rattle.blocks.specs.Block.{◌⊕◌, zeros}
use Rattle.incidence.specs.Family.{Family}

-- the XOR of the values at those of the places 1 to n that p picks
unfoldable pub sum_over : (ℕ → Bool) → (ℕ → List ℕ) → ℕ → List ℕ
sum_over p value zero = zeros 16
sum_over p value (suc n) = if p (suc n) then sum_over p value n ⊕ value (suc n) else sum_over p value n

-- S[i]: row i's sum of the values at the places 1 to n, 16 zero bytes if it holds none (document 01: row sum)
unfoldable pub row_sum : Family → (ℕ → List ℕ) → ℕ → ℕ → List ℕ
row_sum F value n i = sum_over (F.on i) value n

-- the XOR of the sums of the rows listed
unfoldable pub sum_of : (ℕ → List ℕ) → List ℕ → List ℕ
sum_of sum [] = zeros 16
sum_of sum (a ∷ rest) = sum a ⊕ sum_of sum rest

-- row i's sum from the tags' sums, by at most n steps to earlier rows
unfoldable pub expanded_in : Family → (ℕ → List ℕ) → ℕ → ℕ → List ℕ
expanded_in F tagged zero i = zeros 16
expanded_in F tagged (suc n) i = if eqb (F.tag_of_row i) 0 then sum_of (expanded_in F tagged n) (F.made i) else tagged (F.tag_of_row i)

-- row i's sum from the tags' sums: its tag's, or the XOR of the rows that it is made of
unfoldable pub expanded : Family → (ℕ → List ℕ) → ℕ → List ℕ
expanded F tagged i = expanded_in F tagged i i
