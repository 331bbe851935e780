-- Elimination over two elements, of the rows of a matrix one after the other (document 02, 2.7: "Tags go to each row that isn't a sum of
-- earlier rows, and elimination finds the others"). A set of numbers is a number here, whose bit k says whether k is in the set; the XOR of
-- two sets is bit_xor. That it finds what is to be found is proved of any matrix (proofs/Eliminating.antt). Assumes nothing.
use Rattle.std.specs.Prelude.{Bool, List, [], ◌∷◌, ◌++◌, ℕ, zero, suc, ◌+◌, ◌/◌, ◌%◌, ◌^◌, eqb, if◌then◌else◌}
use Rattle.std.specs.Int.Bits.{bit_xor}

-- whether k is in a set
unfoldable pub has : ℕ → ℕ → Bool
has k set = eqb (set / 2 ^ k % 2) 1

-- the set of the numbers 1 to n that pass p
unfoldable pub set_of : (ℕ → Bool) → ℕ → ℕ
set_of p zero = 0
set_of p (suc n) = set_of p n + (if p (suc n) then 2 ^ suc n else 0)

-- the greatest of the numbers 1 to n that passes p, 0 where none does
unfoldable pub greatest : (ℕ → Bool) → ℕ → ℕ
greatest p zero = 0
greatest p (suc n) = if p (suc n) then suc n else greatest p n

-- an XOR of rows: the items that it holds, and the rows
pub record Combination : Type 0 where
  pub items : ℕ
  pub rows : ℕ

-- the XOR of two
unfoldable pub add : Combination → Combination → Combination
add u v = record { items = bit_xor u.items v.items; rows = bit_xor u.rows v.rows }

-- what is left of a row, and its last item; 0 where it has none
pub record Remainder : Type 0 where
  pub left : Combination
  pub last : ℕ

-- where there is no row
unfoldable pub nothing : Remainder
nothing = record { left = record { items = 0; rows = 0 }; last = 0 }

-- v with a remainder added where v holds its last item, and with each of some, one after the other
unfoldable pub reduced : Remainder → Combination → Combination
reduced u v = if has u.last v.items then add u.left v else v

unfoldable pub reduced_by : List Remainder → Combination → Combination
reduced_by [] v = v
reduced_by (u ∷ us) v = reduced_by us (reduced u v)

-- in a matrix with m items: what remains of a row
unfoldable pub remainder_of : ℕ → Combination → Remainder
remainder_of m v = record { left = v; last = greatest (λ j. has j v.items) m }

-- the remainders us, and behind them that of row i, which holds the items of a set
unfoldable pub next : ℕ → List Remainder → ℕ → ℕ → List Remainder
next m us i items = us ++ (remainder_of m (reduced_by us (record { items = items; rows = 2 ^ i })) ∷ [])

-- the remainders of the rows 1 to n, each by those before it
unfoldable pub remainders : ℕ → (ℕ → ℕ) → ℕ → List Remainder
remainders m row zero = []
remainders m row (suc n) = next m (remainders m row n) (suc n) (row (suc n))
