-- Bytes, blocks of 16 bytes and XOR (FIPS 197, 3.2 and 4.1; SP 800-38B, 4.2). Every other definition is built from these.
-- Cited by the contracts of this crate and of those above. Assumes nothing.
use Rattle.std.specs.Prelude.{◌≡◌, Bool, true, false, ◌&&◌, List, [], ◌∷◌, ◌++◌, ℕ, zero, suc, ◌*◌, ◌<◌, eqb, length, get_or, take, drop, replicate}
use Rattle.std.specs.Int.Bits.{bit_xor}

infixl 66 ◌⊕◌
-- every element is a byte
abbrev pub Bytes : List ℕ → Type 0
Bytes [] = Unit {0}
Bytes (x ∷ xs) = (x < 256) × Bytes xs

-- a block: 16 bytes
pub record Block (s : List ℕ) : Type 0 where
  pub long : length s ≡ 16
  pub bytes : Bytes s

-- XOR, element by element, as far as both lists go
unfoldable pub ◌⊕◌ : List ℕ → List ℕ → List ℕ
[] ⊕ ys = []
(x ∷ xs) ⊕ [] = []
(x ∷ xs) ⊕ (y ∷ ys) = bit_xor x y ∷ (xs ⊕ ys)

-- n zero bytes
abbrev pub zeros : ℕ → List ℕ
zeros n = replicate n 0

-- f 0, f 1, .. as many as n
abbrev pub tabulate : ℕ → (ℕ → ℕ) → List ℕ
tabulate zero f = []
tabulate (suc n) f = f 0 ∷ tabulate n (λ i. f (suc i))

-- block k, from 0, of a list of blocks
unfoldable pub slot : List ℕ → ℕ → List ℕ
slot s k = take 16 (drop (16 * k) s)

-- f 0, f 1, .. one after another, n of them
unfoldable pub list_of : (ℕ → List ℕ) → ℕ → List ℕ
list_of f zero = []
list_of f (suc k) = list_of f k ++ f k

-- t is a table of f over the bytes
abbrev pub Tabulates : List ℕ → (ℕ → ℕ) → Type 0
Tabulates t f = (k : ℕ) → k < 256 → get_or t k 0 ≡ f k

-- whether two lists hold the same numbers
unfoldable pub same : List ℕ → List ℕ → Bool
same [] [] = true
same [] (y ∷ ys) = false
same (x ∷ xs) [] = false
same (x ∷ xs) (y ∷ ys) = eqb x y && same xs ys
