-- Document 01, Report, over an array of differences: of each row, the XOR of the message's sum and the tag file's (000, section 3.1: naïve
-- decoding). Assumes nothing.
use Rattle.std.specs.Prelude.{◌≡◌, Bool, not, ◌&&◌, List, [], ◌∷◌, ◌++◌, ℕ, zero, suc, ◌-◌, ◌≤◌, eqb, length, get_or, drop, if◌then◌else◌}
use Rattle.blocks.specs.Block.{zeros, same}
use Rattle.incidence.specs.Count.{indicator}
use Rattle.incidence.specs.Family.{Family, holds_one}
use Rattle.incidence.specs.Sum.{expanded}
use Rattle.sums.specs.Adding.{sum_in}

-- whether row i "agrees": its difference is zero, so that its "sum from the shelf equals its sum from the sheet"
unfoldable pub agrees_in : List ℕ → ℕ → Bool
agrees_in d i = same (sum_in d i) (zeros 16)

-- whether row i agrees by the differences of the tags in s: its own is "had back from its tag or, for a row without one, by its pattern"
unfoldable pub agrees_from : Family → List ℕ → ℕ → Bool
agrees_from F s i = same (expanded F (sum_in s) i) (zeros 16)

-- a byte for each of the items 1 to n, 1 for those that pass: "Writes n bytes, 1 named and 0 cleared"
unfoldable pub marks_of : (ℕ → Bool) → ℕ → List ℕ
marks_of p zero = []
marks_of p (suc n) = marks_of p n ++ (indicator (p (suc n)) ∷ [])

-- ---- an array of marks on the way

-- item j's mark, 0 once it is cleared
unfoldable pub mark_in : List ℕ → ℕ → ℕ
mark_in marks j = get_or marks (j - 1) 0

-- `after` is `before` with the marks of the items 1 to n those that `mark` gives; what is behind them stays
pub record Marked (n : ℕ) (mark : ℕ → ℕ) (before after : List ℕ) : Type 0 where
  pub size : length after ≡ length before
  pub marks : (j : ℕ) → 1 ≤ j → j ≤ n → mark_in after j ≡ mark j
  pub rest : drop n after ≡ drop n before

-- `after` is `before` with those of its first n items cleared that p picks
abbrev pub Cleared : (ℕ → Bool) → ℕ → List ℕ → List ℕ → Type 0
Cleared p n before after = Marked n (λ j. if p j then 0 else mark_in before j) before after

-- whether item j is marked
unfoldable pub is_marked : List ℕ → ℕ → Bool
is_marked marks j = not (eqb (mark_in marks j) 0)

-- whether row i disagrees and holds none of the items 1 to n that are marked, so that not "every disagreeing row holds a named card"
unfoldable pub unexplained_in : Family → (ℕ → Bool) → List ℕ → ℕ → ℕ → Bool
unexplained_in F agrees marks n i = not (agrees i) && not (holds_one F (is_marked marks) n i)
