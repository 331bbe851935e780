-- What `pattern` answers and writes, for any number m, any list and any buffer lent. Assumes nothing.
use Rattle.std.specs.Prelude.{Bool, ◌||◌, List, ◌++◌, ℕ, Option, None, Some, eqb, ltb, length, drop, if◌then◌else◌}
use Rattle.cyclic.specs.CyclicCode.{row_pattern}

-- m is 0 or larger than any plane, or there are fewer places than a pattern for m cards can have steps
unfoldable pub refuses : ℕ → ℕ → Bool
refuses m room = (eqb m 0 || ltb 273 m) || ltb room m

-- how many steps it has, or None where it refuses
unfoldable pub pattern_answer : ℕ → List ℕ → ℕ → Option ℕ
pattern_answer m D room =
    if refuses m room then None else Some (length (row_pattern m D))

-- the steps at the front; what is behind them stays, and everything where it refuses
unfoldable pub pattern_writes : ℕ → List ℕ → List ℕ → List ℕ
pattern_writes m D out = if refuses m (length out) then out else row_pattern m D ++ drop (length (row_pattern m D)) out
