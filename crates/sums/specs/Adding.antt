-- Arrays of sums (000, section 4.3: S[1] .. S[v]): sum i, counted from 1, is block i − 1 of the array. Assumes nothing.
use Rattle.std.specs.Prelude.{◌≡◌, Bool, List, ℕ, ◌-◌, ◌*◌, ◌≤◌, eqb, length, drop, if◌then◌else◌}
use Rattle.blocks.specs.Block.{◌⊕◌, slot}
use Rattle.incidence.specs.Family.{Family}

-- sum i of an array
unfoldable pub sum_in : List ℕ → ℕ → List ℕ
sum_in s i = slot s (i - 1)

-- `after` is `before` with its first n sums those that `sum` gives; what is behind them stays
pub record Holds (n : ℕ) (sum : ℕ → List ℕ) (before after : List ℕ) : Type 0 where
  pub size : length after ≡ length before
  pub sums : (i : ℕ) → 1 ≤ i → i ≤ n → sum_in after i ≡ sum i
  pub rest : drop (16 * n) after ≡ drop (16 * n) before

-- `after` is `before` with a value added to those of its first n sums that p picks; what is behind them stays
abbrev pub Added : (ℕ → Bool) → ℕ → List ℕ → List ℕ → List ℕ → Type 0
Added p n value before after = Holds n (λ i. if p i then sum_in before i ⊕ value else sum_in before i) before after

-- what stands at row i once the tags' sums, which stood at the front, have moved to their rows: another row's is as it was
unfoldable pub spread_tags : Family → List ℕ → ℕ → List ℕ
spread_tags F s i = if eqb (F.tag_of_row i) 0 then sum_in s i else sum_in s (F.tag_of_row i)
