-- Document 02, 2.2: what the number of disagreeing rows says of the number of changed items. None, one and two, and the bounds for every
-- number k. n items, the limit d, which items changed, and the number of rows; `NoRowCancels` is the premise of three fields, which a layer
-- fills in as in Detection.antt. Assumes nothing.
use Rattle.std.specs.Prelude.{◌≡◌, Bool, ℕ, ◌+◌, ◌-◌, ◌*◌, ◌/◌, ◌≤◌}
use Rattle.incidence.specs.Count.{count_up_to}

pub record Tallies (d n : ℕ) (NoRowCancels : Type 0) (changed : ℕ → Bool) (rows : ℕ) : Type 0 where
  -- no changed card gives no row
  pub none : count_up_to changed n ≡ 0 → rows ≡ 0
  -- "Where no row cancels, one changed card gives exactly d+1 disagreeing rows"
  pub one : NoRowCancels → count_up_to changed n ≡ 1 → rows ≡ d + 1
  -- "and two give exactly 2d+1"
  pub two : NoRowCancels → count_up_to changed n ≡ 2 → rows ≡ 2 * d + 1
  -- k changed ones or more give at least k(d+1) rows but one for each two of the k, since two share one row
  pub least : NoRowCancels → (k : ℕ) → k ≤ count_up_to changed n → k * (d + 1) - k * (k - 1) / 2 ≤ rows
  -- k or fewer, k at least 1, give at most k(d+1) rows but k−1, since each shares a row with the first; a row that cancels is one fewer
  pub most : (k : ℕ) → count_up_to changed n ≤ k → rows ≤ k * d + 1
