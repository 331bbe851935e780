-- A walk through the rows of any family, by any test of them (document 02, 2.4): a longer one clears no fewer items and counts no fewer rows,
-- and one row more clears the items of that row if it agrees, and counts it if not.
use Rattle.std.specs.Prelude.{◌≡◌, ◌&&◌, ◌||◌, ◌+◌, ◌≤◌}
use Rattle.fips197.proofs.Kit.{refl, Bool, true, not, ℕ, suc, arith}
use Rattle.incidence.specs.Count.{indicator, count_up_to}
use Rattle.incidence.specs.Family.{Family}
use Rattle.incidence.specs.Report.{cleared, disagreeing}
use Rattle.incidence.proofs.Counting.{Found, any_found, any_some, count_mono, count_up}

module _ (F : Family) (agrees : ℕ → Bool) where
  -- ---- the first i rows, and more

  module _ (i k : ℕ) (more : i ≤ k) where
    -- what is cleared stays cleared
    pub stays_cleared : (j : ℕ) → cleared F agrees i j ≡ true → cleared F agrees k j ≡ true
    unfolding cleared
    stays_cleared j e =
        let f : Found (λ r. agrees r && F.on r j) i = any_found (λ r. agrees r && F.on r j) i e in
        any_some (λ r. agrees r && F.on r j) k f.at f.low (omega (arith, more, f.high)) f.passes

    pub clears_no_fewer : (n : ℕ) → count_up_to (cleared F agrees i) n ≤ count_up_to (cleared F agrees k) n
    clears_no_fewer n = count_mono (cleared F agrees i) (cleared F agrees k) n (λ j l u. stays_cleared j)

    pub counts_no_fewer : disagreeing agrees i ≤ disagreeing agrees k
    unfolding disagreeing
    counts_no_fewer = count_up (λ r. not (agrees r)) i k more

  -- ---- the first i rows, and one more

  module _ (i : ℕ) where
    -- a row that agrees clears its items
    pub cleared_step : (j : ℕ) → cleared F agrees (suc i) j ≡ cleared F agrees i j || (agrees (suc i) && F.on (suc i) j)
    unfolding cleared
    cleared_step j = refl

    -- one that does not is counted
    pub counted_step : disagreeing agrees (suc i) ≡ disagreeing agrees i + indicator (not (agrees (suc i)))
    unfolding disagreeing
    counted_step = refl
