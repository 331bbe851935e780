-- Document 02, 2.14: how far apart the numbers of disagreeing rows of two messages are, against one tag file and with the same keys. Over any
-- family, with n items: which of them differ between the two messages, and the two numbers. `OnPlane` is the premise of two fields, which a
-- layer fills in. "It needs no premise about cancelling." Assumes nothing.
use Rattle.std.specs.Prelude.{◌≡◌, Bool, false, ℕ, ◌+◌, ◌*◌, ◌≤◌}
use Rattle.incidence.specs.Count.{count_up_to}
use Rattle.incidence.specs.Family.{Family, rows_through, rows_holding}

-- two numbers are at most k apart
abbrev pub ApartAtMost : ℕ → ℕ → ℕ → Type 0
ApartAtMost k a b = (a ≤ b + k) × (b ≤ a + k)

pub record Drifts (F : Family) (n : ℕ) (OnPlane : Type 0) (differs : ℕ → Bool) (rows others : ℕ) : Type 0 where
  -- "two shelves that differ in one card have row numbers at most d+1 apart on a plane"
  pub one-on-plane : OnPlane → count_up_to differs n ≤ 1 → ApartAtMost (F.limit + 1) rows others
  -- "or apart by at most the rows through that card", of any family: where no other than j differs
  pub one : (j : ℕ) → ((k : ℕ) → 1 ≤ k → k ≤ n → (k ≡ j → ⊥) → differs k ≡ false) → ApartAtMost (rows_through F j) rows others
  -- whichever differ, by at most the rows that hold one of them
  pub several : ApartAtMost (rows_holding F differs n) rows others
  -- which on a plane are at most kd+1 for k or fewer of them, since each shares a row with the first; for k = 0 `several` says more
  pub several-on-plane : OnPlane → (k : ℕ) → count_up_to differs n ≤ k → ApartAtMost (k * F.limit + 1) rows others
