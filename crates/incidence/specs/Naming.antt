-- Document 02, 2.13: what a list of named items means, however long. Over any family, with n items: which of them changed, and which are
-- marked as named. `NoRowCancels` is the premise of one field, which a layer fills in as in Detection.antt. Assumes nothing.
use Rattle.std.specs.Prelude.{◌≡◌, Bool, true, ℕ, ◌≤◌}
use Rattle.incidence.specs.Family.{Family, covered}

pub record NamesCovered (F : Family) (n : ℕ) (NoRowCancels : Type 0) (changed marked : ℕ → Bool) : Type 0 where
  -- "Where no row cancels, for any number of changes, a card is named exactly when each row through it holds a changed card."
  pub exact : NoRowCancels → (j : ℕ) → 1 ≤ j → j ≤ n → marked j ≡ covered F changed n j
  -- whatever cancels, each row through a named card holds a changed one
  pub within : (j : ℕ) → 1 ≤ j → j ≤ n → marked j ≡ true → covered F changed n j ≡ true
