-- Demand 3 of document 00, a field for each of its sentences, with nothing about how a report comes about: n items, the limit d, which
-- items changed, which are marked as named, and the answer. `NoRowCancels` is the premise of all but the first sentence: document 01's
-- 'no row cancels', or what a layer says in its place. Assumes nothing.
use Rattle.std.specs.Prelude.{◌≡◌, Bool, true, false, ◌↔◌, ℕ, ◌≤◌, ◌<◌}
use Rattle.incidence.specs.Count.{count_up_to}
use Rattle.incidence.specs.Family.{Family, holds_one}
use Rattle.incidence.specs.declared.Answer.{Answer}
use Rattle.incidence.specs.declared.Answer.TheVariants.{Intact, Named, Beyond}

pub record Detects (d n : ℕ) (NoRowCancels : Type 0) (changed marked : ℕ → Bool) (said : Answer) : Type 0 where
  -- "While at most d cards differ, it names no unchanged card."
  pub spares : count_up_to changed n ≤ d → (j : ℕ) → 1 ≤ j → j ≤ n → changed j ≡ false → marked j ≡ false
  -- "where no row .. it names every changed card, for any number of changes"
  pub finds : NoRowCancels → (j : ℕ) → 1 ≤ j → j ≤ n → changed j ≡ true → marked j ≡ true
  -- "up to d the named cards are exactly the changed ones"
  pub exact : NoRowCancels → count_up_to changed n ≤ d → (j : ℕ) → 1 ≤ j → j ≤ n → marked j ≡ changed j
  -- "the answer is "intact" exactly when none changed"
  pub intact : NoRowCancels → (said ≡ Intact) ↔ (count_up_to changed n ≡ 0)
  -- ""named" exactly when 1 to d did"
  pub named : NoRowCancels → (said ≡ Named) ↔ ((1 ≤ count_up_to changed n) × (count_up_to changed n ≤ d))
  -- ""beyond" exactly when more did"
  pub beyond : NoRowCancels → (said ≡ Beyond) ↔ (d < count_up_to changed n)

-- a row without a changed item agrees
abbrev pub QuietRowsAgree : Family → ℕ → (ℕ → Bool) → (ℕ → Bool) → Type 0
QuietRowsAgree F n changed agrees =
    (i : ℕ) → 1 ≤ i → i ≤ F.rows → holds_one F changed n i ≡ false → agrees i ≡ true

-- a row with a changed item disagrees
abbrev pub ChangedRowsDisagree : Family → ℕ → (ℕ → Bool) → (ℕ → Bool) → Type 0
ChangedRowsDisagree F n changed agrees =
    (i : ℕ) → 1 ≤ i → i ≤ F.rows → holds_one F changed n i ≡ true → agrees i ≡ false
