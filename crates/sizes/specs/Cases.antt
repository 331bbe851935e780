-- Document 01, Bench cards: the cases marked * about planes, as one table of facts about the definitions. Sets are lists, rising.
-- "suspects assume no cancelling row": a row agrees when it holds no changed item. Assumes nothing.
use Rattle.std.specs.Prelude.{◌≡◌, Bool, not, List, [], ◌∷◌, ℕ}
use Rattle.incidence.specs.Count.{listed}
use Rattle.incidence.specs.Family.{rows_of, items_of, holds_one, parity}
use Rattle.incidence.specs.Report.{named, answer}
use Rattle.incidence.specs.declared.Answer.TheVariants.{Named, Beyond}
use Rattle.plane.specs.Plane.{member}
use Rattle.sizes.specs.Sizes.{family_of}

-- whether a row of size 1 agrees, with these items changed
unfoldable pub agrees_with : List ℕ → ℕ → Bool
agrees_with changed i = not (holds_one (family_of 1) (λ j. member j changed) 7 i)

-- the rows that disagree, and the items that are not cleared
unfoldable pub disagree : List ℕ → List ℕ
disagree changed = listed (λ i. not (agrees_with changed i)) 7

unfoldable pub suspects : List ℕ → List ℕ
suspects changed = listed (named (family_of 1) (agrees_with changed)) 7

pub record PlaneCases : Type 0 where
  -- "Size 1: row 1 holds 2 3 5; row 4 holds 1 5 6."
  pub row-1 : items_of (family_of 1) 1 ≡ 2 ∷ 3 ∷ 5 ∷ []
  pub row-4 : items_of (family_of 1) 4 ≡ 1 ∷ 5 ∷ 6 ∷ []
  -- "Card 1 is on rows 4 6 7."
  pub card-1 : rows_of (family_of 1) 1 ≡ 4 ∷ 6 ∷ 7 ∷ []
  -- "Size 2, row 1: 4 7 8 13 15."
  pub size-2-row-1 : items_of (family_of 2) 1 ≡ 4 ∷ 7 ∷ 8 ∷ 13 ∷ 15 ∷ []
  -- "Size 1, row 5 = rows 1, 2, 3 XORed."
  pub row-5-made : (family_of 1).made 5 ≡ 3 ∷ 2 ∷ 1 ∷ []
  pub row-5 : items_of (family_of 1) 5 ≡ listed (λ j. parity (λ i. (family_of 1).on i j) (1 ∷ 2 ∷ 3 ∷ [])) 7
  -- "Size 1, changed 2: rows 1 5 7 disagree, named 2."
  pub changed-2-rows : disagree (2 ∷ []) ≡ 1 ∷ 5 ∷ 7 ∷ []
  pub changed-2-named : suspects (2 ∷ []) ≡ 2 ∷ []
  pub changed-2-says : answer (family_of 1) (agrees_with (2 ∷ [])) 7 ≡ Named
  -- "Changed 1 2: rows 1 4 5 6 7 disagree, named 1 2."
  pub changed-1-2-rows : disagree (1 ∷ 2 ∷ []) ≡ 1 ∷ 4 ∷ 5 ∷ 6 ∷ 7 ∷ []
  pub changed-1-2-named : suspects (1 ∷ 2 ∷ []) ≡ 1 ∷ 2 ∷ []
  pub changed-1-2-says : answer (family_of 1) (agrees_with (1 ∷ 2 ∷ [])) 7 ≡ Named
  -- "Changed 1 2 3: only row 3 agrees; 1 2 3 6 not cleared: "beyond"."
  pub changed-1-2-3-rows : disagree (1 ∷ 2 ∷ 3 ∷ []) ≡ 1 ∷ 2 ∷ 4 ∷ 5 ∷ 6 ∷ 7 ∷ []
  pub changed-1-2-3-named : suspects (1 ∷ 2 ∷ 3 ∷ []) ≡ 1 ∷ 2 ∷ 3 ∷ 6 ∷ []
  pub changed-1-2-3-says : answer (family_of 1) (agrees_with (1 ∷ 2 ∷ 3 ∷ [])) 7 ≡ Beyond
