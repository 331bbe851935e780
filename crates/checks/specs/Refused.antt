-- What each call on whole messages refuses (document 01, 'Calls and order of checks', with 25 of document 02, 2.3): one list a call, in that
-- order; the first that applies is returned. `room` is the length of the buffer lent. Assumes nothing.
use Rattle.std.specs.Prelude.{List, [], ◌∷◌, ℕ, eqb, length}
use Rattle.stamp.specs.Front.{stamp_of}
use Rattle.files.specs.Refusals.{Refusal}
use Rattle.files.specs.Refusals.{unless, first}
use Rattle.files.specs.Message.{item_count, refuse3, refuse5, refuse8}
use Rattle.files.specs.TagFile.{file_size, count_of, head_of, refuse6, refuse20}
use Rattle.files.specs.Arguments.{refuse1, refuse2, refuse4, refuse7, refuse9}
use Rattle.tagging.specs.Tagging.{keys_in, tag_head}

-- 21: "counts of shelf and sheet differ"
unfoldable pub refuse21 : List ℕ → List ℕ → Refusal
refuse21 s f = unless (eqb (item_count s) (count_of f)) 21 0

-- 25: "the two numbers differ, right after 21" (document 02, 2.3)
unfoldable pub refuse25 : List ℕ → List ℕ → Refusal
refuse25 s f = unless (eqb (stamp_of s).number (stamp_of f).number) 25 0

-- Tag (keys, size code, shelf): 1, 2, 3, 4, 5, 7
unfoldable pub tag_refusal : List ℕ → ℕ → List ℕ → ℕ → Refusal
tag_refusal keys c s room =
    first (refuse1 (length keys) ∷ refuse2 c ∷ refuse3 s ∷ refuse4 c (item_count s) ∷ refuse5 s ∷ refuse7 (file_size (tag_head c s)) room ∷ [])

-- Verify (keys, shelf, sheet): 1, 3, 5, 6, 20, 21, 25
unfoldable pub verify_refusal : List ℕ → List ℕ → List ℕ → Refusal
verify_refusal keys s f =
    first
    (refuse1 (length keys) ∷ refuse3 s ∷ refuse5 s ∷ refuse6 f ∷ refuse20 (keys_in keys).seal f ∷ refuse21 s f ∷ refuse25 s f ∷ [])

-- Report: as Verify, then 7
unfoldable pub report_refusal : List ℕ → List ℕ → List ℕ → ℕ → Refusal
report_refusal keys s f room = first (verify_refusal keys s f ∷ refuse7 (item_count s) room ∷ [])

-- Replace (keys, sheet, card number, old card, new card): 1, 6, 20, 8, 9, 7
-- 9: "Place in Replace: 1 old, 2 new, old first."
unfoldable pub replace_refusal : List ℕ → List ℕ → ℕ → List ℕ → List ℕ → ℕ → Refusal
replace_refusal keys f j old new room =
    first (refuse1 (length keys) ∷ refuse6 f ∷ refuse20 (keys_in keys).seal f ∷ refuse8 (count_of f) j ∷ refuse9 (length old) 1
    ∷ refuse9 (length new) 2 ∷ refuse7 (file_size (head_of f)) room ∷ [])
