-- Demand 3 of document 00, in document 01's 'Words of demand 3', for one report: what holds of the bytes that it wrote and of its answer,
-- whatever was done to the items. `Detects` (crate incidence) has a field for each sentence of the demand. And in the same words three requests
-- of document 02: 2.2, of the number of rows that it returned (`Tallies`), 2.13, of the marks (`NamesCovered`), with the items after a reload,
-- and 2.14, of that number beside another report's (`Drifts`). Assumes nothing.
use Rattle.std.specs.Prelude.{◌≡◌, Bool, true, not, List, ℕ, ◌-◌, ◌≤◌, eqb, length, get_or, if◌then◌else◌}
use Rattle.blocks.specs.Block.{Bytes, same}
use Rattle.incidence.specs.Count.{count_up_to}
use Rattle.incidence.specs.Family.{Family}
use Rattle.incidence.specs.Sum.{row_sum}
use Rattle.incidence.specs.Detection.{Detects}
use Rattle.incidence.specs.Tally.{Tallies}
use Rattle.incidence.specs.Naming.{NamesCovered}
use Rattle.incidence.specs.Drift.{Drifts}
use Rattle.incidence.specs.declared.Answer.{Answer}
use Rattle.sizes.specs.Sizes.{plane_code, family_of}
use Rattle.files.specs.Message.{item_count, item}
use Rattle.stamp.specs.declared.Stamp.{Stamp}
use Rattle.stamp.specs.Front.{stamp_fits}
use Rattle.files.specs.declared.tagfile.Head.{Head}
use Rattle.files.specs.TagFile.{newest_tag_file, code_of}
use Rattle.tagging.specs.declared.Keys.{Keys}
use Rattle.tagging.specs.Tagging.{keys_in, hashes, tag_file}
use Rattle.checks.specs.Refused.{report_refusal}
use Rattle.scheme.specs.Calls.{stamp_in, report_rows}

-- "The unaltered sheet of a shelf, for given keys and size, is laid out for that shelf and size with the tags that Tag's rule gives, and sealed
-- under those keys, whichever call wrote it": f is it, for the items `old`, in the version and with the number that h says. "A version 1 sheet
-- can be the unaltered sheet only of a shelf whose number is 0" (stamp_fits).
pub record Unaltered (keys : Keys) (h : Head) (old : ℕ → List ℕ) (f : List ℕ) : Type 0 where
  pub stamped : stamp_fits newest_tag_file h.stamp ≡ true
  pub bytes : (j : ℕ) → 1 ≤ j → j ≤ h.count → Bytes (old j)
  pub file : f ≡ tag_file keys h old

-- "A card has changed when that shelf and the shelf reported hold different bytes under its number." Hence "filled against vacant counted as
-- a change" (document 02, 2.5): one of the two has no bytes.
unfoldable pub changed : (ℕ → List ℕ) → (ℕ → List ℕ) → ℕ → Bool
changed old new j = not (same (old j) (new j))

-- "A row cancels when it holds a changed card and the XOR of its cards' old codes equals that of their new ones": the old codes are taken
-- under the number of the old message, and the new ones under that of the message reported, both in the tag file's version, "with a
-- vacancy's code read as zero" (2.5).
pub record RowCancels (F : Family) (keys : Keys) (before after : Stamp) (old new : ℕ → List ℕ) (n i : ℕ) : Type 0 where
  pub low : 1 ≤ i
  pub high : i ≤ F.rows
  pub at : ℕ
  pub at_low : 1 ≤ at
  pub at_high : at ≤ n
  pub changes : changed old new at ≡ true
  pub holds : F.on i at ≡ true
  pub equal : row_sum F (hashes keys before old) n i ≡ row_sum F (hashes keys after new) n i

abbrev pub NoRowCancels : Family → Keys → Stamp → Stamp → (ℕ → List ℕ) → (ℕ → List ℕ) → ℕ → Type 0
NoRowCancels F keys before after old new n = (i : ℕ) → RowCancels F keys before after old new n i → ⊥

-- "A card is named when Report writes 1 for it."
unfoldable pub marked : List ℕ → ℕ → Bool
marked marks j = eqb (get_or marks (j - 1) 0) 1

-- ---- what is claimed of a report with these keys, on message s and tag file f

-- Against an unaltered tag file: for every version, number and size code and all old items of the same count, where f is the unaltered tag
-- file of the old items under these keys. Nothing is asked of the two numbers: that they are equal wherever a report is not refused is a
-- theorem (proofs/Guarantees.antt: same_number).
abbrev pub Against : List ℕ → List ℕ → List ℕ → (Head → (ℕ → List ℕ) → Type 0) → Type 0
Against keys s f holds = (h : Head) (old : ℕ → List ℕ) → Unaltered (keys_in keys) h old f → h.count ≡ item_count s → holds h old

-- no row cancels between the old items and those of s
abbrev pub NoneCancels : List ℕ → List ℕ → Head → (ℕ → List ℕ) → Type 0
NoneCancels keys s h old =
    NoRowCancels (family_of h.code) (keys_in keys) h.stamp (stamp_in h.stamp.version s) old (item s) (item_count s)

-- Demand 3, of the marks written, the number of named items returned and the answer. The number returned is that of the items named.
abbrev pub Claim : List ℕ → List ℕ → List ℕ → List ℕ → ℕ → Answer → Type 0
Claim keys s f marks names said =
    Against keys s f
    (λ h old. Detects (family_of h.code).limit (item_count s) (NoneCancels keys s h old) (changed old (item s)) (marked marks) said
    × (names ≡ count_up_to (marked marks) (item_count s)))

-- Document 02, 2.2, of the number of disagreeing rows returned: "ticket 2.2's exact counts are for planes" (2.7).
abbrev pub RowClaim : List ℕ → List ℕ → List ℕ → ℕ → Type 0
RowClaim keys s f rows =
    Against keys s f
    (λ h old. plane_code h.code ≡ true → Tallies (family_of h.code).limit (item_count s) (NoneCancels keys s h old) (changed old (item s)) rows)

-- Document 02, 2.13, of the marks written, at every size: "It covers planes and the affine family."
abbrev pub NameClaim : List ℕ → List ℕ → List ℕ → List ℕ → Type 0
NameClaim keys s f marks =
    Against keys s f
    (λ h old. NamesCovered (family_of h.code) (item_count s) (NoneCancels keys s h old) (changed old (item s)) (marked marks))

-- ---- what is claimed of two reports against one tag file, whichever: nothing is asked of it but that neither is refused

-- Document 02, 2.14, "against one sheet and with the same keys": the numbers of disagreeing rows returned for the messages s and t
abbrev pub RowsDrift : List ℕ → List ℕ → List ℕ → ℕ → ℕ → Type 0
RowsDrift s t f rows others = Drifts (family_of (code_of f)) (item_count s) (plane_code (code_of f) ≡ true) (changed (item s) (item t)) rows others

-- of the number that a report on s returned, beside that of every other report with these keys against f
abbrev pub DriftClaim : List ℕ → List ℕ → List ℕ → ℕ → Type 0
DriftClaim keys s f rows = (t out : List ℕ) → (report_refusal keys t f (length out)).number ≡ 0 → RowsDrift s t f rows (report_rows keys t f out)

-- ---- what to do with a list of named items

-- the items after a reload: each one named has its old bytes back, and the others are as they were
unfoldable pub reloaded : List ℕ → (ℕ → List ℕ) → (ℕ → List ℕ) → ℕ → List ℕ
reloaded marks old new j = if marked marks j then old j else new j
