-- Document 01, 'Calls and order of checks', with the versions, numbers and vacant places of document 02, 2.3 and 2.5: Tag, Verify, Report and
-- Replace, each as what it answers and what it leaves in the buffer that it is lent, for all inputs. What each refuses is in checks,
-- Refused.antt. Assumes nothing.
use Rattle.std.specs.Prelude.{Bool, false, List, ◌++◌, ℕ, suc, ◌-◌, eqb, length, drop, if◌then◌else◌}
use Rattle.blocks.specs.Block.{same, ◌⊕◌, slot, list_of}
use Rattle.incidence.specs.Sum.{row_sum, expanded}
use Rattle.incidence.specs.Report.{named, number_named, disagreeing, answer}
use Rattle.incidence.specs.declared.Answer.{Answer}
use Rattle.incidence.specs.declared.Answer.TheVariants.{Beyond}
use Rattle.sizes.specs.Sizes.{family_of}
use Rattle.stamp.specs.declared.Stamp.{Stamp}
use Rattle.stamp.specs.Front.{version_of, stamp_of}
use Rattle.files.specs.Refusals.{passes}
use Rattle.files.specs.Message.{item_count, item}
use Rattle.files.specs.TagFile.{file_size, code_of, head_of, tags_in}
use Rattle.keyed.specs.Keyed.{item_hash, tag_of, sum_of_tag}
use Rattle.decoding.specs.Decoding.{marks_of}
use Rattle.tagging.specs.declared.Keys.{Keys}
use Rattle.tagging.specs.Tagging.{keys_in, hashes, tag_sum, file_of, tag_file, tag_head}
use Rattle.checks.specs.Refused.{tag_refusal, verify_refusal, report_refusal, replace_refusal}

-- ---- Tag (keys, size code, shelf): 1, 2, 3, 4, 5, 7. "Writes the sheet."

-- what out holds at the end: "Output goes to the front of a lent buffer; the bytes behind stay."
unfoldable pub tag_writes : List ℕ → ℕ → List ℕ → List ℕ → List ℕ
tag_writes keys c s out =
    if passes (tag_refusal keys c s (length out)) then tag_file (keys_in keys) (tag_head c s) (item s) ++ drop (file_size (tag_head c s)) out else out

-- ---- Verify (keys, shelf, sheet): 1, 3, 5, 6, 20, 21, 25. "Yes when the shelf's tags equal the sheet's, else no."

-- what the items of message s are hashed under in version v: the number is the message's own, and the version is the tag file's. "The sheet's
-- version decides the rule" (2.5).
unfoldable pub stamp_in : ℕ → List ℕ → Stamp
stamp_in v s = record { version = v; number = (stamp_of s).number }

-- the message's tags, one after another
unfoldable pub tags_for : Keys → ℕ → ℕ → List ℕ → List ℕ
tags_for keys v c s = list_of (λ k. tag_of keys.tag (suc k) (tag_sum keys (stamp_in v s) c (item s) (item_count s) (suc k))) (family_of c).tags

unfoldable pub verify_yes : List ℕ → List ℕ → List ℕ → Bool
verify_yes keys s f = if passes (verify_refusal keys s f) then same (tags_for (keys_in keys) (version_of f) (code_of f) s) (tags_in f) else false

-- ---- Report: as Verify, then 7

-- row i's sum from the message
unfoldable pub sum_from : Keys → ℕ → ℕ → List ℕ → ℕ → List ℕ
sum_from keys v c s i = row_sum (family_of c) (hashes keys (stamp_in v s) (item s)) (item_count s) i

-- the sum that tag k of a file was made of: "The sum is had back from a tag by the deciphering."
unfoldable pub sum_tagged : Keys → List ℕ → ℕ → List ℕ
sum_tagged keys f k = sum_of_tag keys.tag k (slot (tags_in f) (k - 1))

-- row i's sum from the file: "had back from its tag or, for a row without one, by its pattern"
unfoldable pub sum_expanded : Keys → List ℕ → ℕ → List ℕ
sum_expanded keys f i = expanded (family_of (code_of f)) (sum_tagged keys f) i

-- whether row i agrees: its "sum from the shelf equals its sum from the sheet"
unfoldable pub agrees : Keys → List ℕ → List ℕ → ℕ → Bool
agrees keys s f i = same (sum_from keys (version_of f) (code_of f) s i) (sum_expanded keys f i)

-- the XOR of tag k's two sums, the one had back from it and the message's: zero where they are equal
unfoldable pub tag_difference : Keys → List ℕ → List ℕ → ℕ → List ℕ
tag_difference keys s f k = sum_tagged keys f k ⊕ tag_sum keys (stamp_in (version_of f) s) (code_of f) (item s) (item_count s) k

-- "Writes n bytes, 1 named and 0 cleared"
unfoldable pub report_writes : List ℕ → List ℕ → List ℕ → List ℕ → List ℕ
report_writes keys s f out =
    if passes (report_refusal keys s f (length out))
    then marks_of (named (family_of (code_of f)) (agrees (keys_in keys) s f)) (item_count s) ++ drop (item_count s) out
    else out

-- the answer; of a refused report, which gives its caller none, Beyond, so that it is not taken for a good one
unfoldable pub report_answer : List ℕ → List ℕ → List ℕ → List ℕ → Answer
report_answer keys s f out =
    if passes (report_refusal keys s f (length out)) then answer (family_of (code_of f)) (agrees (keys_in keys) s f) (item_count s) else Beyond

-- "the number named and the number of rows that disagree", 0 where it refuses
unfoldable pub report_named : List ℕ → List ℕ → List ℕ → List ℕ → ℕ
report_named keys s f out =
    if passes (report_refusal keys s f (length out)) then number_named (family_of (code_of f)) (agrees (keys_in keys) s f) (item_count s) else 0

unfoldable pub report_rows : List ℕ → List ℕ → List ℕ → List ℕ → ℕ
report_rows keys s f out =
    if passes (report_refusal keys s f (length out)) then disagreeing (agrees (keys_in keys) s f) (family_of (code_of f)).rows else 0

-- ---- Replace (keys, sheet, card number, old card, new card): 1, 6, 20, 8, 9, 7

-- "Adds both codes to each tagged row of that card": the sum of tag k, had back and changed. An old or new item without bytes is a vacant
-- place where the file's version says so: "Replace can thus withdraw a card (new length 0) or add one (old length 0)" (2.5).
unfoldable pub replaced_sum : Keys → List ℕ → ℕ → List ℕ → List ℕ → ℕ → List ℕ
replaced_sum keys f j old new k =
    if (family_of (code_of f)).on ((family_of (code_of f)).row_of_tag k) j
    then (sum_tagged keys f k ⊕ item_hash keys.item (stamp_of f) j old) ⊕ item_hash keys.item (stamp_of f) j new
    else sum_tagged keys f k

-- items with the bytes of item j replaced
unfoldable pub replaced_item : (ℕ → List ℕ) → ℕ → List ℕ → ℕ → List ℕ
replaced_item items j new i = if eqb i j then new else items i

-- "and reseals into a second buffer"; "Replace keeps that version", and the number
unfoldable pub replace_writes : List ℕ → List ℕ → ℕ → List ℕ → List ℕ → List ℕ → List ℕ
replace_writes keys f j old new out =
    if passes (replace_refusal keys f j old new (length out))
    then file_of (keys_in keys) (head_of f) (replaced_sum (keys_in keys) f j old new) ++ drop (file_size (head_of f)) out
    else out
