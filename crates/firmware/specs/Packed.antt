-- One 64-bit number for what a call says, so that a refused call touches no memory at all. Bits 0 to 7: the refusal's number, 0 where the
-- call did its work. Refused: bits 8 to 31 are the place. Done: Verify has bit 8 set for yes; Report has the answer in bits 8 to 15
-- (intact 0, named 1, beyond 2), the number named in bits 16 to 31 and the disagreeing rows in bits 32 to 47. Assumes nothing.
use Rattle.std.specs.Prelude.{◌≡◌, Bool, List, ℕ, ◌+◌, ◌*◌, ◌/◌, ◌%◌, length, if◌then◌else◌}
use Rattle.incidence.specs.Count.{indicator}
use Rattle.incidence.specs.Report.{meaning}
use Rattle.incidence.specs.declared.Answer.{Answer}
use Rattle.files.specs.Refusals.{Refusal}
use Rattle.files.specs.Refusals.{passes}
use Rattle.checks.specs.Refused.{report_refusal}
use Rattle.scheme.specs.Calls.{report_answer, report_named, report_rows}
use Rattle.scheme.specs.Claim.{RowsDrift}

-- a refusal; 0 where there is none
unfoldable pub packed : Refusal → ℕ
packed r = r.number + 256 * (r.place % 16777216)

-- what Verify says
unfoldable pub packed_yes : Refusal → Bool → ℕ
packed_yes r same = if passes r then 256 * indicator same else packed r

-- what Report says
unfoldable pub packed_report : Refusal → Answer → ℕ → ℕ → ℕ
packed_report r said names rows = if passes r then 256 * (meaning said).ordinal + 65536 * (names % 65536) + 4294967296 * (rows % 65536) else packed r

-- the number that a report returns
unfoldable pub report_packed : List ℕ → List ℕ → List ℕ → List ℕ → ℕ
report_packed keys s f marks =
    packed_report (report_refusal keys s f (length marks)) (report_answer keys s f marks) (report_named keys s f marks) (report_rows keys s f marks)

-- ---- what C reads from it

unfoldable pub number_in : ℕ → ℕ
number_in w = w % 256

unfoldable pub place_in : ℕ → ℕ
place_in w = w / 256 % 16777216

unfoldable pub yes_in : ℕ → ℕ
yes_in w = w / 256 % 2

unfoldable pub answer_in : ℕ → ℕ
answer_in w = w / 256 % 256

unfoldable pub named_in : ℕ → ℕ
named_in w = w / 65536 % 65536

unfoldable pub rows_in : ℕ → ℕ
rows_in w = w / 4294967296 % 65536

-- C reads this answer, this number of named items and this number of disagreeing rows
pub record ReadsReport (w : ℕ) (said : Answer) (names rows : ℕ) : Type 0 where
  pub answer : answer_in w ≡ (meaning said).ordinal
  pub named : named_in w ≡ names
  pub disagreeing : rows_in w ≡ rows

-- Document 02, 2.14, of the number w that a report on s returned, beside that of every other report with these keys against f
abbrev pub DriftRead : List ℕ → List ℕ → List ℕ → ℕ → Type 0
DriftRead keys s f w = (t marks : List ℕ) → number_in (report_packed keys t f marks) ≡ 0 → RowsDrift s t f (rows_in w) (rows_in (report_packed keys t f marks))
