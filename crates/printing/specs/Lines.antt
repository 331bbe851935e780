-- The lines of document 01's report program ('Bench cards'), which the command for people prints too. Assumes nothing.
use Rattle.std.specs.Prelude.{List, [], ◌++◌, ℕ, zero, suc, eqb, get_or, if◌then◌else◌}
use Rattle.incidence.specs.Report.{meaning}
use Rattle.incidence.specs.declared.Answer.{Answer}
use Rattle.sizes.specs.Sizes.{family_of}
use Rattle.files.specs.Refusals.{Refusal}
use Rattle.printing.specs.Text.{ascii, labelled}

-- "Line 1: "cards" and the first shelf's count n, "tags" and t, "limit" and d."
unfoldable pub limits_line : ℕ → ℕ → List ℕ
limits_line c n = labelled "cards " n ++ labelled " tags " (family_of c).tags ++ labelled " limit " (family_of c).limit ++ ascii "\n"

-- "the answer (intact, named or beyond)"
unfoldable pub answer_word : Answer → List ℕ
answer_word said = ascii (meaning said).word

-- "Line 2: the answer, the number named, "rows" and the number of disagreeing rows."
unfoldable pub answer_line : Answer → ℕ → ℕ → List ℕ
answer_line said names rows = answer_word said ++ labelled " " names ++ labelled " rows " rows ++ ascii "\n"

unfoldable pub card_line : ℕ → List ℕ
card_line j = labelled "card " j ++ ascii "\n"

-- card j's line where its mark is 1: "1 named and 0 cleared"
unfoldable pub card_part : ℕ → ℕ → List ℕ
card_part mark j = if eqb mark 1 then card_line j else []

-- "Then for each named card, rising, a line with "card" and its number": of the first n cards, by a report's marks
unfoldable pub card_lines : List ℕ → ℕ → List ℕ
card_lines marks zero = []
card_lines marks (suc k) = card_lines marks k ++ card_part (get_or marks k 0) (suc k)

-- all lines of a report: for size code c and count n, its answer, its two numbers, and its marks of k cards
unfoldable pub report_lines : ℕ → ℕ → Answer → ℕ → ℕ → List ℕ → ℕ → List ℕ
report_lines c n said names rows marks k = limits_line c n ++ answer_line said names rows ++ card_lines marks k

-- "A refusal prints only "refused N place P"."
unfoldable pub refused_line : Refusal → List ℕ
refused_line r = labelled "refused " r.number ++ labelled " place " r.place ++ ascii "\n"
