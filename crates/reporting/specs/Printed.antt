-- Document 01, 'Bench cards': what the report program prints, for every input. Assumes nothing.
use Rattle.std.specs.Prelude.{Bool, ◌&&◌, List, ℕ, ◌+◌, leb, length, get_or, take, drop, if◌then◌else◌}
use Rattle.blocks.specs.Block.{zeros}
use Rattle.files.specs.Refusals.{passes}
use Rattle.files.specs.Message.{number16, item_count, item}
use Rattle.tagging.specs.Tagging.{keys_in, tag_file, tag_head}
use Rattle.checks.specs.Refused.{tag_refusal, report_refusal}
use Rattle.scheme.specs.Calls.{report_answer, report_named, report_rows, report_writes}
use Rattle.printing.specs.Text.{ascii}
use Rattle.printing.specs.Lines.{report_lines, refused_line}

-- "The report program reads 48 key bytes, a size code, a 2-byte length, a first shelf of that length, then a second shelf to the end."
unfoldable pub key_bytes : List ℕ → List ℕ
key_bytes input = take 48 input

unfoldable pub code_byte : List ℕ → ℕ
code_byte input = get_or input 48 0

unfoldable pub first_size : List ℕ → ℕ
first_size input = number16 input 49

unfoldable pub first_message : List ℕ → List ℕ
first_message input = take (first_size input) (drop 51 input)

unfoldable pub second_message : List ℕ → List ℕ
second_message input = drop (51 + first_size input) input

-- not "Input under 51 or over 65,536 bytes, or a length past the end"
unfoldable pub readable : List ℕ → Bool
readable input = leb 51 (length input) && (leb (length input) 65536 && leb (51 + first_size input) (length input))

-- "It .. reports the second": message s against tag file f, for size code c and the first message's count n; the marks go to 273 zeros.
-- "A refusal prints only "refused N place P"."
unfoldable pub report_text : List ℕ → ℕ → ℕ → List ℕ → List ℕ → List ℕ
report_text keys c n s f =
    let marks = zeros 273 in
    if passes (report_refusal keys s f 273)
    then report_lines c n (report_answer keys s f marks) (report_named keys s f marks) (report_rows keys s f marks) (report_writes keys s f marks) (item_count s)
    else refused_line (report_refusal keys s f 273)

-- "It tags the first and reports the second."
unfoldable pub tag_text : List ℕ → ℕ → List ℕ → List ℕ → List ℕ
tag_text keys c s second =
    if passes (tag_refusal keys c s 1340)
    then report_text keys c (item_count s) second (tag_file (keys_in keys) (tag_head c s) (item s))
    else refused_line (tag_refusal keys c s 1340)

-- "Input under 51 or over 65,536 bytes, or a length past the end, prints only "unreadable"."
unfoldable pub printed : List ℕ → List ℕ
printed input =
    if readable input
    then tag_text (key_bytes input) (code_byte input) (first_message input) (second_message input)
    else ascii "unreadable\n"
