-- Demand 3 of document 00, and requests 2.2 and 2.13 of document 02, of what the report program prints: the lines of a report for which every
-- sentence of the three holds, with the first message's items as the old ones and the second's as the new, each under its message's number.
-- Assumes nothing.
use Rattle.std.specs.Prelude.{◌≡◌, Bool, true, List, ℕ}
use Rattle.incidence.specs.Count.{count_up_to}
use Rattle.incidence.specs.Detection.{Detects}
use Rattle.incidence.specs.Tally.{Tallies}
use Rattle.incidence.specs.Naming.{NamesCovered}
use Rattle.incidence.specs.declared.Answer.{Answer}
use Rattle.sizes.specs.Sizes.{plane_code, family_of}
use Rattle.files.specs.Message.{item_count, item}
use Rattle.tagging.specs.Tagging.{tag_head}
use Rattle.scheme.specs.Claim.{changed, marked, NoneCancels}
use Rattle.printing.specs.Lines.{report_lines}
use Rattle.reporting.specs.Printed.{key_bytes, code_byte, first_message, second_message, printed}

-- whether item j differs between the two messages, and that no row cancels between them
abbrev pub changed_in : List ℕ → ℕ → Bool
changed_in input = changed (item (first_message input)) (item (second_message input))

abbrev pub NoneCancelsIn : List ℕ → Type 0
NoneCancelsIn input = NoneCancels (key_bytes input) (second_message input) (tag_head (code_byte input) (first_message input)) (item (first_message input))

pub record Detected (input : List ℕ) : Type 0 where
  pub said : Answer
  pub names : ℕ
  pub rows : ℕ
  pub marks : List ℕ
  pub text : printed input ≡ report_lines (code_byte input) (item_count (first_message input)) said names rows marks (item_count (second_message input))
  pub number : names ≡ count_up_to (marked marks) (item_count (second_message input))
  pub detects : Detects (family_of (code_byte input)).limit (item_count (second_message input)) (NoneCancelsIn input) (changed_in input) (marked marks) said
  pub tallies :
      plane_code (code_byte input) ≡ true → Tallies (family_of (code_byte input)).limit (item_count (second_message input)) (NoneCancelsIn input) (changed_in input) rows
  pub names-covered : NamesCovered (family_of (code_byte input)) (item_count (second_message input)) (NoneCancelsIn input) (changed_in input) (marked marks)
