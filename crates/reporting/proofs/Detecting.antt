-- Demand 3 and requests 2.2 and 2.13 of what is printed: where the first message is tagged and the second is a message of as many items with
-- the same number, the lines are those of a report that is not refused (scheme, Guarantees), of which they hold (scheme, Claiming).
use Rattle.std.specs.Prelude.{◌≡◌, ◌≤◌, if◌then◌else◌}
use Rattle.fips197.proofs.Kit.{refl, sym, ap, ◌∙◌, Bool, true, List, ℕ, arith, drop}
use Rattle.blocks.specs.Block.{Bytes, zeros}
use Rattle.blocks.proofs.Xor.{take-bytes, drop-bytes}
use Rattle.sizes.proofs.Laws.{items_few}
use Rattle.stamp.specs.Front.{stamp_of}
use Rattle.files.specs.Refusals.{none}
use Rattle.files.specs.Message.{item_count, item, refuse3, refuse5}
use Rattle.files.specs.TagFile.{stamp_for}
use Rattle.tagging.specs.Tagging.{keys_in, tag_file, tag_head}
use Rattle.checks.specs.Refused.{tag_refusal, report_refusal}
use Rattle.scheme.specs.Calls.{stamp_in, report_answer, report_named, report_rows, report_writes}
use Rattle.checks.proofs.Checking.{taggable}
use Rattle.scheme.proofs.Guarantees.{report_passes, tag_fits, tag_unaltered}
use Rattle.scheme.proofs.Claiming.{report_detects, report_counts, report_names}
use Rattle.printing.specs.Text.{ascii}
use Rattle.printing.specs.Lines.{report_lines}
use Rattle.reporting.specs.Printed.{key_bytes, code_byte, first_size, first_message, second_message, readable, tag_text, printed}
use Rattle.reporting.specs.Detected.{Detected}
use Rattle.reporting.proofs.Texts.{report_done, tag_done}

module _ (input : List ℕ) (bytes : Bytes input) where
  abbrev keys : List ℕ
  keys = key_bytes input

  abbrev code : ℕ
  code = code_byte input

  abbrev first : List ℕ
  first = first_message input

  abbrev second : List ℕ
  second = second_message input

  abbrev file : List ℕ
  file = tag_file (keys_in keys) (tag_head code first) (item first)

  keys_bytes : Bytes keys
  unfolding key_bytes
  keys_bytes = take-bytes 48 input bytes

  first-bytes : Bytes first
  unfolding first_message
  first-bytes = take-bytes (first_size input) (drop 51 input) (drop-bytes 51 input bytes)

  module _ (yes : readable input ≡ true) (tags : tag_refusal keys code first 1340 ≡ none) (head : refuse3 second ≡ none) (whole : refuse5 second ≡ none)
      (same : item_count second ≡ item_count first) (number : (stamp_of second).number ≡ (stamp_of first).number) where
    few : item_count second ≤ 273
    few =
        let T = taggable keys code first 1340 none (sym tags) refl in
        let h = T.high in
        let i = items_few code in
        omega (arith, h, i, same)

    passes_report : report_refusal keys second file 273 ≡ none
    unfolding tag_head stamp_for
    passes_report =
        let T = taggable keys code first 1340 none (sym tags) refl in
        report_passes keys second file keys_bytes T.keys48 head whole (tag_head code first) (item first) (tag_unaltered keys code first 1340 first-bytes tags)
        (tag_fits keys code first 1340 first-bytes tags) (sym same) 273 number few

    abbrev lent : List ℕ
    lent = zeros 273

    text-so : report_lines code (item_count first) (report_answer keys second file lent) (report_named keys second file lent) (report_rows keys second file lent)
        (report_writes keys second file lent) (item_count second) ≡ printed input
    unfolding printed
    text-so =
        report_done keys code (item_count first) second file none (sym passes_report) refl _ _ _ _ _ refl refl refl refl refl
        ∙ tag_done keys code first second none (sym tags) refl (item_count first) file refl refl
        ∙ sym (ap (λ (t : Bool). if t then tag_text keys code first second else ascii "unreadable\n") yes)

    -- every sentence of demand 3 and of both requests holds of what is printed
    pub detected : Detected input
    unfolding tag_head stamp_for stamp_in
    detected =
        let U = tag_unaltered keys code first 1340 first-bytes tags in
        let g = report_detects keys second file lent keys_bytes passes_report (tag_head code first) (item first) U (sym same) in
        record {
          said = report_answer keys second file lent;
          names = report_named keys second file lent;
          rows = report_rows keys second file lent;
          marks = report_writes keys second file lent;
          text = sym text-so;
          number = g.1;
          detects = g.0;
          tallies = report_counts keys second file lent keys_bytes passes_report (tag_head code first) (item first) U (sym same);
          names-covered = report_names keys second file lent keys_bytes passes_report (tag_head code first) (item first) U (sym same);
        }
