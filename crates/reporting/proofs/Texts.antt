-- What each function puts is the text that its contract names: refused, or done.
use Rattle.std.specs.Prelude.{◌≡◌, ◌++◌, ◌+◌, ◌-◌, ◌≤◌, if◌then◌else◌}
use Rattle.fips197.proofs.Kit.{sym, ap, ap₂, ◌∙◌, Bool, true, false, List, ℕ, arith, length, get_or, take, drop, length-drop, take_at, take_all}
use Rattle.blocks.specs.Block.{zeros}
use Rattle.blocks.proofs.Slots.{slot-length}
use Rattle.incidence.specs.declared.Answer.{Answer}
use Rattle.files.specs.Refusals.{Refusal}
use Rattle.files.specs.Message.{number16, item_count, item}
use Rattle.files.specs.TagFile.{file_size}
use Rattle.files.proofs.Passing.{given, kept}
use Rattle.tagging.specs.Tagging.{keys_in, tag_sum, tag_file, tag_head}
use Rattle.tagging.proofs.Writing.{file-length}
use Rattle.checks.specs.Refused.{tag_refusal, report_refusal}
use Rattle.scheme.specs.Calls.{tag_writes, report_answer, report_named, report_rows, report_writes}
use Rattle.checks.proofs.Checking.{taggable}
use Rattle.printing.specs.Text.{ascii}
use Rattle.printing.specs.Lines.{limits_line, answer_line, report_lines, refused_line}
use Rattle.printing.proofs.CardLines.{cards_of}
use Rattle.reporting.specs.Printed.{key_bytes, code_byte, first_size, first_message, second_message, readable, report_text, tag_text, printed}

-- the report of the first k marks says what that of all of them says of k cards
pub report_front : (c n : ℕ) (said : Answer) (names rows : ℕ) (marks : List ℕ) (k : ℕ) → k ≤ length marks
    → report_lines c n said names rows (take k marks) (length (take k marks)) ≡ report_lines c n said names rows marks k
unfolding report_lines
report_front c n said names rows marks k l = ap (λ (t : List ℕ). limits_line c n ++ answer_line said names rows ++ t) (cards_of marks k l)

-- ---- the report

module _ (keys : List ℕ) (c n : ℕ) (s f : List ℕ) (r : Refusal) (e : r ≡ report_refusal keys s f 273) where
  abbrev marks : List ℕ
  marks = zeros 273

  abbrev lines : List ℕ
  lines = report_lines c n (report_answer keys s f marks) (report_named keys s f marks) (report_rows keys s f marks) (report_writes keys s f marks) (item_count s)

  pub report_refused : (r.number ≡ 0 → ⊥) → refused_line r ≡ report_text keys c n s f
  unfolding report_text
  report_refused h = ap refused_line e ∙ kept r (report_refusal keys s f 273) e lines (refused_line (report_refusal keys s f 273)) h

  pub report_done : r.number ≡ 0 → (said : Answer) (names rows k : ℕ) (written : List ℕ) → said ≡ report_answer keys s f marks → names ≡ report_named keys s f marks
      → rows ≡ report_rows keys s f marks → written ≡ report_writes keys s f marks → k ≡ item_count s → report_lines c n said names rows written k ≡ report_text keys c n s f
  unfolding report_text
  report_done h said names rows k written ea en er ew ek =
      (λ i. report_lines c n (ea i) (en i) (er i) (ew i) (ek i)) ∙ given r (report_refusal keys s f 273) e lines (refused_line (report_refusal keys s f 273)) h

-- ---- and the tags before it

module _ (keys : List ℕ) (c : ℕ) (s second : List ℕ) (r : Refusal) (e : r ≡ tag_refusal keys c s 1340) where
  abbrev file : List ℕ
  file = tag_file (keys_in keys) (tag_head c s) (item s)

  pub tag_refused : (r.number ≡ 0 → ⊥) → refused_line r ≡ tag_text keys c s second
  unfolding tag_text
  tag_refused h = ap refused_line e ∙ kept r (tag_refusal keys c s 1340) e (report_text keys c (item_count s) second file) (refused_line (tag_refusal keys c s 1340)) h

  pub tag_done : r.number ≡ 0 → (n : ℕ) (f : List ℕ) → n ≡ item_count s → f ≡ file → report_text keys c n second f ≡ tag_text keys c s second
  unfolding tag_text
  tag_done h n f en ef =
      (λ i. report_text keys c (en i) second (ef i)) ∙ given r (tag_refusal keys c s 1340) e (report_text keys c (item_count s) second file) (refused_line (tag_refusal keys c s 1340)) h

  -- the front of the buffer is the tag file
  pub tag_file_lem : r.number ≡ 0 → (end : ℕ) (out : List ℕ) → end ≡ file_size (tag_head c s) → out ≡ tag_writes keys c s (zeros 1340)
      → take (end - 0) out ≡ file
  unfolding tag_writes tag_file keys_in
  tag_file_lem h end out ee eo =
      let T = taggable keys c s 1340 r e h in
      let K = keys_in keys in
      let size : length file ≡ file_size (tag_head c s)
      = file-length K (tag_head c s) (tag_sum K (tag_head c s).stamp (tag_head c s).code (item s) (tag_head c s).count) (slot-length keys 1 (omega (arith, T.keys48))) (slot-length keys 2 (omega (arith, T.keys48))) in
      let long : length file ≡ end - 0 = size ∙ omega (arith, ee) in
      let whole : out ≡ file ++ drop (file_size (tag_head c s)) (zeros 1340) = eo ∙ sym (given r (tag_refusal keys c s 1340) e (file ++ drop (file_size (tag_head c s)) (zeros 1340)) (zeros 1340) h) in
      ap (take (end - 0)) whole ∙ take_at file (drop (file_size (tag_head c s)) (zeros 1340)) (end - 0) long

-- ---- the input

module _ (input : List ℕ) where
  abbrev done : List ℕ
  done = tag_text (key_bytes input) (code_byte input) (first_message input) (second_message input)

  pub printed-not : readable input ≡ false → ascii "unreadable\n" ≡ printed input
  unfolding printed
  printed-not h = sym (ap (λ (t : Bool). if t then done else ascii "unreadable\n") h)

  -- the parts of the input that are handed on, the first message's size being n
  pub printed-so : readable input ≡ true → (n : ℕ) → n ≡ number16 input 49
      → tag_text (take 48 input) (get_or input 48 0) (take (51 + n - 51) (drop 51 input)) (take (length input - (51 + n)) (drop (51 + n) input)) ≡ printed input
  unfolding printed key_bytes code_byte first_message second_message first_size
  printed-so h n e =
      let k : 51 + n - 51 ≡ number16 input 49 = omega (arith, e) in
      let m : 51 + n ≡ 51 + number16 input 49 = omega (arith, e) in
      let l : take (length input - (51 + n)) (drop (51 + n) input) ≡ drop (51 + n) input
      = take_all (length input - (51 + n)) (drop (51 + n) input) (simp length-drop (omega arith)) in
      ap₂ (tag_text (take 48 input) (get_or input 48 0)) (ap (λ (x : ℕ). take x (drop 51 input)) k) (l ∙ ap (λ (x : ℕ). drop x input) m)
      ∙ sym (ap (λ (t : Bool). if t then done else ascii "unreadable\n") h)
