-- What was packed is read back, and what each function packs.
use Rattle.std.specs.Prelude.{◌≡◌, ◌+◌, ◌*◌, ◌/◌, ◌%◌, ◌≤◌, ◌<◌}
use Rattle.fips197.proofs.Kit.{refl, sym, ap, ◌∙◌, subst, Bool, true, false, not, List, ℕ, arith, eqb, length, eqb-true, eqb-false}
use Rattle.incidence.specs.Count.{indicator}
use Rattle.incidence.specs.Report.{named, number_named, disagreeing, meaning}
use Rattle.incidence.specs.declared.Answer.{Answer}
use Rattle.incidence.specs.declared.Answer.TheVariants.{Intact, Named, Beyond}
use Rattle.incidence.proofs.Counting.{count_most}
use Rattle.sizes.specs.Sizes.{family_of}
use Rattle.sizes.proofs.Laws.{items_few, rows_few}
use Rattle.std.specs.Prelude.{Result, Ok, Err, IfOk, OnOk}
use Rattle.files.specs.declared.refusals.Refused.{Refused}
use Rattle.files.specs.Refusals.{Refusal, told}
use Rattle.files.specs.Message.{item_count}
use Rattle.files.specs.TagFile.{code_of}
use Rattle.tagging.specs.Tagging.{keys_in}
use Rattle.files.proofs.Passing.{given, kept, number-low}
use Rattle.checks.specs.Refused.{report_refusal}
use Rattle.scheme.specs.Calls.{agrees, report_answer, report_named, report_rows}
use Rattle.scheme.specs.Claim.{Claim, RowClaim, RowsDrift, DriftClaim}
use Rattle.decoding.specs.declared.Decoded.{Decoded}
use Rattle.checks.specs.Passed.{Reportable}
use Rattle.checks.proofs.Checking.{reportable, file-count}
use Rattle.firmware.specs.Packed.{packed, packed_yes, packed_report, report_packed, number_in, place_in, yes_in, answer_in, named_in, rows_in, ReadsReport, DriftRead}
use Rattle.firmware.proofs.Places.{report_number}

-- ---- refusals

module _ (r : Refusal) (small : r.number < 256) where
  pub number_back : number_in (packed r) ≡ r.number
  unfolding number_in packed
  number_back = omega arith

  pub place_back : r.place < 16777216 → place_in (packed r) ≡ r.place
  unfolding place_in packed
  place_back h = omega arith

-- ---- Verify and Report, done or refused

pub ordinal_small : (a : Answer) → (meaning a).ordinal ≤ 2
ordinal_small Intact = omega arith
ordinal_small Named = omega arith
ordinal_small Beyond = omega arith

-- the ordinal tells the answer
pub ordinal_tells : (a b : Answer) → (meaning a).ordinal ≡ (meaning b).ordinal → a ≡ b
ordinal_tells Intact Intact e = refl
ordinal_tells Intact Named e = absurd (omega arith)
ordinal_tells Intact Beyond e = absurd (omega arith)
ordinal_tells Named Intact e = absurd (omega arith)
ordinal_tells Named Named e = refl
ordinal_tells Named Beyond e = absurd (omega arith)
ordinal_tells Beyond Intact e = absurd (omega arith)
ordinal_tells Beyond Named e = absurd (omega arith)
ordinal_tells Beyond Beyond e = refl

pub yes_done : (r : Refusal) (t : Bool) → r.number ≡ 0 → 256 * indicator t ≡ packed_yes r t
unfolding packed_yes
yes_done r t h = given r r refl (256 * indicator t) (packed r) h

pub yes_refused : (r : Refusal) (t : Bool) → (r.number ≡ 0 → ⊥) → packed r ≡ packed_yes r t
unfolding packed_yes
yes_refused r t h = kept r r refl (256 * indicator t) (packed r) h

module _ (r : Refusal) (said : Answer) (names rows : ℕ) where
  pub report_done : r.number ≡ 0 → 256 * (meaning said).ordinal + 65536 * (names % 65536) + 4294967296 * (rows % 65536) ≡ packed_report r said names rows
  unfolding packed_report
  report_done h = given r r refl (256 * (meaning said).ordinal + 65536 * (names % 65536) + 4294967296 * (rows % 65536)) (packed r) h

  pub report_refused : (r.number ≡ 0 → ⊥) → packed r ≡ packed_report r said names rows
  unfolding packed_report
  report_refused h = kept r r refl (256 * (meaning said).ordinal + 65536 * (names % 65536) + 4294967296 * (rows % 65536)) (packed r) h

  -- number 0 is read exactly where there is no refusal
  pub report_passes : r.number < 256 → number_in (packed_report r said names rows) ≡ 0 → r.number ≡ 0
  report_passes small e = go (eqb r.number 0) refl
    where
      go : (t : Bool) → eqb r.number 0 ≡ t → r.number ≡ 0
      go true q = eqb-true r.number 0 q
      go false q = sym (number_back r small) ∙ ap number_in (report_refused (eqb-false r.number 0 q)) ∙ e

  pub answer_back : r.number ≡ 0 → answer_in (packed_report r said names rows) ≡ (meaning said).ordinal
  unfolding answer_in
  answer_back h = let l = ordinal_small said in ap (λ (w : ℕ). w / 256 % 256) (sym (report_done h)) ∙ omega arith

  pub named_back : r.number ≡ 0 → names < 65536 → named_in (packed_report r said names rows) ≡ names
  unfolding named_in
  named_back h s = let l = ordinal_small said in ap (λ (w : ℕ). w / 65536 % 65536) (sym (report_done h)) ∙ omega arith

  pub rows_back : r.number ≡ 0 → rows < 65536 → rows_in (packed_report r said names rows) ≡ rows
  unfolding rows_in
  rows_back h s = let l = ordinal_small said in ap (λ (w : ℕ). w / 4294967296 % 65536) (sym (report_done h)) ∙ omega arith

pub yes_back : (r : Refusal) (t : Bool) → r.number ≡ 0 → yes_in (packed_yes r t) ≡ indicator t
unfolding yes_in
yes_back r t h = ap (λ (w : ℕ). w / 256 % 2) (sym (yes_done r t h)) ∙ go t
  where
    go : (t : Bool) → 256 * indicator t / 256 % 2 ≡ indicator t
    go true = refl
    go false = refl

pub packed_is : (keys s f marks : List ℕ) (r : Refusal) (a : Answer) (names rows : ℕ) → r ≡ report_refusal keys s f (length marks) → a ≡ report_answer keys s f marks
    → names ≡ report_named keys s f marks → rows ≡ report_rows keys s f marks → packed_report r a names rows ≡ report_packed keys s f marks
unfolding report_packed
packed_is keys s f marks r a names rows er ea en em = λ i. packed_report (er i) (ea i) (en i) (em i)

-- ---- demand 3 and requests 2.2 and 2.14 as C reads them

-- few enough to fit their bits
names_few : (keys s f out : List ℕ) → Reportable keys s f (length out) → number_named (family_of (code_of f)) (agrees (keys_in keys) s f) (item_count s) < 65536
unfolding number_named
names_few keys s f out R =
    let q = R.files in
    omega (arith, count_most (named (family_of (code_of f)) (agrees (keys_in keys) s f)) (item_count s), q.counts, file-count f q.file, items_few (code_of f))

rows_small : (keys s f : List ℕ) → disagreeing (agrees (keys_in keys) s f) (family_of (code_of f)).rows < 65536
unfolding disagreeing
rows_small keys s f = omega (arith, count_most (λ i. not (agrees (keys_in keys) s f i)) (family_of (code_of f)).rows, rows_few (code_of f))

module _ (keys s f before : List ℕ) (r : Refusal) (a : Answer) (names rows w : ℕ) (er : r ≡ report_refusal keys s f (length before)) (ea : a ≡ report_answer keys s f before)
    (en : names ≡ report_named keys s f before) (em : rows ≡ report_rows keys s f before) (ew : w ≡ packed_report r a names rows)
    (z : number_in w ≡ 0 → r.number ≡ 0) (e : number_in w ≡ 0) where
  -- what is packed is read back
  pub report_read : ReadsReport w (report_answer keys s f before) (report_named keys s f before) (report_rows keys s f before)
  unfolding report_named report_rows
  report_read =
      let h = z e in
      let R = reportable keys s f (length before) r er h in
      let n = en ∙ sym (given r (report_refusal keys s f (length before)) er _ 0 h) in
      let m = em ∙ sym (given r (report_refusal keys s f (length before)) er _ 0 h) in
      record {
        answer = ap answer_in ew ∙ answer_back r a names rows h ∙ ap (λ (x : Answer). (meaning x).ordinal) ea;
        named = ap named_in ew ∙ named_back r a names rows h (subst (λ (x : ℕ). x < 65536) (sym n) (names_few keys s f before R)) ∙ en;
        disagreeing = ap rows_in ew ∙ rows_back r a names rows h (subst (λ (x : ℕ). x < 65536) (sym m) (rows_small keys s f)) ∙ em;
      }

  pub claim_packed : (marks : List ℕ) → (r.number ≡ 0 → Claim keys s f marks names a) → (said : Answer) → (meaning said).ordinal ≡ answer_in w → Claim keys s f marks (named_in w) said
  claim_packed marks D said es =
      let R = report_read in
      let t = ordinal_tells said a (es ∙ R.answer ∙ ap (λ (x : Answer). (meaning x).ordinal) (sym ea)) in
      subst (λ (x : Answer). Claim keys s f marks (named_in w) x) (sym t) (subst (λ (x : ℕ). Claim keys s f marks x a) (en ∙ sym R.named) (D (z e)))

  pub rows_as_read : rows ≡ rows_in w
  rows_as_read = em ∙ sym report_read.disagreeing

  pub rows-packed : (r.number ≡ 0 → RowClaim keys s f rows) → RowClaim keys s f (rows_in w)
  rows-packed D = subst (RowClaim keys s f) rows_as_read (D (z e))

-- what holds of a report's result holds of the numbers that are packed, where it does not refuse
module _ (r : Result Decoded Refused) (z : (told r).number ≡ 0) where
  pub ok_claim : (keys s f marks : List ℕ) (a : Answer) (names : ℕ) → IfOk r (λ x. x.answer ≡ a) → IfOk r (λ x. x.named ≡ names)
      → IfOk r (λ x. Claim keys s f marks x.named x.answer) → Claim keys s f marks names a
  ok_claim keys s f marks a names ea en D = go r z ea en D
    where
      go : (r : Result Decoded Refused) → (told r).number ≡ 0 → IfOk r (λ x. x.answer ≡ a) → IfOk r (λ x. x.named ≡ names)
          → IfOk r (λ x. Claim keys s f marks x.named x.answer) → Claim keys s f marks names a
      go (Ok x) z ea en D = subst (λ (b : Answer). Claim keys s f marks names b) ea (subst (λ (n : ℕ). Claim keys s f marks n x.answer) en D)
      go (Err d) z ea en D = let l = number-low d.reason in absurd (omega arith)

  pub ok_rows : (P : ℕ → Type 0) (rows : ℕ) → IfOk r (λ x. x.rows ≡ rows) → IfOk r (λ x. P x.rows) → P rows
  ok_rows P rows em D = go r z em D
    where
      go : (r : Result Decoded Refused) → (told r).number ≡ 0 → IfOk r (λ x. x.rows ≡ rows) → IfOk r (λ x. P x.rows) → P rows
      go (Ok x) z em D = subst P em D
      go (Err d) z em D = let l = number-low d.reason in absurd (omega arith)

  pub ok_marks : (N : Type 0) → OnOk r N → N
  ok_marks N D = go r z D
    where
      go : (r : Result Decoded Refused) → (told r).number ≡ 0 → OnOk r N → N
      go (Ok x) z D = D
      go (Err d) z D = let l = number-low d.reason in absurd (omega arith)

-- the rows of any other report, read from its number
rows_read : (keys s f marks : List ℕ) → number_in (report_packed keys s f marks) ≡ 0
    → ((report_refusal keys s f (length marks)).number ≡ 0) × (rows_in (report_packed keys s f marks) ≡ report_rows keys s f marks)
unfolding report_packed
rows_read keys s f marks e =
    let z = report_passes (report_refusal keys s f (length marks)) (report_answer keys s f marks) (report_named keys s f marks) (report_rows keys s f marks) (report_number keys s f (length marks)) in
    (z e, (report_read keys s f marks _ _ _ _ _ refl refl refl refl refl z e).disagreeing)

-- and so 2.14 of the two
pub drift_read : (keys s f : List ℕ) (rows w : ℕ) → rows ≡ rows_in w → DriftClaim keys s f rows → DriftRead keys s f w
drift_read keys s f rows w e D t marks z =
    let q = rows_read keys t f marks z in
    subst (λ (x : ℕ). RowsDrift s t f x (rows_in (report_packed keys t f marks))) e (subst (RowsDrift s t f rows) (sym q.1) (D t marks q.0))
