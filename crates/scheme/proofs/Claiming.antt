-- Demand 3 of Report, and requests 2.2 and 2.13: against an unaltered tag file, a row agrees where the XORs of its old and new hashes are
-- equal; the rest is the detection theorem, the counting theorem and the naming theorem of crate incidence.
use Rattle.std.specs.Prelude.{◌≡◌, ◌∷◌, ◌++◌, ◌⊎◌, ◌-◌, ◌≤◌, ◌<◌, if◌then◌else◌}
use Rattle.fips197.proofs.Kit.{refl, sym, ap, ap₂, ◌∙◌, subst, Bool, true, false, not, List, [], inl, inr, ℕ, zero, suc, arith, le_of_suc-le-suc, eq-or-lt_of_le, eqb, length, get_or, length-append, List·getD-append, get_or_at}
use Rattle.blocks.specs.Block.{Bytes, same}
use Rattle.blocks.proofs.Xor.{same_true, same_eq}
use Rattle.incidence.specs.Count.{count_up_to}
use Rattle.incidence.specs.Count.{indicator}
use Rattle.incidence.specs.Family.{Family, rows_holding}
use Rattle.incidence.specs.Sum.{row_sum}
use Rattle.incidence.specs.Report.{named, number_named, disagreeing, answer}
use Rattle.incidence.specs.Detection.{Detects, QuietRowsAgree, ChangedRowsDisagree}
use Rattle.incidence.specs.Tally.{Tallies}
use Rattle.incidence.specs.Naming.{NamesCovered}
use Rattle.incidence.specs.declared.Answer.{Answer}
use Rattle.incidence.proofs.Booleans.{and_left, and_right, not_both, not_passed, not_failed}
use Rattle.incidence.proofs.Counting.{count_ext}
use Rattle.incidence.proofs.Covering.{item_held, names-covered}
use Rattle.incidence.proofs.Drifting.{sum_kept}
use Rattle.incidence.proofs.Detection.{detects}
use Rattle.incidence.proofs.Rejects.{detects_as, tallies_as, names_covered_as}
use Rattle.incidence.proofs.Tallying.{rows_held, tallies}
use Rattle.sizes.specs.Sizes.{known, plane_code, family_of}
use Rattle.sizes.proofs.Laws.{lawful, projective}
use Rattle.files.specs.Refusals.{none, passes}
use Rattle.files.specs.Message.{item_count, item}
use Rattle.stamp.specs.declared.Stamp.{Stamp}
use Rattle.stamp.specs.Front.{stamp_of}
use Rattle.files.specs.declared.tagfile.Head.{Head}
use Rattle.files.specs.TagFile.{code_of, head_of, count_fits}
use Rattle.files.proofs.Accepted.{code_is, stamp_is}
use Rattle.files.proofs.Passing.{given}
use Rattle.decoding.specs.Decoding.{marks_of}
use Rattle.tagging.specs.declared.Keys.{Keys}
use Rattle.tagging.specs.Tagging.{keys_in, hashes, file_of, tag_file}
use Rattle.scheme.specs.Calls.{stamp_in, sum_from, agrees, report_writes, report_answer, report_named, report_rows}
use Rattle.scheme.specs.Claim.{Unaltered, changed, marked, NoneCancels, Claim, RowClaim, NameClaim}
use Rattle.checks.specs.Refused.{report_refusal}
use Rattle.checks.specs.Passed.{Reportable}
use Rattle.checks.proofs.Checking.{reportable}
use Rattle.scheme.proofs.Unaltered as unaltered
use Rattle.scheme.proofs.Unaltered.{KeyBlocks, key_blocks}

-- ---- the marks written

marks-length : (p : ℕ → Bool) (n : ℕ) → length (marks_of p n) ≡ n
unfolding marks_of
marks-length p zero = refl
marks-length p (suc n) = let e = marks-length p n in length-append (marks_of p n) (indicator (p (suc n)) ∷ []) ∙ omega arith

mark_at : (p : ℕ → Bool) (n : ℕ) (j : ℕ) → j < n → get_or (marks_of p n) j 0 ≡ indicator (p (suc j))
unfolding marks_of
mark_at p zero j h = absurd (omega arith)
mark_at p (suc n) j h = go (mark_at p n j) (eq-or-lt_of_le (le_of_suc-le-suc h))
  where
    go : (j < n → get_or (marks_of p n) j 0 ≡ indicator (p (suc j))) → (j ≡ n) ⊎ (j < n) → get_or (marks_of p n ++ (indicator (p (suc n)) ∷ [])) j 0 ≡ indicator (p (suc j))
    go rest (inl e) = get_or_at (marks_of p n) (indicator (p (suc n))) [] 0 j (marks-length p n ∙ sym e) ∙ ap (λ (m : ℕ). indicator (p (suc m))) (sym e)
    go rest (inr b) = List·getD-append (marks_of p n) (indicator (p (suc n)) ∷ []) 0 j (omega (arith, marks-length p n)) ∙ rest b

bit-one : (b : Bool) → eqb (indicator b) 1 ≡ b
bit-one true = refl
bit-one false = refl

-- an item is marked exactly when the report names it
pub marked_is : (p : ℕ → Bool) (n : ℕ) (rest marks : List ℕ) → marks ≡ marks_of p n ++ rest → (j : ℕ) → 1 ≤ j → j ≤ n → marked marks j ≡ p j
unfolding marked
marked_is p n rest marks e j l u =
    let z : suc (j - 1) ≡ j = omega arith in
    ap (λ (x : ℕ). eqb x 1)
    (ap (λ (x : List ℕ). get_or x (j - 1) 0) e ∙ List·getD-append (marks_of p n) rest 0 (j - 1) (omega (arith, marks-length p n)) ∙ mark_at p n (j - 1) (omega arith))
    ∙ bit-one (p (suc (j - 1))) ∙ ap p z

-- an unaltered file says the size code and the number that it was laid out for
module _ (keys : List ℕ) (h : Head) (old : ℕ → List ℕ) (f : List ℕ) (U : Unaltered (keys_in keys) h old f) where
  pub code-says : code_of f ≡ h.code
  unfolding tag_file file_of
  code-says = ap code_of U.file ∙ code_is (keys_in keys).seal h _ U.stamped

  pub number-says : (stamp_of f).number ≡ h.stamp.number
  unfolding tag_file file_of
  number-says = ap (λ (x : List ℕ). (stamp_of x).number) U.file ∙ ap (λ (x : Stamp). x.number) (stamp_is (keys_in keys).seal h _ U.stamped)

-- an item of the same bytes has the same hash under the same stamp
pub hash_kept : (keys : Keys) (before after : Stamp) (old new : ℕ → List ℕ) → before ≡ after → (j : ℕ) → changed old new j ≡ false
    → hashes keys before old j ≡ hashes keys after new j
unfolding changed hashes
hash_kept keys before after old new e j c =
    let b : same (old j) (new j) ≡ true = not_failed _ (λ z. not_both _ (ap not z) c) in
    ap₂ (λ (st : Stamp) (x : List ℕ). hashes keys st (λ m. x) j) e (same_true (old j) (new j) b)

-- ---- a report that is not refused, against an unaltered file

module _ (keys s f : List ℕ) (room : ℕ) (b : Bytes keys) (R : Reportable keys s f room) (h : Head) (old : ℕ → List ℕ) (U : Unaltered (keys_in keys) h old f)
    (count : h.count ≡ item_count s) where
  abbrev K : Keys
  K = keys_in keys

  B : KeyBlocks K
  B = key_blocks keys b R.files.keys48

  fit : count_fits h.code h.count ≡ true
  fit = ap₂ count_fits (sym (code-says keys h old f U)) (count ∙ R.files.counts) ∙ R.files.file.fits

  abbrev F : Family
  F = family_of h.code

  abbrev n : ℕ
  n = item_count s

  -- the items reported are hashed under the old stamp
  abbrev st : Stamp
  st = stamp_in h.stamp.version s

  same_stamp : st ≡ h.stamp
  unfolding stamp_in
  same_stamp = λ i. record { version = h.stamp.version; number = (R.files.numbers ∙ number-says keys h old f U) i }

  head_is : head_of (tag_file K h old) ≡ h
  head_is = unaltered.head_is K B h U.stamped fit old U.bytes

  -- against the unaltered file, a row agrees where its sum is as it was
  row-agrees : (i : ℕ) → 1 ≤ i → i ≤ F.rows → agrees K s f i ≡ same (row_sum F (hashes K st (item s)) n i) (row_sum F (hashes K h.stamp old) n i)
  unfolding agrees sum_from head_of stamp_of
  row-agrees i l u =
      ap (λ (x : List ℕ). agrees K s x i) U.file
      ∙ ap₂ same (ap (λ (x : Head). row_sum (family_of x.code) (hashes K (stamp_in x.stamp.version s) (item s)) n i) head_is)
      (unaltered.rows_back K B h U.stamped fit old U.bytes i l u ∙ ap (λ (x : ℕ). row_sum F (hashes K h.stamp old) x i) count)

  quiet : QuietRowsAgree F n (changed old (item s)) (agrees K s f)
  quiet i l u free =
      row-agrees i l u ∙ same_eq _ _ (sym (sum_kept F n (changed old (item s)) (hashes K h.stamp old) (hashes K st (item s)) (λ j a b. hash_kept K _ _ old (item s) (sym same_stamp) j) i free))

  loud : NoneCancels keys s h old → ChangedRowsDisagree F n (changed old (item s)) (agrees K s f)
  loud free i l u c =
      let w = item_held F (changed old (item s)) n i c in
      not_passed (agrees K s f i) (λ t. free i (record {
        low = l;
        high = u;
        at = w.at;
        at_low = w.low;
        at_high = w.high;
        changes = and_right (F.on i w.at) _ w.passes;
        holds = and_left (F.on i w.at) _ w.passes;
        equal = sym (same_true _ _ (sym (row-agrees i l u) ∙ t));
      }))

  pub is_known : known h.code ≡ true
  is_known = unaltered.fit_code K B h U.stamped fit old U.bytes

  pub many : n ≤ F.items
  many = subst (λ (x : ℕ). x ≤ F.items) count (unaltered.fit_count K B h U.stamped fit old U.bytes)

  -- the items marked are those that the report names
  marks-named : (marks rest : List ℕ) → marks ≡ marks_of (named (family_of (code_of f)) (agrees K s f)) n ++ rest
      → (j : ℕ) → 1 ≤ j → j ≤ n → marked marks j ≡ named F (agrees K s f) j
  marks-named marks rest em =
      marked_is (named F (agrees K s f)) n rest marks (em ∙ ap (λ (x : ℕ). marks_of (named (family_of x) (agrees K s f)) n ++ rest) (code-says keys h old f U))

  claimed : (marks rest : List ℕ) (names : ℕ) (said : Answer)
      → marks ≡ marks_of (named (family_of (code_of f)) (agrees K s f)) n ++ rest
      → names ≡ number_named (family_of (code_of f)) (agrees K s f) n
      → said ≡ answer (family_of (code_of f)) (agrees K s f) n
      → Detects F.limit n (NoneCancels keys s h old) (changed old (item s)) (marked marks) said
      × (names ≡ count_up_to (marked marks) n)
  unfolding number_named
  claimed marks rest names said em en es =
      let A = agrees K s f in
      let a = es ∙ ap (λ (x : ℕ). answer (family_of x) A n) (code-says keys h old f U) in
      let k = en ∙ ap (λ (x : ℕ). number_named (family_of x) A n) (code-says keys h old f U) in (
        subst (λ (x : Answer). Detects F.limit n (NoneCancels keys s h old) (changed old (item s)) (marked marks) x) (sym a)
            (detects_as F.limit n _ _ (changed old (item s)) (named F A) (marked marks) (answer F A n) loud (marks-named marks rest em)
            (detects F (lawful h.code is_known) n many (changed old (item s)) A quiet)),
        k ∙ sym (count_ext (marked marks) (named F A) n (marks-named marks rest em)),
      )

  -- the rows that disagree, of the size that the file was laid out for
  rows_say : (rows : ℕ) → rows ≡ disagreeing (agrees K s f) (family_of (code_of f)).rows → rows ≡ disagreeing (agrees K s f) F.rows
  rows_say rows er = er ∙ ap (λ (x : ℕ). disagreeing (agrees K s f) (family_of x).rows) (code-says keys h old f U)

  tallied : plane_code h.code ≡ true → (rows : ℕ) → rows ≡ disagreeing (agrees K s f) (family_of (code_of f)).rows
      → Tallies F.limit n (NoneCancels keys s h old) (changed old (item s)) rows
  tallied plane rows er =
      subst (Tallies F.limit n (NoneCancels keys s h old) (changed old (item s))) (sym (rows_say rows er))
      (tallies_as F.limit n _ _ (changed old (item s)) _ loud (tallies F (projective h.code plane) n many (changed old (item s)) (agrees K s f) quiet))

  rows_counted : NoneCancels keys s h old → (rows : ℕ) → rows ≡ disagreeing (agrees K s f) (family_of (code_of f)).rows → rows ≡ rows_holding F (changed old (item s)) n
  rows_counted free rows er = rows_say rows er ∙ rows_held F n (changed old (item s)) (agrees K s f) quiet (loud free)

  covers : (marks rest : List ℕ) → marks ≡ marks_of (named (family_of (code_of f)) (agrees K s f)) n ++ rest
      → NamesCovered F n (NoneCancels keys s h old) (changed old (item s)) (marked marks)
  covers marks rest em =
      names_covered_as F n _ _ (changed old (item s)) (named F (agrees K s f)) (marked marks) loud (marks-named marks rest em)
      (names-covered F n (changed old (item s)) (agrees K s f) quiet)

-- ---- the claims

module _ (keys s f : List ℕ) (room : ℕ) (b : Bytes keys) (R : Reportable keys s f room) where
  pub claim : (marks rest : List ℕ) (names : ℕ) (said : Answer)
      → marks ≡ marks_of (named (family_of (code_of f)) (agrees (keys_in keys) s f)) (item_count s) ++ rest
      → names ≡ number_named (family_of (code_of f)) (agrees (keys_in keys) s f) (item_count s)
      → said ≡ answer (family_of (code_of f)) (agrees (keys_in keys) s f) (item_count s)
      → Claim keys s f marks names said
  claim marks rest names said em en es h old U count = claimed keys s f room b R h old U count marks rest names said em en es

  pub row_claim : (rows : ℕ) → rows ≡ disagreeing (agrees (keys_in keys) s f) (family_of (code_of f)).rows → RowClaim keys s f rows
  row_claim rows er h old U count plane = tallied keys s f room b R h old U count plane rows er

  pub name_claim : (marks rest : List ℕ) → marks ≡ marks_of (named (family_of (code_of f)) (agrees (keys_in keys) s f)) (item_count s) ++ rest → NameClaim keys s f marks
  name_claim marks rest em h old U count = covers keys s f room b R h old U count marks rest em

-- ---- and of the definitions, wherever a report is not refused

module _ (keys s f out : List ℕ) (b : Bytes keys) (e : report_refusal keys s f (length out) ≡ none) where
  pub passed : Reportable keys s f (length out)
  passed = reportable keys s f (length out) none (sym e) refl

  -- what is written where nothing is refused
  done : {A : Type 0} (x y : A) → (if passes (report_refusal keys s f (length out)) then x else y) ≡ x
  done x y = sym (given none (report_refusal keys s f (length out)) (sym e) x y refl)

  pub report_detects : Claim keys s f (report_writes keys s f out) (report_named keys s f out) (report_answer keys s f out)
  unfolding report_writes report_named report_answer
  report_detects = claim keys s f (length out) b passed _ _ _ _ (done _ _) (done _ _) (done _ _)

  pub report_counts : RowClaim keys s f (report_rows keys s f out)
  unfolding report_rows
  report_counts = row_claim keys s f (length out) b passed _ (done _ _)

  pub report_names : NameClaim keys s f (report_writes keys s f out)
  unfolding report_writes
  report_names = name_claim keys s f (length out) b passed _ _ (done _ _)

  -- where no row cancels, the rows that disagree are those that hold a changed item, at every size
  pub report_rows_held : (h : Head) (old : ℕ → List ℕ) → Unaltered (keys_in keys) h old f → h.count ≡ item_count s → NoneCancels keys s h old
      → report_rows keys s f out ≡ rows_holding (family_of h.code) (changed old (item s)) (item_count s)
  unfolding report_rows
  report_rows_held h old U count free = rows_counted keys s f (length out) b passed h old U count free _ (done _ _)
