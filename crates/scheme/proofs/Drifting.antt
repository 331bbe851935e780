-- Request 2.14 of Report: two reports with the same keys against one file, whichever, of which neither is refused, are on messages of one count
-- and one number, so that an item of the same bytes has the same hash in both; the rest is the drift theorem of crate incidence. And what it
-- is good for: a jump tells that more items differ, and where no row cancels the bound is met. That it is not empty is Guarantees.antt:
-- other_not_refused.
use Rattle.std.specs.Prelude.{◌≡◌, ◌+◌, ◌*◌, ◌≤◌, ◌<◌}
use Rattle.fips197.proofs.Kit.{refl, sym, ap, ap₂, ◌∙◌, subst, true, false, List, ℕ, arith, length}
use Rattle.blocks.specs.Block.{Bytes, same}
use Rattle.incidence.specs.Count.{count_up_to}
use Rattle.incidence.specs.Family.{Family, holds_one, rows_holding}
use Rattle.incidence.specs.Sum.{row_sum}
use Rattle.incidence.specs.Report.{disagreeing}
use Rattle.incidence.specs.Drift.{ApartAtMost}
use Rattle.incidence.proofs.Covering.{none_held}
use Rattle.incidence.proofs.Drifting.{sum_kept, drifts}
use Rattle.incidence.proofs.Rejects.{drifts_as, jump_tells}
use Rattle.sizes.specs.Sizes.{plane_code, family_of}
use Rattle.sizes.proofs.Laws.{projective}
use Rattle.stamp.specs.Front.{version_of}
use Rattle.files.specs.Refusals.{none}
use Rattle.files.specs.Message.{item_count, item}
use Rattle.files.specs.declared.tagfile.Head.{Head}
use Rattle.files.specs.TagFile.{code_of}
use Rattle.files.proofs.Passing.{given}
use Rattle.tagging.specs.declared.Keys.{Keys}
use Rattle.tagging.specs.Tagging.{keys_in, hashes}
use Rattle.checks.specs.Refused.{report_refusal}
use Rattle.checks.specs.Passed.{Reportable}
use Rattle.checks.proofs.Checking.{reportable, file-count}
use Rattle.scheme.specs.Calls.{stamp_in, sum_from, sum_expanded, agrees, report_rows}
use Rattle.scheme.specs.Claim.{Unaltered, changed, NoneCancels, RowsDrift, DriftClaim}
use Rattle.scheme.proofs.Claiming.{code-says, hash_kept, passed, report_rows_held}
use Rattle.scheme.proofs.Guarantees.{unchanged_self, nothing_cancels, nothing-changed}

-- ---- two reports that are not refused

module _ (keys s t f : List ℕ) (room other : ℕ) (R : Reportable keys s f room) (Q : Reportable keys t f other) where
  abbrev K : Keys
  K = keys_in keys

  abbrev F : Family
  F = family_of (code_of f)

  -- the items of both are hashed under the same stamp
  same_stamp : stamp_in (version_of f) s ≡ stamp_in (version_of f) t
  unfolding stamp_in
  same_stamp = λ i. record { version = version_of f; number = (R.files.numbers ∙ sym Q.files.numbers) i }

  -- a row that holds no item that differs has the same sum, and the file's sum is the same for both
  alike : (i : ℕ) → holds_one F (changed (item s) (item t)) (item_count s) i ≡ false → agrees K s f i ≡ agrees K t f i
  unfolding agrees sum_from
  alike i free =
      ap (λ (x : List ℕ). same x (sum_expanded K f i))
      (sum_kept F (item_count s) _ _ _ (λ j l u. hash_kept K _ _ (item s) (item t) same_stamp j) i free
      ∙ ap (λ (m : ℕ). row_sum F (hashes K (stamp_in (version_of f) t) (item t)) m i) (R.files.counts ∙ sym Q.files.counts))

  rows_drift : RowsDrift s t f (disagreeing (agrees K s f) F.rows) (disagreeing (agrees K t f) F.rows)
  rows_drift =
      drifts_as F (item_count s) _ _ _ _ _ (projective (code_of f))
      (drifts F (item_count s) _ (agrees K s f) (agrees K t f) (λ i l u. alike i) (omega (arith, R.files.counts, file-count f R.files.file)))

-- ---- the claim

pub drift_claim : (keys s f : List ℕ) (room : ℕ) → Reportable keys s f room → (rows : ℕ) → rows ≡ disagreeing (agrees (keys_in keys) s f) (family_of (code_of f)).rows
    → DriftClaim keys s f rows
unfolding report_rows
drift_claim keys s f room R rows e t out z =
    let r = report_refusal keys t f (length out) in
    subst (λ (m : ℕ). RowsDrift s t f m (report_rows keys t f out)) (sym e)
    (subst (RowsDrift s t f _) (given r r refl _ _ z) (rows_drift keys s t f room (length out) R (reportable keys t f (length out) r refl z)))

-- of the definitions: any two reports with the same keys against one file, neither refused
pub reports_drift : (keys s t f out other : List ℕ) → (report_refusal keys s f (length out)).number ≡ 0 → (report_refusal keys t f (length other)).number ≡ 0
    → RowsDrift s t f (report_rows keys s f out) (report_rows keys t f other)
unfolding report_rows
reports_drift keys s t f out other p q =
    let r = report_refusal keys s f (length out) in
    drift_claim keys s f (length out) (reportable keys s f (length out) r refl p) _ (sym (given r r refl _ _ p)) t other q

-- ---- what it is good for

-- On a plane, numbers of rows that are more than kd + 1 apart are those of messages that differ in more than k items, whatever cancels.
pub jump_tells_more : (keys s f : List ℕ) (rows : ℕ) → DriftClaim keys s f rows → (t out : List ℕ) → (report_refusal keys t f (length out)).number ≡ 0
    → plane_code (code_of f) ≡ true → (k : ℕ) → (ApartAtMost (k * (family_of (code_of f)).limit + 1) rows (report_rows keys t f out) → ⊥)
    → k < count_up_to (changed (item s) (item t)) (item_count s)
jump_tells_more keys s f rows D t out z = jump_tells _ _ _ _ _ _ (D t out z)

-- The bound by the rows that hold an item that differs is met where no row cancels: against the unaltered file of the items of t, the numbers
-- for s and for t are just so far apart.
pub bound_met : (keys s t f out other : List ℕ) → Bytes keys → report_refusal keys s f (length out) ≡ none → report_refusal keys t f (length other) ≡ none
    → (h : Head) → Unaltered (keys_in keys) h (item t) f → h.count ≡ item_count t → NoneCancels keys s h (item t)
    → report_rows keys s f out ≡ report_rows keys t f other + rows_holding (family_of (code_of f)) (changed (item t) (item s)) (item_count t)
bound_met keys s t f out other b p q h U count free =
    let many = (passed keys t f other b q).files.counts ∙ sym (passed keys s f out b p).files.counts in
    let same : (j : ℕ) → 1 ≤ j → j ≤ item_count t → changed (item t) (item t) j ≡ false = λ j l u. unchanged_self (item t) j in
    omega (
      arith,
      report_rows_held keys s f out b p h (item t) U (count ∙ many) free,
      report_rows_held keys t f other b q h (item t) U count (nothing_cancels t (item t) same keys h),
      none_held (family_of h.code) (changed (item t) (item t)) (item_count t) (nothing-changed t (item t) same),
      ap₂ (λ (x m : ℕ). rows_holding (family_of x) (changed (item t) (item s)) m) (code-says keys h (item t) f U) many,
    )
