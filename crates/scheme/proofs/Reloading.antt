-- What a list of named items is good for (document 02, 2.13), of a report against the unaltered file of the old items, where no row cancels:
-- every changed item is on it, up to the limit no other is, and a reload of all that are on it leaves no item changed, so that the next report
-- says "intact".
use Rattle.std.specs.Prelude.{◌≡◌, ◌≤◌, if◌then◌else◌}
use Rattle.fips197.proofs.Kit.{refl, sym, ap, ◌∙◌, Bool, true, false, not, List, ℕ, arith, length}
use Rattle.blocks.specs.Block.{Bytes, same}
use Rattle.incidence.specs.Count.{count_up_to}
use Rattle.incidence.specs.declared.Answer.TheVariants.{Intact}
use Rattle.incidence.proofs.Booleans.{not_both, not_passed}
use Rattle.incidence.proofs.Covering.{few_covered}
use Rattle.incidence.proofs.Rejects.{none_left_out}
use Rattle.sizes.specs.Sizes.{family_of}
use Rattle.sizes.proofs.Laws.{lawful}
use Rattle.stamp.specs.Front.{stamp_of}
use Rattle.files.specs.Refusals.{Refusal}
use Rattle.files.specs.Refusals.{none}
use Rattle.files.specs.Message.{item_count, item, refuse3, refuse5}
use Rattle.files.specs.declared.tagfile.Head.{Head}
use Rattle.tagging.specs.Tagging.{keys_in}
use Rattle.checks.specs.Refused.{report_refusal}
use Rattle.checks.specs.Passed.{Reportable}
use Rattle.scheme.specs.Calls.{report_writes, report_answer}
use Rattle.scheme.specs.Claim.{Unaltered, changed, marked, NoneCancels, NameClaim, reloaded}
use Rattle.scheme.proofs.Claiming.{is_known, many, passed, report_detects, report_names}
use Rattle.scheme.proofs.Guarantees.{other_not_refused, unchanged_self, nothing_cancels, nothing-changed}

-- ---- the list

module _ (keys s f marks : List ℕ) (N : NameClaim keys s f marks) (h : Head) (old : ℕ → List ℕ) (U : Unaltered (keys_in keys) h old f) (count : h.count ≡ item_count s)
    (free : NoneCancels keys s h old) where
  -- a changed item is on it, however many changed
  pub changed-named : (j : ℕ) → 1 ≤ j → j ≤ item_count s → changed old (item s) j ≡ true → marked marks j ≡ true
  changed-named = none_left_out _ _ _ _ _ (N h old U count) free

  -- after a reload no item is changed
  pub none-changed : (j : ℕ) → 1 ≤ j → j ≤ item_count s → changed old (reloaded marks old (item s)) j ≡ false
  unfolding changed reloaded
  none-changed j l u = go (marked marks j) refl
    where
      go : (b : Bool) → marked marks j ≡ b → not (same (old j) (if b then old j else item s j)) ≡ false
      go true e = unchanged_self old j
      go false e = not_passed _ (λ c. not_both (marked marks j) (changed-named j l u c) e)

-- ---- of a report that is not refused

module _ (keys s f out : List ℕ) (b : Bytes keys) (e : report_refusal keys s f (length out) ≡ none) (h : Head) (old : ℕ → List ℕ) (U : Unaltered (keys_in keys) h old f)
    (count : h.count ≡ item_count s) where
  R : Reportable keys s f (length out)
  R = passed keys s f out b e

  N : NameClaim keys s f (report_writes keys s f out)
  N = report_names keys s f out b e

  -- where no more than the limit changed, the list is the changed ones (demand 3)
  pub few_named : NoneCancels keys s h old → count_up_to (changed old (item s)) (item_count s) ≤ (family_of h.code).limit
      → (j : ℕ) → 1 ≤ j → j ≤ item_count s → marked (report_writes keys s f out) j ≡ changed old (item s) j
  few_named free few j l u =
      (N h old U count).exact free j l u
      ∙ few_covered (family_of h.code) (family_of h.code).limit (lawful h.code (is_known keys s f (length out) b R h old U count)).disjunct (changed old (item s))
      (item_count s) (many keys s f (length out) b R h old U count) few j l u

  -- s' is a message of as many items with the same number
  module _ (s' : List ℕ) (head : refuse3 s' ≡ none) (whole : refuse5 s' ≡ none) (number : (stamp_of s').number ≡ (stamp_of s).number) (as_many : item_count s' ≡ item_count s)
      (out' : List ℕ) (room : item_count s ≤ length out') where
    -- a report on it is not refused
    pub reload_passes : report_refusal keys s' f (length out') ≡ none
    reload_passes = other_not_refused keys s s' f (length out) (length out') (ap (λ (r : Refusal). r.number) e) head whole as_many number (omega arith)

    -- it holds the items as reloaded
    module _ (free : NoneCancels keys s h old) (items : (j : ℕ) → 1 ≤ j → j ≤ item_count s → item s' j ≡ reloaded (report_writes keys s f out) old (item s) j) where
      unchanged : (j : ℕ) → 1 ≤ j → j ≤ item_count s' → changed old (item s') j ≡ false
      unfolding changed
      unchanged j l u =
          let v : j ≤ item_count s = omega arith in
          ap (λ (x : List ℕ). not (same (old j) x)) (items j l v) ∙ none-changed keys s f _ N h old U count free j l v

      -- and the report says "intact"
      pub reload_intact : report_answer keys s' f out' ≡ Intact
      reload_intact =
          ((report_detects keys s' f out' b reload_passes h old U (count ∙ sym as_many)).0.intact (nothing_cancels s' old unchanged keys h)).1 (nothing-changed s' old unchanged)
