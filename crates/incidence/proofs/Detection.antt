-- The detection theorem (demand 3; 000, Proposition 1), for any lawful family and any test of its rows that is tied to the changes. It
-- mentions no size, no difference list and no cipher. The items named are those that the changed ones cover (Covering).
use Rattle.std.specs.Prelude.{◌≡◌, ◌&&◌, ◌↔◌, ◌≤◌, ◌<◌}
use Rattle.fips197.proofs.Kit.{refl, sym, ap, ◌∙◌, Bool, true, false, not, ℕ, arith, not-true}
use Rattle.incidence.specs.Count.{count_up_to}
use Rattle.incidence.specs.Family.{Family, holds_one, covered, Lawful}
use Rattle.incidence.specs.Report.{named, number_named, disagreeing, some_unexplained, answer}
use Rattle.incidence.specs.Detection.{Detects, QuietRowsAgree, ChangedRowsDisagree}
use Rattle.incidence.specs.declared.Answer.TheVariants.{Intact, Named, Beyond}
use Rattle.incidence.proofs.Booleans.{and_left, and_right, not_both, not_passed}
use Rattle.incidence.proofs.Counting.{Found, found, count_ext, count_mono, count_none, count_some, any_none}
use Rattle.incidence.proofs.Covering.{holds-item, holds-none, holds_more, own_covered, apart, few_covered, holds-changed, named-within, named_is}
use Rattle.incidence.proofs.Reports.{answer-intact, answer-named, answer-beyond, threeways}

module _ (F : Family) (L : Lawful F) (n : ℕ) (fits : n ≤ F.items) (changed agrees : ℕ → Bool) (quiet : QuietRowsAgree F n changed agrees) where
  -- up to the limit the changed items cover themselves alone
  few_changed : count_up_to changed n ≤ F.limit → (j : ℕ) → 1 ≤ j → j ≤ n → covered F changed n j ≡ changed j
  few_changed = few_covered F F.limit L.disjunct changed n fits

  spares : count_up_to changed n ≤ F.limit → (j : ℕ) → 1 ≤ j → j ≤ n → changed j ≡ false → named F agrees j ≡ false
  spares few j l u same =
      not_passed (named F agrees j) (λ t. not_both (changed j) (sym (few_changed few j l u) ∙ named-within F n changed agrees quiet j t) same)

  module _ (loud : ChangedRowsDisagree F n changed agrees) where
    finds : (j : ℕ) → 1 ≤ j → j ≤ n → changed j ≡ true → named F agrees j ≡ true
    finds j l u c = named_is F n changed agrees quiet loud j ∙ own_covered F changed n j l u c

    exact : count_up_to changed n ≤ F.limit → (j : ℕ) → 1 ≤ j → j ≤ n → named F agrees j ≡ changed j
    exact few j l u = named_is F n changed agrees quiet loud j ∙ few_changed few j l u

    -- where an item changed, a row disagrees: every item is on a row
    some_disagrees : 0 < count_up_to changed n → 0 < disagreeing agrees F.rows
    unfolding disagreeing
    some_disagrees h =
        let f : Found changed n = found changed n h in
        let e = count_none (λ i. false) n (λ i l u t. not_both false t refl) in
        let s = apart F F.limit L.disjunct (λ i. false) n fits (omega arith) f.at f.low f.high refl in
        count_some (λ r. not (agrees r)) F.rows s.row s.low s.high
        (ap not (loud s.row s.low s.high (holds-item F changed n s.row f.at f.low f.high s.holds f.passes)))

    case_intact : count_up_to changed n ≡ 0 → answer F agrees n ≡ Intact
    unfolding answer disagreeing
    case_intact h =
        answer-intact F.limit (disagreeing agrees F.rows) (number_named F agrees n) (some_unexplained F agrees n F.rows)
        (count_none (λ r. not (agrees r)) F.rows (λ i a b t. not_both (agrees i) (quiet i a b (holds-none F changed n i h)) (not-true (agrees i) t)))

    -- a row that disagrees holds a changed item, and so a named one
    none_unexplained : some_unexplained F agrees n F.rows ≡ false
    unfolding some_unexplained
    none_unexplained =
        any_none (λ r. not (agrees r) && not (holds_one F (named F agrees) n r)) F.rows (λ i a b t.
        not_both (holds_one F (named F agrees) n i)
        (holds_more F changed (named F agrees) n i finds (holds-changed F n changed agrees quiet i a b (not-true (agrees i) (and_left (not (agrees i)) _ t))))
        (not-true _ (and_right (not (agrees i)) _ t)))

    case_named : 1 ≤ count_up_to changed n → count_up_to changed n ≤ F.limit → answer F agrees n ≡ Named
    unfolding answer number_named
    case_named l u =
        let e : count_up_to (named F agrees) n ≡ count_up_to changed n = count_ext (named F agrees) changed n (exact u) in
        answer-named F.limit (disagreeing agrees F.rows) (number_named F agrees n) (some_unexplained F agrees n F.rows)
        (some_disagrees l) (omega arith) (omega arith) none_unexplained

    case_beyond : F.limit < count_up_to changed n → answer F agrees n ≡ Beyond
    unfolding answer number_named
    case_beyond h =
        let e : count_up_to changed n ≤ count_up_to (named F agrees) n = count_mono changed (named F agrees) n finds in
        answer-beyond F.limit (disagreeing agrees F.rows) (number_named F agrees n) (some_unexplained F agrees n F.rows)
        (some_disagrees (omega arith)) (λ l u. absurd (omega arith))

  pub detects : Detects F.limit n (ChangedRowsDisagree F n changed agrees) changed (named F agrees) (answer F agrees n)
  detects = record {
    spares = spares;
    finds = finds;
    exact = exact;
    intact = λ loud. (ways loud).0;
    named = λ loud. (ways loud).1;
    beyond = λ loud. (ways loud).2;
  }
    where
      ways : (loud : ChangedRowsDisagree F n changed agrees)
          → ((answer F agrees n ≡ Intact) ↔ (count_up_to changed n ≡ 0))
          × ((answer F agrees n ≡ Named) ↔ ((1 ≤ count_up_to changed n) × (count_up_to changed n ≤ F.limit)))
          × ((answer F agrees n ≡ Beyond) ↔ (F.limit < count_up_to changed n))
      ways loud = threeways F.limit (count_up_to changed n) (answer F agrees n) (case_intact loud) (case_named loud) (case_beyond loud)
