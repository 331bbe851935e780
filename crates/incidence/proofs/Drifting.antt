-- The drift theorem (document 02, 2.14), over any family: a row that holds no item that differs between two messages has the same sum in both,
-- so that its test comes out alike, and two counts whose tests come out alike but on k rows are at most k apart. These are the rows that hold
-- an item that differs, at most those through it where it is the only one.
use Rattle.std.specs.Prelude.{◌≡◌, ◌&&◌, ◌≤◌}
use Rattle.fips197.proofs.Kit.{refl, ap, subst, Bool, true, false, not, List, ℕ, arith, eqb, eqb-true, eqb-false}
use Rattle.incidence.specs.Family.{Family, holds_one, rows_through, rows_holding, Projective}
use Rattle.incidence.specs.Sum.{row_sum}
use Rattle.incidence.specs.Report.{disagreeing}
use Rattle.incidence.specs.Drift.{ApartAtMost, Drifts}
use Rattle.incidence.proofs.Booleans.{and_left, and_right, not_both, not_passed}
use Rattle.incidence.proofs.Counting.{Found, count_mono, count_apart}
use Rattle.incidence.proofs.Sums.{row_sum-same}
use Rattle.incidence.proofs.Covering.{holds-item, item_held}
use Rattle.incidence.proofs.Tallying.{held_most}

module _ (F : Family) (n : ℕ) (differs : ℕ → Bool) where
  -- where no item but j differs, the rows that hold one are among those through j
  through_one : (j : ℕ) → ((k : ℕ) → 1 ≤ k → k ≤ n → (k ≡ j → ⊥) → differs k ≡ false) → rows_holding F differs n ≤ rows_through F j
  through_one j only = count_mono (holds_one F differs n) (λ i. F.on i j) F.rows (λ i l u t. holds_j i (item_held F differs n i t))
    where
      holds_j : (i : ℕ) → Found (λ k. F.on i k && differs k) n → F.on i j ≡ true
      holds_j i w = go (eqb w.at j) refl
        where
          go : (b : Bool) → eqb w.at j ≡ b → F.on i j ≡ true
          go true e = subst (λ (k : ℕ). F.on i k ≡ true) (eqb-true w.at j e) (and_left (F.on i w.at) _ w.passes)
          go false e = absurd (not_both (differs w.at) (and_right (F.on i w.at) _ w.passes) (only w.at w.low w.high (eqb-false w.at j e)))

  -- a row that holds no item that differs has the same sum of values that are alike in the others
  pub sum_kept : (value other : ℕ → List ℕ) → ((j : ℕ) → 1 ≤ j → j ≤ n → differs j ≡ false → value j ≡ other j)
      → (i : ℕ) → holds_one F differs n i ≡ false → row_sum F value n i ≡ row_sum F other n i
  sum_kept value other alike i free =
      row_sum-same F value other n i (λ j l u o. alike j l u (not_passed (differs j) (λ t. not_both _ (holds-item F differs n i j l u o t) free)))

  -- two tests of the rows that come out alike where a row holds no item that differs
  module _ (agrees other : ℕ → Bool) (alike : (i : ℕ) → 1 ≤ i → i ≤ F.rows → holds_one F differs n i ≡ false → agrees i ≡ other i) where
    abbrev rows : ℕ
    rows = disagreeing agrees F.rows

    abbrev others : ℕ
    others = disagreeing other F.rows

    at_most_held : ApartAtMost (rows_holding F differs n) rows others
    unfolding disagreeing
    at_most_held = count_apart (λ i. not (agrees i)) (λ i. not (other i)) (holds_one F differs n) F.rows (λ i l u free. ap not (alike i l u free))

    -- and so by any number that is no less
    no_further : {k : ℕ} → rows_holding F differs n ≤ k → ApartAtMost k rows others
    no_further h = (omega (arith, at_most_held.0), omega (arith, at_most_held.1))

    pub drifts : n ≤ F.items → Drifts F n (Projective F) differs rows others
    drifts fits = record {
      one-on-plane = λ P h. no_further (omega (arith, held_most F P differs n fits 1 h));
      one = λ j only. no_further (omega (arith, through_one j only));
      several = no_further (omega arith);
      several-on-plane = λ P k h. no_further (held_most F P differs n fits k h);
    }
