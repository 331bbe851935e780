-- Which rows agree: tests that are equal on the rows give equal marks; rows filled in from the tags agree as the tags' differences say; and
-- where no tag differs, every row agrees.
use Rattle.std.specs.Prelude.{◌≡◌, ◌∷◌, ◌++◌, ◌-◌, ◌≤◌}
use Rattle.fips197.proofs.Kit.{refl, ap, ap₂, Bool, true, false, List, [], ℕ, zero, suc, arith, leb, leb-true, leb-false}
use Rattle.blocks.specs.Block.{zeros, same, all_zero}
use Rattle.blocks.proofs.Xor.{same_eq}
use Rattle.blocks.proofs.Zeros.{zero_slot}
use Rattle.incidence.specs.Count.{indicator}
use Rattle.incidence.specs.Family.{Family, Lawful}
use Rattle.incidence.specs.Sum.{expanded}
use Rattle.incidence.specs.Report.{named}
use Rattle.incidence.proofs.Rowwise.{named_ext}
use Rattle.incidence.proofs.Differences.{expanded-zeros}
use Rattle.sums.specs.Adding.{sum_in, Holds}
use Rattle.decoding.specs.Decoding.{agrees_in, agrees_from, marks_of}

pub marks_ext : (F : Family) (a b : ℕ → Bool) → ((i : ℕ) → 1 ≤ i → i ≤ F.rows → a i ≡ b i) → (n : ℕ) → marks_of (named F a) n ≡ marks_of (named F b) n
unfolding marks_of
marks_ext F a b h zero = refl
marks_ext F a b h (suc n) = ap₂ (λ (l : List ℕ) (t : Bool). l ++ (indicator t ∷ [])) (marks_ext F a b h n) (named_ext F a b h (suc n))

module _ (F : Family) (s : List ℕ) where
  -- rows filled in from the tags
  pub filled_agree : (before after : List ℕ) → Holds F.rows (expanded F (sum_in s)) before after
      → (i : ℕ) → 1 ≤ i → i ≤ F.rows → agrees_in after i ≡ agrees_from F s i
  unfolding agrees_in agrees_from
  filled_agree before after H i l u = ap (λ (x : List ℕ). same x (zeros 16)) (H.sums i l u)

  -- where no tag differs, every row agrees
  pub zero_agree : Lawful F → all_zero s F.tags ≡ true → (i : ℕ) → 1 ≤ i → i ≤ F.rows → agrees_from F s i ≡ true
  unfolding agrees_from sum_in
  zero_agree L z i l u = same_eq _ _ (expanded-zeros F L (sum_in s) (λ k a b. zero_slot s F.tags z (k - 1) (omega arith)) i l u)

-- ---- as many rows as tags at least, where no tag's number is above its row's

pub tags-within : (F : Family) → Lawful F → ((i : ℕ) → F.tag_of_row i ≤ i) → F.tags ≤ F.rows
tags-within F L before = go (leb 1 F.tags) refl
  where
    go : (t : Bool) → leb 1 F.tags ≡ t → F.tags ≤ F.rows
    go true e =
        let l = leb-true 1 F.tags e in
        omega (arith, L.tag_back F.tags l (omega arith), before (F.row_of_tag F.tags), L.row-high F.tags l (omega arith))
    go false e = omega (arith, leb-false 1 F.tags e)
