-- Reports by differences: rows had back from XORed sums of tags are the XORs of the rows had back from each, so that a row agrees exactly
-- where the difference had from those of the tags is zero; and where every row agrees, the report says intact.
use Rattle.std.specs.Prelude.{◌≡◌, ◌∷◌, ◌≤◌, if◌then◌else◌}
use Rattle.fips197.proofs.Kit.{refl, sym, ap, ap₂, ◌∙◌, Bool, true, false, not, List, [], ℕ, zero, suc, arith, eqb, length, eqb-true, eqb-false}
use Rattle.blocks.specs.Block.{◌⊕◌, zeros, same}
use Rattle.blocks.proofs.Xor.{⊕_comm, ⊕_assoc, ⊕-zeros, same-xor}
use Rattle.incidence.specs.Count.{count_up_to}
use Rattle.incidence.specs.Family.{Family, Lawful}
use Rattle.incidence.specs.Sum.{row_sum, sum_of, expanded_in, expanded}
use Rattle.incidence.specs.Report.{named, number_named, disagreeing, answer}
use Rattle.incidence.specs.declared.Answer.TheVariants.{Intact}
use Rattle.incidence.proofs.Booleans.{not_both}
use Rattle.incidence.proofs.Counting.{count_none}
use Rattle.incidence.proofs.Sums.{Values, sum_length, sum_of-length, expanded_ext, expanded-row_sum}
use Rattle.incidence.proofs.Reports.{answer-intact}
use Rattle.incidence.proofs.Detection.{detects}

-- ---- rows had back from tags

no_difference : zeros 16 ≡ zeros 16 ⊕ zeros 16
no_difference = sym (⊕-zeros (zeros 16) 16 (omega arith))

-- two XORs XORed
crosswise : (a b c d : List ℕ) → (a ⊕ b) ⊕ (c ⊕ d) ≡ (a ⊕ c) ⊕ (b ⊕ d)
crosswise a b c d =
    ⊕_assoc a b (c ⊕ d)
    ∙ ap (λ (z : List ℕ). a ⊕ z) (sym (⊕_assoc b c d) ∙ ap (λ (z : List ℕ). z ⊕ d) (⊕_comm b c) ∙ ⊕_assoc c b d)
    ∙ sym (⊕_assoc a c (b ⊕ d))

sum_of-xor : (s x y : ℕ → List ℕ) (rows : List ℕ) → ((a : ℕ) → s a ≡ x a ⊕ y a) → sum_of s rows ≡ sum_of x rows ⊕ sum_of y rows
unfolding sum_of
sum_of-xor s x y [] h = no_difference
sum_of-xor s x y (a ∷ rest) h = ap₂ ◌⊕◌ (h a) (sum_of-xor s x y rest h) ∙ crosswise (x a) (y a) (sum_of x rest) (sum_of y rest)

sum_of-zeros : (s : ℕ → List ℕ) (rows : List ℕ) → ((a : ℕ) → s a ≡ zeros 16) → sum_of s rows ≡ zeros 16
unfolding sum_of
sum_of-zeros s [] h = refl
sum_of-zeros s (a ∷ rest) h = ap₂ ◌⊕◌ (h a) (sum_of-zeros s rest h) ∙ sym no_difference

module _ (F : Family) where
  expanded_in_xor : (x y : ℕ → List ℕ) (n i : ℕ) → expanded_in F (λ k. x k ⊕ y k) n i ≡ expanded_in F x n i ⊕ expanded_in F y n i
  unfolding expanded_in
  expanded_in_xor x y zero i = no_difference
  expanded_in_xor x y (suc n) i = go (expanded_in_xor x y n) (eqb (F.tag_of_row i) 0)
    where
      either : (ℕ → List ℕ) → Bool → List ℕ
      either s t = if t then sum_of (expanded_in F s n) (F.made i) else s (F.tag_of_row i)

      go : ((r : ℕ) → expanded_in F (λ k. x k ⊕ y k) n r ≡ expanded_in F x n r ⊕ expanded_in F y n r) → (t : Bool)
          → either (λ k. x k ⊕ y k) t ≡ either x t ⊕ either y t
      go ih true = sum_of-xor (expanded_in F (λ k. x k ⊕ y k) n) (expanded_in F x n) (expanded_in F y n) (F.made i) ih
      go ih false = refl

  -- filling rows is additive
  pub expanded-xor : (x y : ℕ → List ℕ) (i : ℕ) → expanded F (λ k. x k ⊕ y k) i ≡ expanded F x i ⊕ expanded F y i
  unfolding expanded
  expanded-xor x y i = expanded_in_xor x y i i

  expanded_in_zeros : (n i : ℕ) → expanded_in F (λ k. zeros 16) n i ≡ zeros 16
  unfolding expanded_in
  expanded_in_zeros zero i = refl
  expanded_in_zeros (suc n) i = go (expanded_in_zeros n) (eqb (F.tag_of_row i) 0)
    where
      go : ((r : ℕ) → expanded_in F (λ k. zeros 16) n r ≡ zeros 16) → (t : Bool)
          → (if t then sum_of (expanded_in F (λ k. zeros 16) n) (F.made i) else zeros 16) ≡ zeros 16
      go ih true = sum_of-zeros (expanded_in F (λ k. zeros 16) n) (F.made i) ih
      go ih false = refl

module _ (F : Family) (L : Lawful F) where
  -- where no tag differs, no row does
  pub expanded-zeros : (s : ℕ → List ℕ) → ((k : ℕ) → 1 ≤ k → k ≤ F.tags → s k ≡ zeros 16) → (i : ℕ) → 1 ≤ i → i ≤ F.rows → expanded F s i ≡ zeros 16
  unfolding expanded
  expanded-zeros s h i a u = expanded_ext F L s (λ k. zeros 16) h i a u ∙ expanded_in_zeros F i i

  -- a message's row sums are added to rows by adding those of its tagged rows to the tags' sums
  expanded_added : (value : ℕ → List ℕ) → Values value → (n : ℕ) → n ≤ F.items → (tagged both : ℕ → List ℕ)
      → ((k : ℕ) → 1 ≤ k → k ≤ F.tags → both k ≡ tagged k ⊕ row_sum F value n (F.row_of_tag k))
      → (i : ℕ) → 1 ≤ i → i ≤ F.rows → expanded F both i ≡ expanded F tagged i ⊕ row_sum F value n i
  expanded_added value v n fits tagged both h i a u =
      expanded_ext F L both (λ k. tagged k ⊕ row_sum F value n (F.row_of_tag k)) h i a u
      ∙ expanded-xor F tagged (λ k. row_sum F value n (F.row_of_tag k)) i
      ∙ ap (λ (z : List ℕ). expanded F tagged i ⊕ z) (expanded-row_sum F L value v n fits i a u)

  expanded_in_length : (s : ℕ → List ℕ) → ((k : ℕ) → 1 ≤ k → k ≤ F.tags → length (s k) ≡ 16) → (n i : ℕ) → 1 ≤ i → i ≤ F.rows → length (expanded_in F s n i) ≡ 16
  unfolding expanded_in
  expanded_in_length s h zero i a u = refl
  expanded_in_length s h (suc n) i a u = go (expanded_in_length s h n) (eqb (F.tag_of_row i) 0) refl
    where
      go : ((r : ℕ) → 1 ≤ r → r ≤ F.rows → length (expanded_in F s n r) ≡ 16) → (t : Bool) → eqb (F.tag_of_row i) 0 ≡ t
          → length (if t then sum_of (expanded_in F s n) (F.made i) else s (F.tag_of_row i)) ≡ 16
      go ih true e = sum_of-length i (expanded_in F s n) (F.made i) (L.earlier i a u (eqb-true _ 0 e)) (λ r c d. ih r c (omega arith))
      go ih false e = let y : F.tag_of_row i ≡ 0 → ⊥ = eqb-false _ 0 e in h (F.tag_of_row i) (omega arith) (L.tag_high i a u)

  -- each has 16 bytes
  expanded-length : (s : ℕ → List ℕ) → ((k : ℕ) → 1 ≤ k → k ≤ F.tags → length (s k) ≡ 16) → (i : ℕ) → 1 ≤ i → i ≤ F.rows → length (expanded F s i) ≡ 16
  unfolding expanded
  expanded-length s h i a u = expanded_in_length s h i i a u

  -- a row's sum equals the one had back exactly where their XOR, had from the XORs of the tags, is zero
  pub difference_zero : (value : ℕ → List ℕ) → Values value → (n : ℕ) → n ≤ F.items → (tagged both : ℕ → List ℕ)
      → ((k : ℕ) → 1 ≤ k → k ≤ F.tags → length (tagged k) ≡ 16)
      → ((k : ℕ) → 1 ≤ k → k ≤ F.tags → both k ≡ tagged k ⊕ row_sum F value n (F.row_of_tag k))
      → (i : ℕ) → 1 ≤ i → i ≤ F.rows → same (expanded F both i) (zeros 16) ≡ same (row_sum F value n i) (expanded F tagged i)
  unfolding row_sum
  difference_zero value v n fits tagged both long h i a u =
      ap (λ (z : List ℕ). same z (zeros 16)) (expanded_added value v n fits tagged both h i a u ∙ ⊕_comm (expanded F tagged i) (row_sum F value n i))
      ∙ sym (same-xor (row_sum F value n i) (expanded F tagged i) 16 (sum_length (F.on i) value n v) (expanded-length tagged long i a u))

-- ---- where every row agrees, nothing is found

module _ (F : Family) (agrees : ℕ → Bool) (all : (i : ℕ) → 1 ≤ i → i ≤ F.rows → agrees i ≡ true) where
  pub none-disagree : disagreeing agrees F.rows ≡ 0
  unfolding disagreeing
  none-disagree = count_none (λ r. not (agrees r)) F.rows (λ i l u t. not_both (not (agrees i)) t (ap not (all i l u)))

  pub answer_agreeing : (n : ℕ) → answer F agrees n ≡ Intact
  unfolding answer
  answer_agreeing n = answer-intact F.limit (disagreeing agrees F.rows) _ _ none-disagree

  module _ (L : Lawful F) (n : ℕ) (fits : n ≤ F.items) where
    -- every item is on a row
    pub none_named : (j : ℕ) → 1 ≤ j → j ≤ n → named F agrees j ≡ false
    none_named j l u =
        let few : count_up_to (λ i. false) n ≡ 0 = count_none (λ i. false) n (λ i a b t. not_both false t refl) in
        (detects F L n fits (λ i. false) agrees (λ i a b q. all i a b)).spares (omega arith) j l u refl

    pub none_counted : number_named F agrees n ≡ 0
    unfolding number_named
    none_counted = count_none (named F agrees) n (λ j l u t. not_both (named F agrees j) t (none_named j l u))
