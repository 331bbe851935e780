-- What whoever watches the pass may rely on (document 02, 2.4), by the clauses of `clear_agreeing` alone, of two passes over the same marks: the
-- longer one leaves no more items marked, and one row more changes marks of that row alone. That it counts no fewer rows is `incidence`'s
-- (Walking). And where every row agrees, the pass over all of them is what `intact` does.
use Rattle.std.specs.Prelude.{◌≡◌, ◌&&◌, ◌++◌, ◌≤◌, if◌then◌else◌}
use Rattle.fips197.proofs.Kit.{refl, sym, ap, ◌∙◌, Bool, true, false, not, true≢false, List, append-nil, ℕ, suc, arith, eqb, length, drop, drop-length, replicate, eqb-true, eq-eqb}
use Rattle.blocks.specs.Block.{zeros}
use Rattle.incidence.specs.Count.{count_up_to}
use Rattle.incidence.specs.Family.{Family, Lawful}
use Rattle.incidence.specs.Report.{cleared, named, disagreeing}
use Rattle.incidence.proofs.Counting.{count_mono}
use Rattle.incidence.proofs.Walking.{stays_cleared, cleared_step}
use Rattle.incidence.proofs.Differences.{none-disagree}
use Rattle.decoding.specs.Decoding.{mark_in, Marked, Cleared, is_marked}
use Rattle.decoding.proofs.Marks.{marked_all, cleared_as, cleared_apart, named-marked, marked-list, marks_agreeing}

module _ (F : Family) (agrees : ℕ → Bool) (n : ℕ) {before short long : List ℕ} where
  module _ (i k : ℕ) (more : i ≤ k) (S : Cleared (cleared F agrees i) n before short) (L : Cleared (cleared F agrees k) n before long) where
    -- an item without a mark after i rows has none after k
    pub unmarked_stays : (j : ℕ) → 1 ≤ j → j ≤ n → mark_in short j ≡ 0 → mark_in long j ≡ 0
    unmarked_stays j l u e =
        L.marks j l u ∙ go (cleared F agrees i j) (cleared F agrees k j) (stays_cleared F agrees i k more j) (sym (S.marks j l u) ∙ e)
      where
        go : (s t : Bool) → (s ≡ true → t ≡ true) → (if s then 0 else mark_in before j) ≡ 0 → (if t then 0 else mark_in before j) ≡ 0
        go s true h z = refl
        go false false h z = z
        go true false h z = absurd (true≢false (sym (h refl)))

    -- so that no more are marked
    pub no_more_marked : count_up_to (is_marked long) n ≤ count_up_to (is_marked short) n
    unfolding is_marked
    no_more_marked = count_mono (is_marked long) (is_marked short) n (λ j l u m. marked (mark_in short j) (mark_in long j) (unmarked_stays j l u) m)
      where
        marked : (x y : ℕ) → (x ≡ 0 → y ≡ 0) → not (eqb y 0) ≡ true → not (eqb x 0) ≡ true
        marked x y h m = go (eqb x 0) refl
          where
            go : (b : Bool) → eqb x 0 ≡ b → not b ≡ true
            go true e = sym (ap not (eq-eqb y 0 (h (eqb-true x 0 e)))) ∙ m
            go false e = refl

  module _ (i : ℕ) (S : Cleared (cleared F agrees i) n before short) (L : Cleared (cleared F agrees (suc i)) n before long) where
    -- the step from i rows to i + 1 clears the items of row i + 1 if it agrees, and does nothing else
    pub step_clears : Cleared (λ j. agrees (suc i) && F.on (suc i) j) n short long
    step_clears =
        cleared_apart (cleared F agrees i) (λ j. agrees (suc i) && F.on (suc i) j) n before short long S
        (cleared_as (cleared F agrees (suc i)) _ n before long (λ j l u. cleared_step F agrees i j) L)

    -- it changes marks only on row i + 1
    pub step_elsewhere : (j : ℕ) → 1 ≤ j → j ≤ n → F.on (suc i) j ≡ false → mark_in long j ≡ mark_in short j
    step_elsewhere j l u e =
        step_clears.marks j l u ∙ ap (λ (b : Bool). if agrees (suc i) && b then 0 else mark_in short j) e ∙ go (agrees (suc i))
      where
        go : (b : Bool) → (if b && false then 0 else mark_in short j) ≡ mark_in short j
        go true = refl
        go false = refl

-- ---- the short way of an intact message

-- where every row agrees, marking all items and the pass over all rows give what `intact` gives: no marks, and no row counted
module _ (F : Family) (L : Lawful F) (agrees : ℕ → Bool) (all : (i : ℕ) → 1 ≤ i → i ≤ F.rows → agrees i ≡ true) where
  pub pass_agreeing : (n : ℕ) → n ≤ F.items → {before set after : List ℕ} → n ≤ length before → Marked n (λ j. 1) before set
      → Cleared (cleared F agrees F.rows) n set after → (after ≡ zeros n ++ drop n before) × (disagreeing agrees F.rows ≡ 0)
  pass_agreeing n fits {before = before} room M C = (
    marked-list (named F agrees) n _ _ (named-marked F agrees M C) room
        ∙ ap (λ (l : List ℕ). l ++ drop n before) (marks_agreeing F agrees all L n fits),
    none-disagree F agrees all,
  )

  -- and as `decode` and `intact` have it, over as many marks as there are items
  pub pass_intact : (before : List ℕ) {after : List ℕ} → length before ≤ F.items
      → Cleared (cleared F agrees F.rows) (length before) (replicate (length before) 1) after → after ≡ zeros (length before)
  pass_intact before fits C =
      (pass_agreeing (length before) fits (omega arith) (marked_all before 1) C).0
      ∙ ap (λ (l : List ℕ). zeros (length before) ++ l) (drop-length before) ∙ append-nil (zeros (length before))
