-- What demand 3, as `Detects` states it, rules out by itself, whatever the family and the code: a report that names every item, one that
-- names none, and one that always says "beyond". What request 2.2, as `Tallies` states it, tells the other way round, what request 2.13, as
-- `NamesCovered` states it, rules out, and what a jump tells by request 2.14, as `Drifts` states it. And how the four statements pass to what
-- is equal to them or asks for more.
use Rattle.std.specs.Prelude.{◌≡◌, ◌+◌, ◌-◌, ◌*◌, ◌/◌, ◌≤◌, ◌<◌}
use Rattle.fips197.proofs.Kit.{refl, sym, ◌∙◌, Bool, true, false, ℕ, arith}
use native.Mathlib.Nat.{lt_of_not-le}
use Rattle.incidence.specs.Count.{count_up_to}
use Rattle.incidence.specs.Family.{Family, holds_one}
use Rattle.incidence.specs.Detection.{Detects}
use Rattle.incidence.specs.Tally.{Tallies}
use Rattle.incidence.specs.Naming.{NamesCovered}
use Rattle.incidence.specs.Drift.{ApartAtMost, Drifts}
use Rattle.incidence.specs.declared.Answer.{Answer}
use Rattle.incidence.specs.declared.Answer.TheVariants.{Intact, Beyond}
use Rattle.incidence.proofs.Booleans.{not_both}
use Rattle.incidence.proofs.Counting.{Found, found}
use Rattle.incidence.proofs.Covering.{covered-row, own_covered}

module _ (d n : ℕ) (C : Type 0) (changed : ℕ → Bool) (said : Answer) where
  -- an unchanged item, and no more changes than the limit
  pub not_all_named : (j : ℕ) → 1 ≤ j → j ≤ n → changed j ≡ false → count_up_to changed n ≤ d → Detects d n C changed (λ i. true) said → ⊥
  not_all_named j l u same few D = not_both true refl (D.spares few j l u same)

  -- a changed item, and no row that cancels
  pub not-none-named : C → 0 < count_up_to changed n → Detects d n C changed (λ i. false) said → ⊥
  not-none-named c h D =
      let f : Found changed n = found changed n h in
      not_both false (D.finds c f.at f.low f.high f.passes) refl

-- an unchanged message
pub not_always_beyond : (d n : ℕ) (C : Type 0) (changed marked : ℕ → Bool) → C → count_up_to changed n ≡ 0 → Detects d n C changed marked Beyond → ⊥
not_always_beyond d n C changed marked c none D =
    let e : Beyond ≡ Intact = (D.intact c).1 none in
    let z : ◌≡◌ {A = ℕ} 0 1 = cc in
    omega arith

-- ---- what the number of rows tells of the number of changed items (document 02, 2.2)

module _ (d n : ℕ) (C : Type 0) (changed : ℕ → Bool) (rows : ℕ) (T : Tallies d n C changed rows) where
  -- a row disagrees: some item changed
  pub tells_some : 0 < rows → 0 < count_up_to changed n
  tells_some h = lt_of_not-le (λ (l : count_up_to changed n ≤ 0). let z : count_up_to changed n ≡ 0 = omega arith in omega (arith, T.none z))

  -- more rows than k items give: more than k changed
  pub tells_more : (k : ℕ) → k * d + 1 < rows → k < count_up_to changed n
  tells_more k h = lt_of_not-le (λ (l : count_up_to changed n ≤ k). omega (arith, T.most k l))

  -- fewer rows than k items give: fewer than k changed
  pub tells_fewer : C → (k : ℕ) → rows < k * (d + 1) - k * (k - 1) / 2 → count_up_to changed n < k
  tells_fewer c k h = lt_of_not-le (λ (l : k ≤ count_up_to changed n). omega (arith, T.least c k l))

  -- d + 1 rows are those of one changed item, and 2 d + 1 those of two, and of no other number
  pub tells_one : C → 2 ≤ d → rows ≡ d + 1 → count_up_to changed n ≡ 1
  tells_one c h e = omega (arith, tells_more 0 (omega arith), tells_fewer c 2 (omega arith))

  pub tells_two : C → 2 ≤ d → rows ≡ 2 * d + 1 → count_up_to changed n ≡ 2
  tells_two c h e = omega (arith, tells_more 1 (omega arith), tells_fewer c 3 (omega arith))

-- ---- what request 2.13, as `NamesCovered` states it, rules out

module _ (F : Family) (n : ℕ) (C : Type 0) (changed marked : ℕ → Bool) (N : NamesCovered F n C changed marked) where
  -- a changed item that is left out, however many changed: each one is named
  pub none_left_out : C → (j : ℕ) → 1 ≤ j → j ≤ n → changed j ≡ true → marked j ≡ true
  none_left_out c j l u e = N.exact c j l u ∙ own_covered F changed n j l u e

  -- an item that is named while some row through it holds no changed one, whatever the other rows hold
  pub not_by_some_row : (i j : ℕ) → 1 ≤ i → i ≤ F.rows → 1 ≤ j → j ≤ n → F.on i j ≡ true → holds_one F changed n i ≡ false → marked j ≡ true → ⊥
  not_by_some_row i j a b l u o free t = not_both (holds_one F changed n i) (covered-row F changed n j (N.within j l u t) i a b o) free

-- ---- what a jump of the number of rows tells (document 02, 2.14): numbers more than kd + 1 apart are those of more than k items that differ

pub jump_tells : (F : Family) (n : ℕ) (C : Type 0) (differs : ℕ → Bool) (rows others : ℕ) → Drifts F n C differs rows others → C → (k : ℕ)
    → (ApartAtMost (k * F.limit + 1) rows others → ⊥) → k < count_up_to differs n
jump_tells F n C differs rows others D c k jump = lt_of_not-le (λ (l : count_up_to differs n ≤ k). jump (D.several-on-plane c k l))

-- ---- passing on

module _ (d n : ℕ) (C E : Type 0) (changed marked other : ℕ → Bool) (said : Answer) where
  -- where E is at least as much as C, and the same items are marked
  pub detects_as : (E → C) → ((j : ℕ) → 1 ≤ j → j ≤ n → other j ≡ marked j) → Detects d n C changed marked said → Detects d n E changed other said
  detects_as f same D = record {
    spares = λ few j l u e. same j l u ∙ D.spares few j l u e;
    finds = λ x j l u e. same j l u ∙ D.finds (f x) j l u e;
    exact = λ x few j l u. same j l u ∙ D.exact (f x) few j l u;
    intact = λ x. D.intact (f x);
    named = λ x. D.named (f x);
    beyond = λ x. D.beyond (f x);
  }

-- the same of request 2.2
pub tallies_as : (d n : ℕ) (C E : Type 0) (changed : ℕ → Bool) (rows : ℕ) → (E → C) → Tallies d n C changed rows → Tallies d n E changed rows
tallies_as d n C E changed rows f T = record { none = T.none; one = λ x. T.one (f x); two = λ x. T.two (f x); least = λ x. T.least (f x); most = T.most }

-- and of request 2.13
pub names_covered_as : (F : Family) (n : ℕ) (C E : Type 0) (changed marked other : ℕ → Bool) → (E → C) → ((j : ℕ) → 1 ≤ j → j ≤ n → other j ≡ marked j)
    → NamesCovered F n C changed marked → NamesCovered F n E changed other
names_covered_as F n C E changed marked other f same N = record { exact = λ x j l u. same j l u ∙ N.exact (f x) j l u; within = λ j l u t. N.within j l u (sym (same j l u) ∙ t) }

-- and of request 2.14
pub drifts_as : (F : Family) (n : ℕ) (C E : Type 0) (differs : ℕ → Bool) (rows others : ℕ) → (E → C) → Drifts F n C differs rows others → Drifts F n E differs rows others
drifts_as F n C E differs rows others f D = record { one-on-plane = λ x. D.one-on-plane (f x); one = D.one; several = D.several; several-on-plane = λ x. D.several-on-plane (f x) }
