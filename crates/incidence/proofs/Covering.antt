-- The naming theorem (document 02, 2.13), for any family and any test of its rows by which a row without a changed item agrees and, where no
-- row cancels, every other disagrees: the items named are those that the changed ones cover. And what covers what: each item of a set is
-- covered by it, and no other is where the family is disjunct enough (000, section 2.1).
use Rattle.std.specs.Prelude.{◌≡◌, ◌&&◌, ◌||◌, ◌⊎◌, ◌≤◌, ◌<◌}
use Rattle.fips197.proofs.Kit.{refl, ap, subst, Bool, true, false, not, inl, inr, ℕ, zero, suc, arith, leb, le-leb, lt-leb}
use Rattle.incidence.specs.Count.{count_up_to}
use Rattle.incidence.specs.Family.{Family, holds_one, rows_holding, covered, Separates, Disjunct}
use Rattle.incidence.specs.Report.{cleared, named}
use Rattle.incidence.specs.Detection.{QuietRowsAgree, ChangedRowsDisagree}
use Rattle.incidence.specs.Naming.{NamesCovered}
use Rattle.incidence.proofs.Booleans.{and_left, and_right, and_both, not_both, not_passed, not_failed, both_ways}
use Rattle.incidence.proofs.Counting.{Found, last_or, any_found, any_some, any_none, any_ext, all_each, each_of_all, count_mono, count_none, count_some}

-- ---- rows that hold an item of a set

module _ (F : Family) (set : ℕ → Bool) (n i : ℕ) where
  pub holds-item : (j : ℕ) → 1 ≤ j → j ≤ n → F.on i j ≡ true → set j ≡ true → holds_one F set n i ≡ true
  holds-item j l u o c = any_some (λ k. F.on i k && set k) n j l u (and_both o c)

  pub item_held : holds_one F set n i ≡ true → Found (λ j. F.on i j && set j) n
  item_held t = any_found (λ j. F.on i j && set j) n t

  pub holds_no_item : ((j : ℕ) → 1 ≤ j → j ≤ n → set j ≡ true → F.on i j ≡ true → ⊥) → holds_one F set n i ≡ false
  holds_no_item h = any_none (λ j. F.on i j && set j) n (λ j l u t. h j l u (and_right (F.on i j) _ t) (and_left (F.on i j) _ t))

  -- an empty set is held by no row
  pub holds-none : count_up_to set n ≡ 0 → holds_one F set n i ≡ false
  holds-none z = holds_no_item (λ j l u c o. let p : 0 < count_up_to set n = count_some set n j l u c in omega arith)

pub none_held : (F : Family) (set : ℕ → Bool) (n : ℕ) → count_up_to set n ≡ 0 → rows_holding F set n ≡ 0
none_held F set n z = count_none (holds_one F set n) F.rows (λ i l u t. not_both (holds_one F set n i) t (holds-none F set n i z))

-- sets of the same items are held alike
pub holds_same : (F : Family) (set other : ℕ → Bool) (n i : ℕ) → ((j : ℕ) → 1 ≤ j → j ≤ n → set j ≡ other j) → holds_one F set n i ≡ holds_one F other n i
holds_same F set other n i same =
    any_ext (λ j. F.on i j && set j) (λ j. F.on i j && other j) n (λ j l u. ap (λ (t : Bool). F.on i j && t) (same j l u))

-- and a larger one is held too
pub holds_more : (F : Family) (set other : ℕ → Bool) (n i : ℕ) → ((j : ℕ) → 1 ≤ j → j ≤ n → set j ≡ true → other j ≡ true)
    → holds_one F set n i ≡ true → holds_one F other n i ≡ true
holds_more F set other n i more t =
    let f = item_held F set n i t in
    holds-item F other n i f.at f.low f.high (and_left (F.on i f.at) _ f.passes) (more f.at f.low f.high (and_right (F.on i f.at) _ f.passes))

-- ---- items that a set covers

module _ (F : Family) (set : ℕ → Bool) (n j : ℕ) where
  -- what `covered` says: each row through the item holds one of the set
  pub covered_by : ((i : ℕ) → 1 ≤ i → i ≤ F.rows → F.on i j ≡ true → holds_one F set n i ≡ true) → covered F set n j ≡ true
  unfolding covered
  covered_by h = all_each (λ i. not (F.on i j) || holds_one F set n i) F.rows (λ i l u. go i l u (F.on i j) refl)
    where
      go : (i : ℕ) → 1 ≤ i → i ≤ F.rows → (b : Bool) → F.on i j ≡ b → not b || holds_one F set n i ≡ true
      go i l u true e = h i l u e
      go i l u false e = refl

  pub covered-row : covered F set n j ≡ true → (i : ℕ) → 1 ≤ i → i ≤ F.rows → F.on i j ≡ true → holds_one F set n i ≡ true
  unfolding covered
  covered-row c i l u o =
      subst (λ (b : Bool). not b || holds_one F set n i ≡ true) o (each_of_all (λ i. not (F.on i j) || holds_one F set n i) F.rows c i l u)

  -- an item of the set is covered by it
  pub own_covered : 1 ≤ j → j ≤ n → set j ≡ true → covered F set n j ≡ true
  own_covered l u c = covered_by (λ i a b o. holds-item F set n i j l u o c)

-- the items 1 to n of a set
abbrev up_to : ℕ → (ℕ → Bool) → ℕ → Bool
up_to n set j = leb j n && set j

count_up_to_lem : (n : ℕ) (set : ℕ → Bool) (k : ℕ) → n ≤ k → count_up_to (up_to n set) k ≤ count_up_to set n
count_up_to_lem n set zero h = omega arith
count_up_to_lem n set (suc k) h = go (count_up_to_lem n set k) (last_or n k h)
  where
    go : (n ≤ k → count_up_to (up_to n set) k ≤ count_up_to set n) → (n ≡ suc k) ⊎ (n ≤ k) → count_up_to (up_to n set) (suc k) ≤ count_up_to set n
    go rest (inl e) =
        subst (λ (x : ℕ). count_up_to (up_to n set) x ≤ count_up_to set n) e (count_mono (up_to n set) set n (λ j l u t. and_right (leb j n) (set j) t))
    go rest (inr l) = rw (lt-leb (suc k) n (omega arith)) (omega (arith, rest l))

-- a set of at most d items, 1 to n, of a family that is d-disjunct
module _ (F : Family) (d : ℕ) (D : Disjunct F d) (set : ℕ → Bool) (n : ℕ) (fits : n ≤ F.items) (few : count_up_to set n ≤ d) where
  -- an item apart from it has a row to itself
  pub apart : (j : ℕ) → 1 ≤ j → j ≤ n → set j ≡ false → Separates F (up_to n set) j
  apart j l u out = D (up_to n set) (omega (arith, count_up_to_lem n set F.items fits)) j l (omega arith) (rw (le-leb j n u) out)

  -- so it covers its own items alone
  pub few_covered : (j : ℕ) → 1 ≤ j → j ≤ n → covered F set n j ≡ set j
  few_covered j l u =
      both_ways (covered F set n j) (set j) (λ c. not_failed (set j) (λ e.
      let s = apart j l u e in
      not_both (holds_one F set n s.row) (covered-row F set n j c s.row s.low s.high s.holds)
      (holds_no_item F set n s.row (λ k a b t o. not_both (F.on s.row k) o (s.spares k a (omega arith) (and_both (le-leb k n b) t))))))
      (own_covered F set n j l u)

-- ---- the theorem

module _ (F : Family) (n : ℕ) (changed agrees : ℕ → Bool) where
  -- an agreeing row clears its items
  clears : (i j : ℕ) → 1 ≤ i → i ≤ F.rows → F.on i j ≡ true → agrees i ≡ true → cleared F agrees F.rows j ≡ true
  unfolding cleared
  clears i j l u o a = any_some (λ r. agrees r && F.on r j) F.rows i l u (and_both a o)

  not_named : (i j : ℕ) → 1 ≤ i → i ≤ F.rows → F.on i j ≡ true → agrees i ≡ true → named F agrees j ≡ false
  unfolding named
  not_named i j l u o a = simp (clears i j l u o a)

  -- where each row with a changed item disagrees, no row clears a covered one
  not-cleared : ChangedRowsDisagree F n changed agrees → (j : ℕ) → covered F changed n j ≡ true → cleared F agrees F.rows j ≡ false
  unfolding cleared
  not-cleared loud j c =
      any_none (λ r. agrees r && F.on r j) F.rows
      (λ i l u t. not_both (agrees i) (and_left (agrees i) _ t) (loud i l u (covered-row F changed n j c i l u (and_right (agrees i) _ t))))

  covered-named : ChangedRowsDisagree F n changed agrees → (j : ℕ) → covered F changed n j ≡ true → named F agrees j ≡ true
  unfolding named
  covered-named loud j c = simp (not-cleared loud j c)

  -- where each other row agrees
  module _ (quiet : QuietRowsAgree F n changed agrees) where
    -- one that disagrees holds a changed item
    pub holds-changed : (i : ℕ) → 1 ≤ i → i ≤ F.rows → agrees i ≡ false → holds_one F changed n i ≡ true
    holds-changed i l u t = not_failed (holds_one F changed n i) (λ e. not_both (agrees i) (quiet i l u e) t)

    -- and each row through a named item disagrees
    pub named-within : (j : ℕ) → named F agrees j ≡ true → covered F changed n j ≡ true
    named-within j t =
        covered_by F changed n j (λ i l u o. holds-changed i l u (not_passed (agrees i) (λ a. not_both (named F agrees j) t (not_named i j l u o a))))

    pub named_is : ChangedRowsDisagree F n changed agrees → (j : ℕ) → named F agrees j ≡ covered F changed n j
    named_is loud j = both_ways (named F agrees j) (covered F changed n j) (named-within j) (covered-named loud j)

    pub names-covered : NamesCovered F n (ChangedRowsDisagree F n changed agrees) changed (named F agrees)
    names-covered = record { exact = λ loud j l u. named_is loud j; within = λ j l u. named-within j }
