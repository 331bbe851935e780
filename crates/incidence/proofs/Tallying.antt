-- The counting theorem (document 02, 2.2), for any projective family and any test of its rows by which a row without a changed item agrees
-- and, where no row cancels, every other disagrees. Item by item: a changed one adds its d + 1 rows but for those that hold an earlier changed
-- one, which are at most as many as these, and at least one where there is one.
use Rattle.std.specs.Prelude.{◌≡◌, ◌&&◌, ◌||◌, ◌⊎◌, ◌+◌, ◌-◌, ◌*◌, ◌/◌, ◌≤◌, ◌<◌}
use Rattle.fips197.proofs.Kit.{refl, sym, ap, ◌∙◌, subst, Bool, true, false, not, and_comm, and-true, inl, inr, ℕ, zero, suc, mul_comm, arith, not-true}
use native.Mathlib.Nat.{suc-mul, eq-zero-or-pos}
use Rattle.incidence.specs.Count.{indicator, count_up_to}
use Rattle.incidence.specs.Family.{Family, holds_one, rows_holding, Projective}
use Rattle.incidence.specs.Report.{disagreeing}
use Rattle.incidence.specs.Detection.{QuietRowsAgree, ChangedRowsDisagree}
use Rattle.incidence.specs.Tally.{Tallies}
use Rattle.incidence.proofs.Booleans.{and_left, and_right, and_both, and_false_r, or_false_r, or-first}
use Rattle.incidence.proofs.Counting.{Found, last_or, found, count_ext, count_mono, count_both}
use Rattle.incidence.proofs.Covering.{holds-item, none_held, holds-changed}
use Rattle.incidence.proofs.Pigeonhole.{takes_few}

-- ---- how many pairs k items have

abbrev pairs_of : ℕ → ℕ
pairs_of zero = 0
pairs_of (suc k) = pairs_of k + k

pairs_twice : (k : ℕ) → 2 * pairs_of (suc k) ≡ suc k * k
pairs_twice zero = refl
pairs_twice (suc k) = omega (arith, pairs_twice k, suc-mul (suc k) (suc k), suc-mul k (suc k), mul_comm k (suc k))

pairs_half : (k : ℕ) → pairs_of k ≡ k * (k - 1) / 2
pairs_half zero = refl
pairs_half (suc k) = let e : suc k - 1 ≡ k = omega arith in rw e (omega (arith, pairs_twice k))

-- ---- item by item

module _ (F : Family) (P : Projective F) (changed : ℕ → Bool) where
  abbrev d : ℕ
  d = F.limit

  -- the rows that hold a changed one of the items 1 to m, and those of them that hold the next item too
  abbrev held : ℕ → ℕ
  held m = rows_holding F changed m

  abbrev shared : ℕ → ℕ
  shared m = count_up_to (λ i. F.on i (suc m) && holds_one F changed m i) F.rows

  held_more : (m : ℕ) → held m ≤ held (suc m)
  held_more m = count_mono (holds_one F changed m) (holds_one F changed (suc m)) F.rows (λ i l u. or-first _)

  -- an unchanged item adds no row
  adds_none : (m : ℕ) → changed (suc m) ≡ false → held (suc m) ≡ held m
  adds_none m e =
      count_ext (holds_one F changed (suc m)) (holds_one F changed m) F.rows
      (λ i l u. or_false_r (holds_one F changed m i) (F.on i (suc m) && changed (suc m)) (and_false_r (F.on i (suc m)) (changed (suc m)) e))

  -- a changed one adds its own but for the shared ones
  adds_own : (m : ℕ) → suc m ≤ F.items → changed (suc m) ≡ true → held (suc m) + shared m ≡ held m + (d + 1)
  adds_own m u e =
      omega (
        arith,
        count_ext (holds_one F changed (suc m)) (λ i. holds_one F changed m i || F.on i (suc m)) F.rows (λ i a b. rw (e, and-true (F.on i (suc m)))),
        count_ext (λ i. holds_one F changed m i && F.on i (suc m)) (λ i. F.on i (suc m) && holds_one F changed m i) F.rows
            (λ i a b. and_comm (holds_one F changed m i) (F.on i (suc m))),
        count_both (holds_one F changed m) (λ i. F.on i (suc m)) F.rows,
        P.weight (suc m) (omega arith) u,
      )

  -- the shared ones: at most as many as the earlier changed items, and one where there is such an item
  shared_most : (m : ℕ) → suc m ≤ F.items → shared m ≤ count_up_to changed m
  shared_most m u =
      takes_few F changed (λ i. F.on i (suc m)) m (λ k a b c.
      omega (arith, P.meet (suc m) k (omega arith) u a (omega arith) (λ (e : k ≡ suc m). omega arith)))

  shared_some : (m : ℕ) → suc m ≤ F.items → 0 < count_up_to changed m → 1 ≤ shared m
  shared_some m u h =
      let f : Found changed m = found changed m h in
      let w = f.high in
      omega (
        arith,
        P.meet (suc m) f.at (omega arith) u f.low (omega arith) (λ (e : f.at ≡ suc m). omega arith),
        count_mono (λ i. F.on i (suc m) && F.on i f.at) (λ i. F.on i (suc m) && holds_one F changed m i) F.rows
            (λ i a b t. and_both (and_left (F.on i (suc m)) _ t) (holds-item F changed m i f.at f.low w (and_right (F.on i (suc m)) _ t) f.passes)),
      )

  -- k changed items or more are on at least k (d + 1) rows but one for each two of the k
  held_least : (m : ℕ) → m ≤ F.items → (k : ℕ) → k ≤ count_up_to changed m → k * (d + 1) ≤ held m + pairs_of k
  held_least zero u k h = let e : k ≡ 0 = omega arith in rw e (omega arith)
  held_least (suc m) u k h = go (held_least m (omega arith)) (changed (suc m)) refl
    where
      c : ℕ
      c = count_up_to changed m

      next : ((k : ℕ) → k ≤ c → k * (d + 1) ≤ held m + pairs_of k) → changed (suc m) ≡ true → (k ≡ suc c) ⊎ (k ≤ c) → k * (d + 1) ≤ held (suc m) + pairs_of k
      next rest e (inr b) = omega (arith, held_more m, rest k b)
      next rest e (inl q) =
          subst (λ (x : ℕ). x * (d + 1) ≤ held (suc m) + pairs_of x) (sym q)
          (omega (arith, suc-mul c (d + 1), adds_own m u e, shared_most m u, rest c (omega arith)))

      go : ((k : ℕ) → k ≤ c → k * (d + 1) ≤ held m + pairs_of k) → (b : Bool) → changed (suc m) ≡ b → k * (d + 1) ≤ held (suc m) + pairs_of k
      go rest true e = next rest e (last_or k c (omega (arith, ap indicator e)))
      go rest false e = omega (arith, held_more m, rest k (omega (arith, ap indicator e)))

  -- k or fewer are on at most d rows each and one
  pub held_most : (m : ℕ) → m ≤ F.items → (k : ℕ) → count_up_to changed m ≤ k → held m ≤ k * d + 1
  held_most zero u k h = omega (arith, none_held F changed zero refl)
  held_most (suc m) u k h = go (held_most m (omega arith)) (changed (suc m)) refl
    where
      c : ℕ
      c = count_up_to changed m

      less : changed (suc m) ≡ true → k * d ≡ (k - 1) * d + d
      less e = let q : k ≡ suc (k - 1) = omega (arith, ap indicator e) in ap (λ (x : ℕ). x * d) q ∙ suc-mul (k - 1) d

      next : ((k : ℕ) → c ≤ k → held m ≤ k * d + 1) → changed (suc m) ≡ true → (c ≡ 0) ⊎ (0 < c) → held (suc m) ≤ k * d + 1
      next rest e (inl z) = omega (arith, less e, adds_own m u e, none_held F changed m z)
      next rest e (inr p) =
          omega (arith, less e, adds_own m u e, shared_some m u p, rest (k - 1) (omega (arith, ap indicator e)))

      go : ((k : ℕ) → c ≤ k → held m ≤ k * d + 1) → (b : Bool) → changed (suc m) ≡ b → held (suc m) ≤ k * d + 1
      go rest true e = next rest e (eq-zero-or-pos c)
      go rest false e = omega (arith, adds_none m e, rest k (omega (arith, ap indicator e)))

-- ---- the rows that disagree

module _ (F : Family) (n : ℕ) (changed agrees : ℕ → Bool) where
  -- no more disagree than hold a changed item
  no_more : QuietRowsAgree F n changed agrees → disagreeing agrees F.rows ≤ rows_holding F changed n
  unfolding disagreeing
  no_more quiet =
      count_mono (λ r. not (agrees r)) (holds_one F changed n) F.rows (λ i l u t. holds-changed F n changed agrees quiet i l u (not-true (agrees i) t))

  -- and where no row cancels no fewer
  no_fewer : ChangedRowsDisagree F n changed agrees → rows_holding F changed n ≤ disagreeing agrees F.rows
  unfolding disagreeing
  no_fewer loud = count_mono (holds_one F changed n) (λ r. not (agrees r)) F.rows (λ i l u t. ap not (loud i l u t))

  pub rows_held : QuietRowsAgree F n changed agrees → ChangedRowsDisagree F n changed agrees → disagreeing agrees F.rows ≡ rows_holding F changed n
  rows_held quiet loud = omega (arith, no_more quiet, no_fewer loud)

-- ---- the theorem

module _ (F : Family) (P : Projective F) (n : ℕ) (fits : n ≤ F.items) (changed agrees : ℕ → Bool) (quiet : QuietRowsAgree F n changed agrees) where
  none : count_up_to changed n ≡ 0 → disagreeing agrees F.rows ≡ 0
  none h = omega (arith, no_more F n changed agrees quiet, none_held F changed n h)

  most : (k : ℕ) → count_up_to changed n ≤ k → disagreeing agrees F.rows ≤ k * F.limit + 1
  most k h = omega (arith, no_more F n changed agrees quiet, held_most F P changed n fits k h)

  least : ChangedRowsDisagree F n changed agrees → (k : ℕ) → k ≤ count_up_to changed n → k * (F.limit + 1) - k * (k - 1) / 2 ≤ disagreeing agrees F.rows
  least loud k h = omega (arith, no_fewer F n changed agrees loud, pairs_half k, held_least F P changed n fits k h)

  pub tallies : Tallies F.limit n (ChangedRowsDisagree F n changed agrees) changed (disagreeing agrees F.rows)
  tallies = record {
    none = none;
    one = λ loud e. omega (arith, least loud 1 (omega arith), most 1 (omega arith));
    two = λ loud e. omega (arith, least loud 2 (omega arith), most 2 (omega arith));
    least = least;
    most = most;
  }
