-- 000, the proof of Proposition 2: where each item is on more than d rows and two different ones share at most one, the matrix is d-disjunct.
-- For the items of a set take at most as many rows from another item as there are of them.
use Rattle.std.specs.Prelude.{◌≡◌, ◌&&◌, ◌||◌, ◌≤◌, ◌<◌}
use Rattle.fips197.proofs.Kit.{refl, ap, Bool, true, false, not, ℕ, zero, suc, arith, not-true}
use Rattle.incidence.specs.Count.{indicator, count_up_to}
use Rattle.incidence.specs.Family.{Family, holds_one, Disjunct}
use Rattle.incidence.proofs.Booleans.{and_left, and_right, and_both, and-or, not_both, not_passed}
use Rattle.incidence.proofs.Counting.{Found, found, count_ext, count_mono, count_none, count_split, count_both}
use Rattle.incidence.proofs.Covering.{holds-item}

module _ (F : Family) (set : ℕ → Bool) where
  module _ (p : ℕ → Bool) where
    -- the last item takes at most one of the rows that pass p, and none if it is not of the set
    takes : (n : ℕ) → (set (suc n) ≡ true → count_up_to (λ i. p i && F.on i (suc n)) F.rows ≤ 1)
        → count_up_to (λ i. p i && (F.on i (suc n) && set (suc n))) F.rows ≤ indicator (set (suc n))
    takes n h = go (set (suc n)) refl
      where
        go : (b : Bool) → set (suc n) ≡ b → count_up_to (λ i. p i && (F.on i (suc n) && set (suc n))) F.rows ≤ indicator (set (suc n))
        go true e =
            omega (
              arith,
              ap indicator e,
              h e,
              count_mono (λ i. p i && (F.on i (suc n) && set (suc n))) (λ i. p i && F.on i (suc n)) F.rows
                  (λ i l u t. and_both (and_left (p i) _ t) (and_left (F.on i (suc n)) _ (and_right (p i) _ t))),
            )
        go false e =
            omega (
              arith,
              count_none (λ i. p i && (F.on i (suc n) && set (suc n))) F.rows
                  (λ i l u t. not_both (set (suc n)) (and_right (F.on i (suc n)) _ (and_right (p i) _ t)) e),
            )

    -- so all of them at most as many as they are
    pub takes_few : (n : ℕ) → ((k : ℕ) → 1 ≤ k → k ≤ n → set k ≡ true → count_up_to (λ i. p i && F.on i k) F.rows ≤ 1)
        → count_up_to (λ i. p i && holds_one F set n i) F.rows ≤ count_up_to set n
    takes_few zero h =
        omega (arith, count_none (λ i. p i && false) F.rows (λ i l u t. not_both false (and_right (p i) false t) refl))
    takes_few (suc n) h =
        omega (
          arith,
          count_ext (λ i. p i && holds_one F set (suc n) i) (λ i. (p i && holds_one F set n i) || (p i && (F.on i (suc n) && set (suc n)))) F.rows
              (λ i l u. and-or (p i) (holds_one F set n i) (F.on i (suc n) && set (suc n))),
          count_both (λ i. p i && holds_one F set n i) (λ i. p i && (F.on i (suc n) && set (suc n))) F.rows,
          takes n (h (suc n) (omega arith) (omega arith)),
          takes_few n (λ k l u. h k l (omega arith)),
        )

pub pigeonhole : (F : Family) (d : ℕ)
    → ((j : ℕ) → 1 ≤ j → j ≤ F.items → d < count_up_to (λ i. F.on i j) F.rows)
    → ((j k : ℕ) → 1 ≤ j → j ≤ F.items → 1 ≤ k → k ≤ F.items → (k ≡ j → ⊥) → count_up_to (λ i. F.on i j && F.on i k) F.rows ≤ 1)
    → Disjunct F d
pigeonhole F d many few set small j l u out =
    let free : ℕ → Bool = λ i. F.on i j && not (holds_one F set F.items i) in
    let f : Found free F.rows =
    found free F.rows
    (omega (
      arith,
      many j l u,
      count_split (λ i. F.on i j) (holds_one F set F.items) F.rows,
      takes_few F set (λ i. F.on i j) F.items (λ k a b c. few j k l u a b (λ e. not_both (set j) (rw e at c) out)),
    )) in
    let none : holds_one F set F.items f.at ≡ false = not-true _ (and_right (F.on f.at j) _ f.passes) in
    record {
      row = f.at;
      low = f.low;
      high = f.high;
      holds = and_left (F.on f.at j) _ f.passes;
      spares = λ k a b s. not_passed (F.on f.at k) (λ o. not_both (holds_one F set F.items f.at) (holds-item F set F.items f.at k a b o s) none);
    }
