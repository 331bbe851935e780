-- Laws of counting beyond incidence's: over the members of a list, at most one, and no more than another count by an injection.
use Rattle.std.specs.Prelude.{◌≡◌, ◌&&◌, ◌∷◌, ◌++◌, ◌+◌, ◌-◌, ◌≤◌, if◌then◌else◌}
use Rattle.fips197.proofs.Kit.{refl, ap, ap₂, ◌∙◌, Bool, true, false, not, [], ℕ, zero, suc, arith, add-zero, add-one, eqb, eq-eqb, ne_eqb, get_or, List·getD-append, get_or_at}
use Rattle.incidence.specs.Count.{indicator, count_up_to, listed}
use Rattle.incidence.proofs.Booleans.{and_both}
use Rattle.incidence.proofs.Counting.{count_ext, count_split, count_none, count_some}
use Rattle.incidence.proofs.Listing.{listed-length}

-- where all pass, all are counted
pub count_all : (n : ℕ) → count_up_to (λ k. true) n ≡ n
count_all zero = refl
count_all (suc n) = omega (arith, count_all n)

-- those that pass g, counted by their places in the list of them
pub count-listed : (f g : ℕ → Bool) (n : ℕ) → count_up_to (λ i. f (get_or (listed g n) (i - 1) 0)) (count_up_to g n) ≡ count_up_to (λ p. g p && f p) n
count-listed f g zero = refl
count-listed f g (suc n) = go (count-listed f g n) (g (suc n))
  where
    go : count_up_to (λ i. f (get_or (listed g n) (i - 1) 0)) (count_up_to g n) ≡ count_up_to (λ p. g p && f p) n → (t : Bool)
        → count_up_to (λ i. f (get_or (if t then listed g n ++ (suc n ∷ []) else listed g n) (i - 1) 0)) (count_up_to g n + indicator t)
        ≡ count_up_to (λ p. g p && f p) n + indicator (t && f (suc n))
    go ih false = rw (add-zero (count_up_to g n), add-zero (count_up_to (λ p. g p && f p) n)) ih
    go ih true =
        rw (add-one (count_up_to g n))
        (ap₂ ◌+◌
        (count_ext _ _ (count_up_to g n) (λ i l u. ap f (List·getD-append (listed g n) (suc n ∷ []) 0 (i - 1) (omega (arith, listed-length g n)))) ∙ ih)
        (ap (λ (z : ℕ). indicator (f z)) (get_or_at (listed g n) (suc n) [] 0 (suc (count_up_to g n) - 1) (omega (arith, listed-length g n)))))

-- where any two that pass are the same, at most one passes
pub count-one : (p : ℕ → Bool) (n : ℕ) → ((i k : ℕ) → 1 ≤ i → i ≤ n → 1 ≤ k → k ≤ n → p i ≡ true → p k ≡ true → i ≡ k) → count_up_to p n ≤ 1
count-one p zero h = omega arith
count-one p (suc n) h = go (p (suc n)) refl (count-one p n (λ i k a b c d. h i k a (omega arith) c (omega arith)))
  where
    go : (t : Bool) → p (suc n) ≡ t → count_up_to p n ≤ 1 → count_up_to p n + indicator (p (suc n)) ≤ 1
    go false e ih = omega (arith, ap indicator e)
    go true e ih =
        let none : count_up_to p n ≡ 0 =
        count_none p n (λ i l u t. let z : i ≡ suc n = h i (suc n) l (omega arith) (omega arith) (omega arith) t e in omega arith) in
        omega (arith, ap indicator e)

-- where each that passes r has one of its own that passes p, no more pass r than p
pub count_into : (r : ℕ → Bool) (f : ℕ → ℕ) (n : ℕ) (p : ℕ → Bool) (v : ℕ)
    → ((k : ℕ) → 1 ≤ k → k ≤ n → r k ≡ true → (1 ≤ f k) × (f k ≤ v) × (p (f k) ≡ true))
    → ((k i : ℕ) → 1 ≤ k → k ≤ n → 1 ≤ i → i ≤ n → r k ≡ true → r i ≡ true → f k ≡ f i → k ≡ i)
    → count_up_to r n ≤ count_up_to p v
count_into r f zero p v h inj = omega arith
count_into r f (suc n) p v h inj =
    go (λ p' h'. count_into r f n p' v h' (λ k i a b c d. inj k i a (omega arith) c (omega arith))) (r (suc n)) refl
  where
    -- all but the last have theirs among those that are not the last one's
    other : r (suc n) ≡ true → (k : ℕ) → 1 ≤ k → k ≤ n → r k ≡ true
        → (1 ≤ f k) × (f k ≤ v) × (p (f k) && not (eqb (f k) (f (suc n))) ≡ true)
    other e k a b t =
        let K = h k a (omega arith) t in
        let apart : (f k ≡ f (suc n)) → ⊥ = λ q. let z : k ≡ suc n = inj k (suc n) a (omega arith) (omega arith) (omega arith) t e q in omega arith in
        (K.0, K.1, and_both K.2 (ap not (ne_eqb (f k) (f (suc n)) apart)))

    go : ((p' : ℕ → Bool) → ((k : ℕ) → 1 ≤ k → k ≤ n → r k ≡ true → (1 ≤ f k) × (f k ≤ v) × (p' (f k) ≡ true)) → count_up_to r n ≤ count_up_to p' v)
        → (t : Bool) → r (suc n) ≡ t → count_up_to r n + indicator (r (suc n)) ≤ count_up_to p v
    go ih false e = omega (arith, ap indicator e, ih p (λ k a b. h k a (omega arith)))
    go ih true e =
        let H = h (suc n) (omega arith) (omega arith) e in
        omega (
          arith,
          ap indicator e,
          count_split p (λ i. eqb i (f (suc n))) v,
          count_some (λ i. p i && eqb i (f (suc n))) v (f (suc n)) H.0 H.1 (and_both H.2 (eq-eqb (f (suc n)) (f (suc n)) refl)),
          ih (λ i. p i && not (eqb i (f (suc n)))) (other e),
        )
