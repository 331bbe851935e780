-- The laws of `listed`: its length is the count, its members are those that pass, and they rise. And what is left of a list in a buffer.
use Rattle.std.specs.Prelude.{◌≡◌, ◌∷◌, ◌++◌, ◌⊎◌, ◌+◌, ◌-◌, ◌≤◌, ◌<◌, if◌then◌else◌}
use Rattle.fips197.proofs.Kit.{refl, sym, ap, ap₂, ◌∙◌, subst, Bool, true, false, List, [], inl, inr, ℕ, zero, suc, arith, length, get_or, drop, length-append, List·getD-append, get_or_at}
use Rattle.incidence.specs.Count.{indicator, count_up_to, listed}
use Rattle.incidence.specs.Family.{Family, rows_of, items_of, tags_of}
use Rattle.incidence.proofs.Counting.{last_or, count_before}
use Rattle.incidence.proofs.Booleans.{not_both}

pub listed-length : (p : ℕ → Bool) (n : ℕ) → length (listed p n) ≡ count_up_to p n
listed-length p zero = refl
listed-length p (suc n) = go (listed-length p n) (p (suc n))
  where
    go : length (listed p n) ≡ count_up_to p n → (b : Bool)
        → length (if b then listed p n ++ (suc n ∷ []) else listed p n) ≡ count_up_to p n + indicator b
    go ih true = length-append (listed p n) (suc n ∷ []) ∙ ap (λ (x : ℕ). x + 1) ih
    go ih false = omega arith

pub listed_ext : (p q : ℕ → Bool) (n : ℕ) → ((i : ℕ) → 1 ≤ i → i ≤ n → p i ≡ q i) → listed p n ≡ listed q n
listed_ext p q zero h = refl
listed_ext p q (suc n) h =
    ap₂ (λ (b : Bool) (l : List ℕ). if b then l ++ (suc n ∷ []) else l) (h (suc n) (omega arith) (omega arith))
    (listed_ext p q n (λ i l u. h i l (omega arith)))

-- a number that passes stands behind those before it that do
pub listed_rank : (p : ℕ → Bool) (n i : ℕ) → 1 ≤ i → i ≤ n → p i ≡ true → get_or (listed p n) (count_up_to p (i - 1)) 0 ≡ i
listed_rank p zero i l u e = absurd (omega arith)
listed_rank p (suc n) i l u e = go (λ b. listed_rank p n i l b e) (last_or i n u) (p (suc n)) refl
  where
    go : (i ≤ n → get_or (listed p n) (count_up_to p (i - 1)) 0 ≡ i) → (i ≡ suc n) ⊎ (i ≤ n) → (b : Bool) → p (suc n) ≡ b
        → get_or (if b then listed p n ++ (suc n ∷ []) else listed p n) (count_up_to p (i - 1)) 0 ≡ i
    go rest (inl s) true t =
        let z : i - 1 ≡ n = omega arith in
        get_or_at (listed p n) (suc n) [] 0 (count_up_to p (i - 1)) (listed-length p n ∙ ap (count_up_to p) (sym z)) ∙ sym s
    go rest (inl s) false t = absurd (not_both (p (suc n)) (subst (λ (x : ℕ). p x ≡ true) s e) t)
    go rest (inr b) true t =
        List·getD-append (listed p n) (suc n ∷ []) 0 (count_up_to p (i - 1)) (omega (arith, listed-length p n, count_before p n i l b e)) ∙ rest b
    go rest (inr b) false t = rest b

pub stands : (p : ℕ → Bool) (n x k : ℕ) → 1 ≤ x → x ≤ n → p x ≡ true → count_up_to p (x - 1) ≡ k → get_or (listed p n) k 0 ≡ x
stands p n x k l u o e = subst (λ (y : ℕ). get_or (listed p n) y 0 ≡ x) e (listed_rank p n x l u o)

-- x is the member at place k: inside, passing, and with k before it
pub record Member (p : ℕ → Bool) (n k x : ℕ) : Type 0 where
  pub low : 1 ≤ x
  pub high : x ≤ n
  pub passes : p x ≡ true
  pub rank : count_up_to p (x - 1) ≡ k

pub listed_at : (p : ℕ → Bool) (n k : ℕ) → k < count_up_to p n → Member p n k (get_or (listed p n) k 0)
listed_at p zero k h = absurd (omega arith)
listed_at p (suc n) k h = go (listed_at p n k) (p (suc n)) refl
  where
    wider : (x : ℕ) → Member p n k x → Member p (suc n) k x
    wider x m = record { low = m.low; high = omega arith; passes = m.passes; rank = m.rank }

    go : (k < count_up_to p n → Member p n k (get_or (listed p n) k 0)) → (b : Bool) → p (suc n) ≡ b
        → Member p (suc n) k (get_or (if b then listed p n ++ (suc n ∷ []) else listed p n) k 0)
    go rest false t = wider _ (rest (omega (arith, ap indicator t)))
    go rest true t = last (last_or (suc k) (count_up_to p n) (omega (arith, ap indicator t)))
      where
        last : (suc k ≡ suc (count_up_to p n)) ⊎ (suc k ≤ count_up_to p n) → Member p (suc n) k (get_or (listed p n ++ (suc n ∷ [])) k 0)
        last (inl s) =
            let z : suc n - 1 ≡ n = omega arith in
            rw (get_or_at (listed p n) (suc n) [] 0 k (omega (arith, listed-length p n)))
            (record { low = omega arith; high = omega arith; passes = t; rank = omega (arith, ap (count_up_to p) z) })
        last (inr b) = rw (List·getD-append (listed p n) (suc n ∷ []) 0 k (omega (arith, listed-length p n))) (wider _ (rest b))

-- what stands at a place of the numbers up to n stands there of those up to a greater one
pub listed_upto : (p : ℕ → Bool) (n m k : ℕ) → n ≤ m → k < count_up_to p n → get_or (listed p m) k 0 ≡ get_or (listed p n) k 0
listed_upto p n m k l h =
    let M : Member p n k (get_or (listed p n) k 0) = listed_at p n k h in
    stands p m (get_or (listed p n) k 0) k M.low (omega (arith, M.high)) M.passes M.rank

-- the rows of an item, the items of a row and the tags of an item
module _ (F : Family) (j k : ℕ) where
  pub rows_of-at : k < length (rows_of F j) → Member (λ i. F.on i j) F.rows k (get_or (rows_of F j) k 0)
  unfolding rows_of
  rows_of-at h = listed_at (λ i. F.on i j) F.rows k (omega (arith, listed-length (λ i. F.on i j) F.rows))

  pub items_of-at : k < length (items_of F j) → Member (F.on j) F.items k (get_or (items_of F j) k 0)
  unfolding items_of
  items_of-at h = listed_at (F.on j) F.items k (omega (arith, listed-length (F.on j) F.items))

  pub tags_of-at : k < length (tags_of F j) → Member (λ k. F.on (F.row_of_tag k) j) F.tags k (get_or (tags_of F j) k 0)
  unfolding tags_of
  tags_of-at h =
      listed_at (λ k. F.on (F.row_of_tag k) j) F.tags k (omega (arith, listed-length (λ k. F.on (F.row_of_tag k) j) F.tags))

pub none-listed : (p : ℕ → Bool) (n : ℕ) → ((i : ℕ) → p i ≡ false) → listed p n ≡ []
none-listed p zero h = refl
none-listed p (suc n) h = rw (h (suc n)) (none-listed p n h)

-- what a walk leaves in a buffer, by another name of the list or for none
pub written_as : (o : List ℕ) {l w out : List ℕ} {n : ℕ} → w ≡ l → (out ≡ w ++ drop (length w) o) × (n ≡ length w)
    → (out ≡ l ++ drop (length l) o) × (n ≡ length l)
written_as o {l} {w} {out} {n} e h = subst (λ (x : List ℕ). (out ≡ x ++ drop (length x) o) × (n ≡ length x)) e h

pub written_none : (o : List ℕ) {l : List ℕ} → l ≡ [] → (o ≡ l ++ drop (length l) o) × (0 ≡ length l)
written_none o e = written_as o (sym e) (refl, refl)
