-- Rising lists of numbers: how many members are at most x, and sums over a cycle of m numbers of a test that repeats.
use Rattle.std.specs.Prelude.{◌≡◌, ◌&&◌, ◌||◌, ◌∷◌, ◌+◌, ◌-◌, ◌≤◌, ◌<◌}
use Rattle.fips197.proofs.Kit.{refl, sym, ap, ap₂, ◌∙◌, Bool, true, false, List, [], ℕ, zero, suc, add-suc, zero-add, add-one, arith, eqb, ltb, leb, length, get_or, ltb-true, leb-true, leb-false, le-leb, lt-leb, eqb-true, eqb-false, eq-eqb, ne_eqb}
use Rattle.std.specs.Prelude.{cond, count_by}
use Rattle.std.proofs.lemmas.List.Recursion.{is_count_by}
use Rattle.incidence.specs.Count.{indicator, count_up_to}
use Rattle.incidence.proofs.Booleans.{and_left, and_right, or-first, or_second}
use Rattle.incidence.proofs.Counting.{count_ext}
use Rattle.plane.specs.Plane.{member, many}
use Rattle.plane.specs.Walk.{above}

-- every member is below m
abbrev pub under : ℕ → List ℕ → Bool
under m [] = true
under m (e ∷ D) = ltb e m && under m D

pub above-head : (b e : ℕ) (D : List ℕ) → above b (e ∷ D) ≡ true → b < e
above-head b e D h = ltb-true b e (and_left (ltb b e) (above e D) h)

pub above_tail : (b e : ℕ) (D : List ℕ) → above b (e ∷ D) ≡ true → above e D ≡ true
above_tail b e D h = and_right (ltb b e) (above e D) h

pub above_at : (b : ℕ) (D : List ℕ) → above b D ≡ true → (k : ℕ) → k < length D → b < get_or D k 0
above_at b [] h k l = absurd (omega arith)
above_at b (e ∷ D) h zero l = above-head b e D h
above_at b (e ∷ D) h (suc k) l = omega (arith, above-head b e D h, above_at e D (above_tail b e D h) k (omega arith))

-- what is not above b is no member
pub not-member : (b : ℕ) (D : List ℕ) → above b D ≡ true → (x : ℕ) → x ≤ b → member x D ≡ false
not-member b [] h x l = refl
not-member b (e ∷ D) h x l =
    rw (ne_eqb x e (λ q. omega (arith, above-head b e D h)))
    (not-member e D (above_tail b e D h) x (omega (arith, above-head b e D h)))

pub not_member_top : (m : ℕ) (D : List ℕ) → under m D ≡ true → member m D ≡ false
not_member_top m [] h = refl
not_member_top m (e ∷ D) h =
    rw (ne_eqb m e (λ q. omega (arith, ltb-true e m (and_left (ltb e m) (under m D) h))))
    (not_member_top m D (and_right (ltb e m) (under m D) h))

pub member-at : (D : List ℕ) (k : ℕ) → k < length D → member (get_or D k 0) D ≡ true
member-at [] k l = absurd (omega arith)
member-at (e ∷ D) zero l = or-first (member e D) (eq-eqb e e refl)
member-at (e ∷ D) (suc k) l = or_second (eqb (get_or D k 0) e) (member-at D k (omega arith))

pub under_at : (m : ℕ) (D : List ℕ) → under m D ≡ true → (k : ℕ) → k < length D → get_or D k 0 < m
under_at m [] h k l = absurd (omega arith)
under_at m (e ∷ D) h zero l = ltb-true e m (and_left (ltb e m) (under m D) h)
under_at m (e ∷ D) h (suc k) l = under_at m D (and_right (ltb e m) (under m D) h) k (omega arith)

-- ---- how many members pass

-- with the members up to n + 1, one more passes than with those up to n where n + 1 is a member that passes
many_step : (q : ℕ → Bool) (b : ℕ) (D : List ℕ) (n : ℕ) → above b D ≡ true
    → many (λ e. leb e (suc n) && q e) D ≡ many (λ e. leb e n && q e) D + indicator (member (suc n) D && q (suc n))
many_step q b [] n h = refl
many_step q b (e ∷ D) n h = go (many_step q e D n rise) (leb e n) refl (eqb (suc n) e) refl
  where
    rise : above e D ≡ true
    rise = above_tail b e D h

    go : many (λ e. leb e (suc n) && q e) D ≡ many (λ e. leb e n && q e) D + indicator (member (suc n) D && q (suc n))
        → (s : Bool) → leb e n ≡ s → (t : Bool) → eqb (suc n) e ≡ t
        → indicator (leb e (suc n) && q e) + many (λ e. leb e (suc n) && q e) D
        ≡ indicator (leb e n && q e) + many (λ e. leb e n && q e) D + indicator ((eqb (suc n) e || member (suc n) D) && q (suc n))
    go ih true s t u =
        let l : e ≤ n = leb-true e n s in
        let w : eqb (suc n) e ≡ false = ne_eqb (suc n) e (λ z. omega arith) in
        rw (s, le-leb e (suc n) (omega arith), w) (omega arith)
    go ih false s true u =
        let z : suc n ≡ e = eqb-true (suc n) e u in
        let w : member (suc n) D ≡ false = not-member e D rise (suc n) (omega arith) in
        let y : many (λ e. leb e (suc n) && q e) D ≡ many (λ e. leb e n && q e) D + indicator (false && q (suc n)) = rw w at ih in
        rw (s, u, le-leb e (suc n) (omega arith), ← z) (omega arith)
    go ih false s false u =
        let l : n < e = leb-false e n s in
        let z : suc n ≡ e → ⊥ = eqb-false (suc n) e u in
        rw (s, u, lt-leb e (suc n) (omega arith)) (omega arith)

many_zero : (q : ℕ → Bool) (b : ℕ) (D : List ℕ) → above b D ≡ true → many (λ e. leb e 0 && q e) D ≡ 0
many_zero q b [] h = refl
many_zero q b (e ∷ D) h =
    rw (lt-leb e 0 (omega (arith, above-head b e D h))) (omega (arith, many_zero q e D (above_tail b e D h)))

-- counting the numbers 1 to n that are members and pass is counting the members
pub count_members : (q : ℕ → Bool) (D : List ℕ) → above 0 D ≡ true → (n : ℕ)
    → count_up_to (λ x. member x D && q x) n ≡ many (λ e. leb e n && q e) D
count_members q D h zero = sym (many_zero q 0 D h)
count_members q D h (suc n) = omega (arith, count_members q D h n, many_step q 0 D n h)

pub many_ext : (p q : ℕ → Bool) (D : List ℕ) → ((e : ℕ) → p e ≡ q e) → many p D ≡ many q D
many_ext p q [] h = refl
many_ext p q (e ∷ D) h = ap₂ ◌+◌ (ap indicator (h e)) (many_ext p q D h)

pub many_under : (q : ℕ → Bool) (m : ℕ) (D : List ℕ) → under m D ≡ true → many (λ e. leb e m && q e) D ≡ many q D
many_under q m [] h = refl
many_under q m (e ∷ D) h =
    let l : e < m = ltb-true e m (and_left (ltb e m) (under m D) h) in
    rw (le-leb e m (omega arith)) (ap (λ (x : ℕ). indicator (q e) + x) (many_under q m D (and_right (ltb e m) (under m D) h)))

pub many_all : (D : List ℕ) → many (λ e. true) D ≡ length D
many_all [] = refl
many_all (e ∷ D) = omega (arith, many_all D)

-- ---- ranks: how many members are at most x

abbrev pub rank : List ℕ → ℕ → ℕ
rank D x = many (λ e. leb e x) D

and_yes : (a : Bool) → (a && true) ≡ a
and_yes true = refl
and_yes false = refl

pub count_rank : (D : List ℕ) → above 0 D ≡ true → (n : ℕ) → count_up_to (λ x. member x D) n ≡ rank D n
count_rank D h n =
    count_ext (λ x. member x D) (λ x. member x D && true) n (λ x l u. sym (and_yes (member x D)))
    ∙ count_members (λ x. true) D h n
    ∙ many_ext (λ e. leb e n && true) (λ e. leb e n) D (λ e. and_yes (leb e n))

pub rank_all : (m : ℕ) (D : List ℕ) → under m D ≡ true → rank D m ≡ length D
rank_all m D h = sym (many_ext (λ e. leb e m && true) (λ e. leb e m) D (λ e. and_yes (leb e m))) ∙ many_under (λ e. true) m D h ∙ many_all D

rank_low : (b : ℕ) (D : List ℕ) → above b D ≡ true → (x : ℕ) → x ≤ b → rank D x ≡ 0
rank_low b [] h x l = refl
rank_low b (e ∷ D) h x l =
    rw (lt-leb e x (omega (arith, above-head b e D h)))
    (omega (arith, rank_low e D (above_tail b e D h) x (omega (arith, above-head b e D h))))

-- the members up to the one at place k are k + 1, and up to the number before it k
pub rank_at : (b : ℕ) (D : List ℕ) → above b D ≡ true → (k : ℕ) → k < length D → rank D (get_or D k 0) ≡ suc k
rank_at b [] h k l = absurd (omega arith)
rank_at b (e ∷ D) h zero l = rw (le-leb e e (omega arith)) (omega (arith, rank_low e D (above_tail b e D h) e (omega arith)))
rank_at b (e ∷ D) h (suc k) l =
    let u : k < length D = omega arith in
    let w : e < get_or D k 0 = above_at e D (above_tail b e D h) k u in
    rw (le-leb e (get_or D k 0) (omega arith)) (omega (arith, rank_at e D (above_tail b e D h) k u))

pub rank_before : (b : ℕ) (D : List ℕ) → above b D ≡ true → (k : ℕ) → k < length D → rank D (get_or D k 0 - 1) ≡ k
rank_before b [] h k l = absurd (omega arith)
rank_before b (e ∷ D) h zero l =
    let w : b < e = above-head b e D h in
    rw (lt-leb e (e - 1) (omega arith)) (omega (arith, rank_low e D (above_tail b e D h) (e - 1) (omega arith)))
rank_before b (e ∷ D) h (suc k) l =
    let u : k < length D = omega arith in
    let w : e < get_or D k 0 = above_at e D (above_tail b e D h) k u in
    rw (le-leb e (get_or D k 0 - 1) (omega arith)) (omega (arith, rank_before e D (above_tail b e D h) k u))

bit_leb : (e a b : ℕ) → a ≤ b → indicator (leb e a) ≤ indicator (leb e b)
bit_leb e a b h = go (leb e a) refl
  where
    go : (t : Bool) → leb e a ≡ t → indicator (leb e a) ≤ indicator (leb e b)
    go true t = rw (t, le-leb e b (omega (arith, leb-true e a t))) (omega arith)
    go false t = rw t (omega arith)

pub rank_mono : (D : List ℕ) (a b : ℕ) → a ≤ b → rank D a ≤ rank D b
rank_mono [] a b h = omega arith
rank_mono (e ∷ D) a b h = omega (arith, bit_leb e a b h, rank_mono D a b h)

-- the members at the places below x's rank are at most x, and the others are not
pub rank_most : (b : ℕ) (D : List ℕ) → above b D ≡ true → (x k : ℕ) → k < length D → k < rank D x → get_or D k 0 ≤ x
rank_most b D h x k l r = go (leb (get_or D k 0) x) refl
  where
    go : (t : Bool) → leb (get_or D k 0) x ≡ t → get_or D k 0 ≤ x
    go true t = leb-true (get_or D k 0) x t
    go false t =
        let w : x < get_or D k 0 = leb-false (get_or D k 0) x t in
        absurd (omega (arith, rank_mono D x (get_or D k 0 - 1) (omega arith), rank_before b D h k l))

pub rank_least : (b : ℕ) (D : List ℕ) → above b D ≡ true → (x k : ℕ) → k < length D → rank D x ≤ k → x < get_or D k 0
rank_least b D h x k l r = go (leb (get_or D k 0) x) refl
  where
    go : (t : Bool) → leb (get_or D k 0) x ≡ t → x < get_or D k 0
    go true t = absurd (omega (arith, rank_mono D (get_or D k 0) x (leb-true (get_or D k 0) x t), rank_at b D h k l))
    go false t = leb-false (get_or D k 0) x t

pub rank_length : (D : List ℕ) (x : ℕ) → rank D x ≤ length D
rank_length [] x = omega arith
rank_length (e ∷ D) x = go (leb e x) (rank_length D x)
  where
    go : (t : Bool) → rank D x ≤ length D → indicator t + rank D x ≤ suc (length D)
    go true h = omega arith
    go false h = omega arith

-- ---- counts over a part of the numbers

-- the numbers 1 to a + n are those to a, and n more
pub count_add : (g : ℕ → Bool) (a n : ℕ) → count_up_to g (a + n) ≡ count_up_to g a + count_up_to (λ k. g (a + k)) n
count_add g a zero = let e : a + 0 ≡ a = omega arith in rw e (omega arith)
count_add g a (suc n) = rw (add-suc a n) (omega (arith, count_add g a n))

count-first : (p : ℕ → Bool) (n : ℕ) → count_up_to p (suc n) ≡ indicator (p 1) + count_up_to (λ k. p (suc k)) n
count-first p zero = omega arith
count-first p (suc n) = omega (arith, count-first p n)

-- n numbers that fall to a + 1
pub count_down : (g : ℕ → Bool) (a n : ℕ) → count_up_to (λ i. g (a + suc n - i)) n ≡ count_up_to (λ k. g (a + k)) n
count_down g a zero = refl
count_down g a (suc n) =
    let x : a + suc (suc n) ≡ suc a + suc n = omega arith in
    let y : suc a + suc n - suc n ≡ a + 1 = omega arith in
    let f : count_up_to (λ i. g (a + suc (suc n) - i)) (suc n) ≡ count_up_to (λ i. g (suc a + suc n - i)) n + indicator (g (suc a + suc n - suc n))
    = ap (λ (m : ℕ). count_up_to (λ i. g (m - i)) (suc n)) x in
    let z : count_up_to (λ k. g (a + suc k)) n ≡ count_up_to (λ k. g (suc a + k)) n =
    count_ext (λ k. g (a + suc k)) (λ k. g (suc a + k)) n (λ k l u. let w : a + suc k ≡ suc a + k = omega arith in ap g w) in
    f
    ∙ ap (λ (m : ℕ). count_up_to (λ i. g (suc a + suc n - i)) n + indicator (g m)) y
    ∙ omega (arith, count_down g (suc a) n, count-first (λ k. g (a + k)) n)

pub count_back : (g : ℕ → Bool) (n : ℕ) → count_up_to (λ i. g (n + 1 - i)) n ≡ count_up_to g n
count_back g n = rw (add-one n) (simp zero-add at (count_down g 0 n))

-- ---- a count by std's word

pub many_counts : (q : ℕ → Bool) (D : List ℕ) → many q D ≡ count_by q D
many_counts q = is_count_by (many q) q refl (λ e D. go (q e) (many q D))
  where
    go : (t : Bool) (n : ℕ) → indicator t + n ≡ cond t (1 + n) n
    go true n = refl
    go false n = zero-add n
