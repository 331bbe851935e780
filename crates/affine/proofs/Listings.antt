-- Lists made by going up through the numbers 1 to n, where those that pass a test are known: g 0 < g 1 < .. < g (k − 1). At a number that
-- does not pass nothing is added, so going through g 0, g 1, .. makes the same list.
use Rattle.std.specs.Prelude.{◌≡◌, ◌&&◌, ◌∷◌, ◌++◌, ◌+◌, ◌-◌, ◌≤◌, ◌<◌, if◌then◌else◌}
use Rattle.fips197.proofs.Kit.{refl, sym, ap, ◌∙◌, subst, Bool, true, false, and-true, List, [], append-nil, append_assoc, ℕ, zero, suc, arith, add-zero, zero-add, add-one, ltb, ltb-true, ltb-false, length, length-append, get_or, List·getD-append, get_or_at}
use Rattle.incidence.specs.Count.{indicator, count_up_to, listed}
use Rattle.incidence.proofs.Booleans.{and_false_r, not_both}
use Rattle.incidence.proofs.Listing.{listed_ext, listed-length}
use Rattle.affine.specs.Walk.{firsts}

-- i is one of g 0 to g (k − 1)
pub record Among (g : ℕ → ℕ) (k i : ℕ) : Type 0 where
  pub place : ℕ
  pub below : place < k
  pub same : i ≡ g place

-- the numbers 1 to n that pass f are g 0 < g 1 < .. < g (k − 1)
pub record Passing (f : ℕ → Bool) (n : ℕ) (g : ℕ → ℕ) (k : ℕ) : Type 0 where
  pub low : (t : ℕ) → t < k → 1 ≤ g t
  pub high : (t : ℕ) → t < k → g t ≤ n
  pub rises : (t u : ℕ) → t < u → u < k → g t < g u
  pub passes : (t : ℕ) → t < k → f (g t) ≡ true
  pub all : (i : ℕ) → 1 ≤ i → i ≤ n → f i ≡ true → Among g k i

-- the places, among the numbers that pass p, of those that pass f too
module _ (f p : ℕ → Bool) where
  abbrev places : ℕ → List ℕ
  places n = listed (λ i. f (get_or (listed p n) (i - 1) 0)) (count_up_to p n)

  -- one number more: its place is added where it passes both
  places_next : (n : ℕ) → places (suc n) ≡ (if p (suc n) && f (suc n) then places n ++ (count_up_to p (suc n) ∷ []) else places n)
  places_next n = go (p (suc n))
    where
      go : (t : Bool) → listed (λ i. f (get_or (if t then listed p n ++ (suc n ∷ []) else listed p n) (i - 1) 0)) (count_up_to p n + indicator t)
          ≡ (if t && f (suc n) then places n ++ ((count_up_to p n + indicator t) ∷ []) else places n)
      go false = rw (add-zero (count_up_to p n))
      go true =
          rw (
            add-one (count_up_to p n),
            get_or_at (listed p n) (suc n) [] 0 (suc (count_up_to p n) - 1) (omega (arith, listed-length p n)),
            listed_ext (λ i. f (get_or (listed p n ++ (suc n ∷ [])) (i - 1) 0)) (λ i. f (get_or (listed p n) (i - 1) 0)) (count_up_to p n)
                (λ i l u. ap f (List·getD-append (listed p n) (suc n ∷ []) 0 (i - 1) (omega (arith, listed-length p n)))),
          )

module _ {f : ℕ → Bool} {n : ℕ} {g : ℕ → ℕ} {k : ℕ} (P : Passing f n g k) where
  -- no later number is smaller
  later : (t u : ℕ) → t ≤ u → u < k → g t ≤ g u
  later t u l h = go (ltb t u) refl
    where
      go : (b : Bool) → ltb t u ≡ b → g t ≤ g u
      go true e = omega (arith, P.rises t u (ltb-true t u e) h)
      go false e = let z : t ≡ u = omega (arith, ltb-false t u e) in omega (arith, ap g z)

  -- where the number after m is one of them, f passes
  passes-next : (m t : ℕ) → t < k → suc m ≡ g t → f (suc m) ≡ true
  passes-next m t l s = subst (λ (x : ℕ). f x ≡ true) (sym s) (P.passes t l)

  -- a list R by numbers that stays where f does not pass, and a list S by places that goes on as R does where it passes
  module _ (R S : ℕ → List ℕ) (start : S 0 ≡ R 0) (still : (m : ℕ) → f (suc m) ≡ false → R (suc m) ≡ R m)
      (step : (m t : ℕ) → t < k → suc m ≡ g t → S t ≡ R m → S (suc t) ≡ R (suc m)) where
    -- at m they are the same where the first t of the numbers g are up to m
    upto : (m t : ℕ) → m ≤ n → t ≤ k → ((u : ℕ) → u < t → g u ≤ m) → ((u : ℕ) → t ≤ u → u < k → m < g u) → S t ≡ R m
    upto zero zero um ut before after = start
    upto zero (suc t) um ut before after = absurd (omega (arith, P.low t (omega arith), before t (omega arith)))
    upto (suc m) t um ut before after = go (λ v. upto m v (omega arith)) (f (suc m)) refl
      where
        -- where it does not pass, they are up to the number before
        earlier : f (suc m) ≡ false → (u : ℕ) → u < t → g u ≤ m
        earlier e u l =
            let ne : (suc m ≡ g u → ⊥) = λ z. not_both (f (suc m)) (passes-next m u (omega arith) z) e in
            omega (arith, before u l)

        -- where it passes, it is the last of them
        last : (A : Among g k (suc m)) → t ≡ suc A.place
        last A = go (ltb A.place t) refl (ltb (suc A.place) t) refl
          where
            go : (b : Bool) → ltb A.place t ≡ b → (c : Bool) → ltb (suc A.place) t ≡ c → t ≡ suc A.place
            go false e c d = absurd (omega (arith, A.same, after A.place (ltb-false A.place t e) A.below))
            go true e true d =
                let l : suc A.place < t = ltb-true _ t d in
                absurd (omega (arith, A.same, before (suc A.place) l, P.rises A.place (suc A.place) (omega arith) (omega arith)))
            go true e false d = omega (arith, ltb-true A.place t e, ltb-false (suc A.place) t d)

        go : ((v : ℕ) → v ≤ k → ((u : ℕ) → u < v → g u ≤ m) → ((u : ℕ) → v ≤ u → u < k → m < g u) → S v ≡ R m)
            → (b : Bool) → f (suc m) ≡ b → S t ≡ R (suc m)
        go ih false e = ih t ut (earlier e) (λ u a b. omega (arith, after u a b)) ∙ sym (still m e)
        go ih true e =
            let A : Among g k (suc m) = P.all (suc m) (omega arith) um e in
            ap S (last A)
            ∙ step m A.place A.below A.same
            (ih A.place (omega (arith, A.below)) (λ u l. omega (arith, A.same, P.rises u A.place l A.below))
            (λ u a b. omega (arith, A.same, later A.place u a b)))

    -- so the whole lists are the same
    agree : R n ≡ S k
    agree = sym (upto n k (omega arith) (omega arith) P.high (λ u a b. absurd (omega arith)))

  -- the list of those that pass
  pub listed-firsts : listed f n ≡ firsts g k
  unfolding firsts
  listed-firsts = agree (listed f) (firsts g) refl (λ m e. rw e) (λ m t l s h. rw (h, ← s, passes-next m t l s))

  -- the list of their places among those that pass p: going through g 0, g 1, .. adds that of each that passes p
  pub listed_places : (p : ℕ → Bool) (S : ℕ → List ℕ) → S 0 ≡ []
      → ((t : ℕ) → t < k → S (suc t) ≡ (if p (g t) then S t ++ (count_up_to p (g t) ∷ []) else S t))
      → listed (λ i. f (get_or (listed p n) (i - 1) 0)) (count_up_to p n) ≡ S k
  listed_places p S start next =
      agree (places f p) S start
      (λ m e. places_next f p m
      ∙ ap (λ (b : Bool). if b then places f p m ++ (count_up_to p (suc m) ∷ []) else places f p m) (and_false_r (p (suc m)) (f (suc m)) e))
      (λ m t l s h. next t l ∙ rw (h, ← s) (sym (places_next f p m ∙ rw (passes-next m t l s, and-true (p (suc m))))))

-- ---- short lists

-- the first n numbers are n
pub firsts-length : (g : ℕ → ℕ) (n : ℕ) → length (firsts g n) ≡ n
unfolding firsts
firsts-length g zero = refl
firsts-length g (suc n) = length-append (firsts g n) (g n ∷ []) ∙ omega (arith, firsts-length g n)

-- ---- from the front

-- those of n numbers from a on that pass (by `elim`, so that only the branch taken is computed)
unfoldable pub passing : (ℕ → Bool) → ℕ → ℕ → List ℕ
passing f a zero = []
passing f a (suc n) = elim (f a) [ true ↦ a ∷ passing f (suc a) n | false ↦ passing f (suc a) n ]

passing_listed : (f : ℕ → Bool) (a n : ℕ) → listed f a ++ passing f (suc a) n ≡ listed f (a + n)
unfolding passing
passing_listed f a zero = append-nil (listed f a) ∙ ap (listed f) (sym (add-zero a))
passing_listed f a (suc n) = go (passing_listed f (suc a) n) (f (suc a)) refl ∙ ap (listed f) z
  where
    z : suc a + n ≡ a + suc n
    z = omega arith

    go : listed f (suc a) ++ passing f (suc (suc a)) n ≡ listed f (suc a + n) → (b : Bool) → f (suc a) ≡ b
        → listed f a ++ (elim b [ true ↦ suc a ∷ passing f (suc (suc a)) n | false ↦ passing f (suc (suc a)) n ]) ≡ listed f (suc a + n)
    go step true e =
        sym (append_assoc (listed f a) (suc a ∷ []) (passing f (suc (suc a)) n))
        ∙ ap (λ (b : Bool). (if b then listed f a ++ (suc a ∷ []) else listed f a) ++ passing f (suc (suc a)) n) (sym e) ∙ step
    go step false e = ap (λ (b : Bool). (if b then listed f a ++ (suc a ∷ []) else listed f a) ++ passing f (suc (suc a)) n) (sym e) ∙ step

pub passing_is : (f : ℕ → Bool) (n : ℕ) → passing f 1 n ≡ listed f n
passing_is f n = passing_listed f 0 n ∙ ap (listed f) (zero-add n)
