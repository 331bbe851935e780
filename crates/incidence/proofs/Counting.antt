-- The laws of `count`, `any` and `all`.
use Rattle.std.specs.Prelude.{◌≡◌, ◌&&◌, ◌||◌, ◌⊎◌, ◌+◌, ◌-◌, ◌≤◌, ◌<◌}
use Rattle.fips197.proofs.Kit.{refl, sym, ap, ap₂, ◌∙◌, subst, Bool, true, false, not, true≢false, inl, inr, ℕ, zero, suc, arith, ltb, leb, ltb-true, ltb-false, leb-true, le-leb}
use Rattle.incidence.specs.Count.{indicator, count_up_to, any_up_to, all_up_to, inside}
use Rattle.incidence.specs.Drift.{ApartAtMost}
use Rattle.incidence.proofs.Booleans.{and_left, and_right, and_both, or_cases, or-first, or_second, not_passed}

-- what is at most n + 1 is n + 1 or at most n
pub last_or : (k n : ℕ) → k ≤ suc n → (k ≡ suc n) ⊎ (k ≤ n)
last_or k n h = go (ltb n k) refl
  where
    go : (b : Bool) → ltb n k ≡ b → (k ≡ suc n) ⊎ (k ≤ n)
    go true e = inl (omega (arith, ltb-true n k e))
    go false e = inr (ltb-false n k e)

pub bit-most : (b : Bool) → indicator b ≤ 1
bit-most true = omega arith
bit-most false = omega arith

-- ---- numbers inside

pub inside-low : (n i : ℕ) → inside n i ≡ true → 1 ≤ i
inside-low n i h = leb-true 1 i (and_left (leb 1 i) (leb i n) h)

pub inside-high : (n i : ℕ) → inside n i ≡ true → i ≤ n
inside-high n i h = leb-true i n (and_right (leb 1 i) (leb i n) h)

pub inside_yes : (n i : ℕ) → 1 ≤ i → i ≤ n → inside n i ≡ true
inside_yes n i l u = and_both (le-leb 1 i l) (le-leb i n u)

-- the code's test of a number, by another name of the bound
pub inside_of : {m n : ℕ} {r b : Bool} (i : ℕ) → m ≡ n → r ≡ inside m i → r ≡ b → inside n i ≡ b
inside_of i e f g = ap (λ (x : ℕ). inside x i) (sym e) ∙ sym f ∙ g

-- ---- counts

pub count_ext : (p q : ℕ → Bool) (n : ℕ) → ((i : ℕ) → 1 ≤ i → i ≤ n → p i ≡ q i) → count_up_to p n ≡ count_up_to q n
count_ext p q zero h = refl
count_ext p q (suc n) h =
    ap₂ ◌+◌ (count_ext p q n (λ i l u. h i l (omega arith))) (ap indicator (h (suc n) (omega arith) (omega arith)))

pub count_most : (p : ℕ → Bool) (n : ℕ) → count_up_to p n ≤ n
count_most p zero = omega arith
count_most p (suc n) = omega (arith, count_most p n, bit-most (p (suc n)))

-- fewer pass a stronger test
bit_mono : (a b : Bool) → (a ≡ true → b ≡ true) → indicator a ≤ indicator b
bit_mono true b h = rw (h refl) (omega arith)
bit_mono false b h = omega arith

pub count_mono : (p q : ℕ → Bool) (n : ℕ) → ((i : ℕ) → 1 ≤ i → i ≤ n → p i ≡ true → q i ≡ true) → count_up_to p n ≤ count_up_to q n
count_mono p q zero h = omega arith
count_mono p q (suc n) h =
    omega (arith, bit_mono (p (suc n)) (q (suc n)) (h (suc n) (omega arith) (omega arith)), count_mono p q n (λ i l u. h i l (omega arith)))

-- those that pass p are those that pass q too and those that do not
bit_split : (a b : Bool) → indicator (a && not b) + indicator (a && b) ≡ indicator a
bit_split true true = refl
bit_split true false = refl
bit_split false true = refl
bit_split false false = refl

pub count_split : (p q : ℕ → Bool) (n : ℕ) → count_up_to (λ i. p i && not (q i)) n + count_up_to (λ i. p i && q i) n ≡ count_up_to p n
count_split p q zero = refl
count_split p q (suc n) = omega (arith, bit_split (p (suc n)) (q (suc n)), count_split p q n)

-- those that pass at least one of two tests and those that pass both are those that pass the one and those that pass the other
bit_both : (a b : Bool) → indicator (a || b) + indicator (a && b) ≡ indicator a + indicator b
bit_both true true = refl
bit_both true false = refl
bit_both false true = refl
bit_both false false = refl

pub count_both : (p q : ℕ → Bool) (n : ℕ) → count_up_to (λ i. p i || q i) n + count_up_to (λ i. p i && q i) n ≡ count_up_to p n + count_up_to q n
count_both p q zero = refl
count_both p q (suc n) = omega (arith, bit_both (p (suc n)) (q (suc n)), count_both p q n)

-- where two tests differ only on numbers that pass a third, their counts are apart by at most the third's
count-beyond : (p q r : ℕ → Bool) (n : ℕ) → ((i : ℕ) → 1 ≤ i → i ≤ n → r i ≡ false → p i ≡ q i) → count_up_to p n ≤ count_up_to q n + count_up_to r n
count-beyond p q r n h =
    omega (arith, count_both q r n, count_mono p (λ i. q i || r i) n (λ i l u t. go i (h i l u) t (r i) refl))
  where
    go : (i : ℕ) → (r i ≡ false → p i ≡ q i) → p i ≡ true → (b : Bool) → r i ≡ b → q i || r i ≡ true
    go i e t true x = or_second (q i) x
    go i e t false x = or-first (r i) (sym (e x) ∙ t)

pub count_apart : (p q r : ℕ → Bool) (n : ℕ) → ((i : ℕ) → 1 ≤ i → i ≤ n → r i ≡ false → p i ≡ q i) → ApartAtMost (count_up_to r n) (count_up_to p n) (count_up_to q n)
count_apart p q r n h = (count-beyond p q r n h, count-beyond q p r n (λ i l u e. sym (h i l u e)))

count_never : (n : ℕ) → count_up_to (λ i. false) n ≡ 0
count_never zero = refl
count_never (suc n) = omega (arith, count_never n)

pub count_none : (p : ℕ → Bool) (n : ℕ) → ((i : ℕ) → 1 ≤ i → i ≤ n → p i ≡ true → ⊥) → count_up_to p n ≡ 0
count_none p n h = omega (arith, count_mono p (λ i. false) n (λ i l u t. absurd (h i l u t)), count_never n)

-- what passes is counted
pub count_some : (p : ℕ → Bool) (n i : ℕ) → 1 ≤ i → i ≤ n → p i ≡ true → 0 < count_up_to p n
count_some p zero i l u e = absurd (omega arith)
count_some p (suc n) i l u e = go (λ b. count_some p n i l b e) (last_or i n u)
  where
    go : (i ≤ n → 0 < count_up_to p n) → (i ≡ suc n) ⊎ (i ≤ n) → 0 < count_up_to p n + indicator (p (suc n))
    go rest (inl s) = omega (arith, ap indicator (subst (λ (x : ℕ). p x ≡ true) s e))
    go rest (inr b) = omega (arith, rest b)

pub count_before : (p : ℕ → Bool) (n i : ℕ) → 1 ≤ i → i ≤ n → p i ≡ true → count_up_to p (i - 1) < count_up_to p n
count_before p zero i l u e = absurd (omega arith)
count_before p (suc n) i l u e = go (λ b. count_before p n i l b e) (last_or i n u)
  where
    go : (i ≤ n → count_up_to p (i - 1) < count_up_to p n) → (i ≡ suc n) ⊎ (i ≤ n) → count_up_to p (i - 1) < count_up_to p n + indicator (p (suc n))
    go rest (inl s) =
        let z : i - 1 ≡ n = omega arith in
        omega (arith, ap indicator (subst (λ (x : ℕ). p x ≡ true) s e), ap (count_up_to p) z)
    go rest (inr b) = omega (arith, rest b)

-- more numbers have no fewer that pass
pub count_up : (p : ℕ → Bool) (a b : ℕ) → a ≤ b → count_up_to p a ≤ count_up_to p b
count_up p a zero h = let e : a ≡ 0 = omega arith in omega (arith, ap (count_up_to p) e)
count_up p a (suc b) h = go (λ w. count_up p a b w) (last_or a b h)
  where
    go : (a ≤ b → count_up_to p a ≤ count_up_to p b) → (a ≡ suc b) ⊎ (a ≤ b) → count_up_to p a ≤ count_up_to p (suc b)
    go rest (inl e) = omega (arith, ap (count_up_to p) e)
    go rest (inr w) = omega (arith, rest w)

-- ---- whether any passes

-- where one passes, it can be had
pub record Found (p : ℕ → Bool) (n : ℕ) : Type 0 where
  pub at : ℕ
  pub low : 1 ≤ at
  pub high : at ≤ n
  pub passes : p at ≡ true

pub found : (p : ℕ → Bool) (n : ℕ) → 0 < count_up_to p n → Found p n
found p zero h = absurd (omega arith)
found p (suc n) h = go (found p n) (p (suc n)) refl
  where
    go : (0 < count_up_to p n → Found p n) → (b : Bool) → p (suc n) ≡ b → Found p (suc n)
    go rest true e = record { at = suc n; low = omega arith; high = omega arith; passes = e }
    go rest false e =
        let f : Found p n = rest (omega (arith, ap indicator e)) in
        record { at = f.at; low = f.low; high = omega arith; passes = f.passes }

pub any_found : (p : ℕ → Bool) (n : ℕ) → any_up_to p n ≡ true → Found p n
any_found p zero h = absurd (true≢false (sym h))
any_found p (suc n) h = go (any_found p n) (or_cases (any_up_to p n) (p (suc n)) h)
  where
    go : (any_up_to p n ≡ true → Found p n) → (any_up_to p n ≡ true) ⊎ (p (suc n) ≡ true) → Found p (suc n)
    go rest (inl e) =
        let f : Found p n = rest e in
        record { at = f.at; low = f.low; high = omega arith; passes = f.passes }
    go rest (inr e) = record { at = suc n; low = omega arith; high = omega arith; passes = e }

pub any_some : (p : ℕ → Bool) (n i : ℕ) → 1 ≤ i → i ≤ n → p i ≡ true → any_up_to p n ≡ true
any_some p zero i l u e = absurd (omega arith)
any_some p (suc n) i l u e = go (λ b. any_some p n i l b e) (last_or i n u)
  where
    go : (i ≤ n → any_up_to p n ≡ true) → (i ≡ suc n) ⊎ (i ≤ n) → any_up_to p n || p (suc n) ≡ true
    go rest (inl s) = or_second (any_up_to p n) (subst (λ (x : ℕ). p x ≡ true) s e)
    go rest (inr b) = or-first (p (suc n)) (rest b)

pub any_none : (p : ℕ → Bool) (n : ℕ) → ((i : ℕ) → 1 ≤ i → i ≤ n → p i ≡ true → ⊥) → any_up_to p n ≡ false
any_none p n h = not_passed (any_up_to p n) (λ e. let f : Found p n = any_found p n e in h f.at f.low f.high f.passes)

pub any_ext : (p q : ℕ → Bool) (n : ℕ) → ((i : ℕ) → 1 ≤ i → i ≤ n → p i ≡ q i) → any_up_to p n ≡ any_up_to q n
any_ext p q zero h = refl
any_ext p q (suc n) h =
    ap₂ ◌||◌ (any_ext p q n (λ i l u. h i l (omega arith))) (h (suc n) (omega arith) (omega arith))

-- ---- whether each passes

pub all_each : (p : ℕ → Bool) (n : ℕ) → ((i : ℕ) → 1 ≤ i → i ≤ n → p i ≡ true) → all_up_to p n ≡ true
all_each p zero h = refl
all_each p (suc n) h = and_both (all_each p n (λ i l u. h i l (omega arith))) (h (suc n) (omega arith) (omega arith))

pub each_of_all : (p : ℕ → Bool) (n : ℕ) → all_up_to p n ≡ true → (i : ℕ) → 1 ≤ i → i ≤ n → p i ≡ true
each_of_all p zero h i l u = absurd (omega arith)
each_of_all p (suc n) h i l u = go (λ b. each_of_all p n (and_left (all_up_to p n) _ h) i l b) (last_or i n u)
  where
    go : (i ≤ n → p i ≡ true) → (i ≡ suc n) ⊎ (i ≤ n) → p i ≡ true
    go rest (inl s) = subst (λ (x : ℕ). p x ≡ true) (sym s) (and_right (all_up_to p n) _ h)
    go rest (inr b) = rest b

-- ---- a test that is computed at each of the numbers 0 to n − 1

abbrev pub every : (ℕ → Bool) → ℕ → Bool
every f zero = true
every f (suc n) = f n && every f n

pub every_at : (f : ℕ → Bool) (n : ℕ) → every f n ≡ true → (k : ℕ) → k < n → f k ≡ true
every_at f zero h k l = absurd (omega arith)
every_at f (suc n) h k l = go (every_at f n (and_right (f n) (every f n) h) k) (last_or (suc k) n l)
  where
    go : (k < n → f k ≡ true) → (suc k ≡ suc n) ⊎ (suc k ≤ n) → f k ≡ true
    go rest (inl s) = let e : n ≡ k = omega arith in subst (λ (x : ℕ). f x ≡ true) e (and_left (f n) (every f n) h)
    go rest (inr b) = rest b
