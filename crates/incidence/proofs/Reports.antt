-- The three answers of a report, each with its case.
use Rattle.std.specs.Prelude.{◌≡◌, ◌&&◌, ◌↔◌, ◌≤◌, ◌<◌, if◌then◌else◌}
use Rattle.fips197.proofs.Kit.{refl, sym, ap, ◌∙◌, Bool, true, false, not, true≢false, ℕ, arith, eqb, leb, eqb-true, eqb-false, leb-true, leb-false, eq-eqb, ne_eqb, le-leb}
use Rattle.incidence.specs.Report.{meaning, answer_by}
use Rattle.incidence.specs.declared.Answer.{Answer}
use Rattle.incidence.specs.declared.Answer.TheVariants.{Intact, Named, Beyond}

pub answer-intact : (d rows names : ℕ) (found : Bool) → rows ≡ 0 → answer_by d rows names found ≡ Intact
unfolding answer_by
answer-intact d rows names found h = rw (eq-eqb rows 0 h)

pub answer-named : (d rows names : ℕ) (found : Bool) → 0 < rows → 1 ≤ names → names ≤ d → found ≡ false → answer_by d rows names found ≡ Named
unfolding answer_by
answer-named d rows names found b l u s =
    let z : rows ≡ 0 → ⊥ = omega arith in
    rw (ne_eqb rows 0 z, le-leb 1 names l, le-leb names d u, s)

-- the names do not explain the rows: whether one is unexplained matters only where 1 to d items are named
pub answer-beyond : (d rows names : ℕ) (found : Bool) → 0 < rows → (1 ≤ names → names ≤ d → found ≡ true) → answer_by d rows names found ≡ Beyond
unfolding answer_by
answer-beyond d rows names found b h =
    let z : rows ≡ 0 → ⊥ = omega arith in
    rw (ne_eqb rows 0 z) (go (leb 1 names) refl (leb names d) refl)
  where
    go : (s : Bool) → leb 1 names ≡ s → (t : Bool) → leb names d ≡ t → (if (s && t) && not found then Named else Beyond) ≡ Beyond
    go true p true q = rw (h (leb-true 1 names p) (leb-true names d q))
    go true p false q = refl
    go false p t q = refl

-- what each answer says, by whether no row disagrees and whether the names explain the rows
abbrev saying : Answer → Bool → Bool → Bool
saying Intact b t = b
saying Named b t = not b && t
saying Beyond b t = not b && not t

said-so : (a : Answer) (d rows names : ℕ) (found : Bool) → (meaning a).says d rows names found ≡ saying a (eqb rows 0) ((leb 1 names && leb names d) && not found)
said-so Intact d rows names found = refl
said-so Named d rows names found = refl
said-so Beyond d rows names found = refl

-- of the three answers, exactly the one given says so
pub says-answer : (a : Answer) (d rows names : ℕ) (found : Bool) → ((meaning a).says d rows names found ≡ true) ↔ (a ≡ answer_by d rows names found)
unfolding answer_by
says-answer a d rows names found =
    let b = eqb rows 0 in
    let t = (leb 1 names && leb names d) && not found in
    ((λ h. only a b t (sym (said-so a d rows names found) ∙ h)), (λ e. said-so a d rows names found ∙ ap (λ (x : Answer). saying x b t) e ∙ says b t))
  where
    only : (a : Answer) (b t : Bool) → saying a b t ≡ true → a ≡ (if b then Intact else (if not b && t then Named else Beyond))
    only Intact true t h = refl
    only Intact false t h = absurd (true≢false (sym h))
    only Named true t h = absurd (true≢false (sym h))
    only Named false true h = refl
    only Named false false h = absurd (true≢false (sym h))
    only Beyond true t h = absurd (true≢false (sym h))
    only Beyond false true h = absurd (true≢false (sym h))
    only Beyond false false h = refl

    says : (b t : Bool) → saying (if b then Intact else (if not b && t then Named else Beyond)) b t ≡ true
    says true t = refl
    says false true = refl
    says false false = refl

-- one of three answers for each of three cases that exclude each other: each exactly in its case
pub threeways : (d x : ℕ) (a : Answer) → (x ≡ 0 → a ≡ Intact) → (1 ≤ x → x ≤ d → a ≡ Named) → (d < x → a ≡ Beyond)
    → ((a ≡ Intact) ↔ (x ≡ 0)) × ((a ≡ Named) ↔ ((1 ≤ x) × (x ≤ d))) × ((a ≡ Beyond) ↔ (d < x))
threeways d x a f g h = go (eqb x 0) refl (leb x d) refl
  where
    differ : (b c : Answer) → ((meaning b).ordinal ≡ (meaning c).ordinal → ⊥) → a ≡ b → a ≡ c → ⊥
    differ b c ne p q = ne (ap (λ (x : Answer). (meaning x).ordinal) (sym p ∙ q))

    go : (b : Bool) → eqb x 0 ≡ b → (c : Bool) → leb x d ≡ c
        → ((a ≡ Intact) ↔ (x ≡ 0)) × ((a ≡ Named) ↔ ((1 ≤ x) × (x ≤ d))) × ((a ≡ Beyond) ↔ (d < x))
    go true e c e2 =
        let z : x ≡ 0 = eqb-true x 0 e in (
          ((λ p. z), f),
          ((λ p. absurd (differ Intact Named (λ q. omega arith) (f z) p)), (λ p. g p.0 p.1)),
          ((λ p. absurd (differ Intact Beyond (λ q. omega arith) (f z) p)), h),
        )
    go false e true e2 =
        let z : x ≡ 0 → ⊥ = eqb-false x 0 e in
        let u : x ≤ d = leb-true x d e2 in
        let l : 1 ≤ x = omega arith in (
          ((λ p. absurd (differ Intact Named (λ q. omega arith) p (g l u))), f),
          ((λ p. (l, u)), (λ p. g p.0 p.1)),
          ((λ p. absurd (differ Named Beyond (λ q. omega arith) (g l u) p)), h),
        )
    go false e false e2 =
        let u : d < x = leb-false x d e2 in (
          ((λ p. absurd (differ Intact Beyond (λ q. omega arith) p (h u))), f),
          ((λ p. absurd (differ Named Beyond (λ q. omega arith) p (h u))), (λ p. g p.0 p.1)),
          ((λ p. u), h),
        )
