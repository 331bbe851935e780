-- Facts about tests that are passed or failed.
use Rattle.std.specs.Prelude.{◌≡◌, ◌&&◌, ◌||◌, ◌⊎◌}
use Rattle.fips197.proofs.Kit.{refl, sym, ◌∙◌, Bool, true, false, Bool·beq, true≢false, inl, inr}

pub and_left : (a b : Bool) → a && b ≡ true → a ≡ true
and_left true b h = refl
and_left false b h = h

pub and_right : (a b : Bool) → a && b ≡ true → b ≡ true
and_right true b h = h
and_right false b h = absurd (true≢false (sym h))

pub and_both : {a b : Bool} → a ≡ true → b ≡ true → a && b ≡ true
and_both p q = rw (p, q)

pub and_false_l : (a b : Bool) → a ≡ false → a && b ≡ false
and_false_l a b p = rw p

pub and_false_r : (a b : Bool) → b ≡ false → a && b ≡ false
and_false_r true b p = p
and_false_r false b p = refl

pub or_cases : (a b : Bool) → a || b ≡ true → (a ≡ true) ⊎ (b ≡ true)
or_cases true b h = inl refl
or_cases false b h = inr h

pub or-first : {a : Bool} (b : Bool) → a ≡ true → a || b ≡ true
or-first b p = rw p

pub or_second : (a : Bool) {b : Bool} → b ≡ true → a || b ≡ true
or_second true p = refl
or_second false p = p

pub or_false_r : (a b : Bool) → b ≡ false → a || b ≡ a
or_false_r true b p = refl
or_false_r false b p = p

pub and-or : (a b c : Bool) → a && (b || c) ≡ (a && b) || (a && c)
and-or true b c = refl
and-or false b c = refl

pub not_both : (b : Bool) → b ≡ true → b ≡ false → ⊥
not_both b p q = true≢false (sym p ∙ q)

-- a test that is not passed is failed
pub not_passed : (b : Bool) → (b ≡ true → ⊥) → b ≡ false
not_passed true h = absurd (h refl)
not_passed false h = refl

-- and one that is not failed is passed
pub not_failed : (b : Bool) → (b ≡ false → ⊥) → b ≡ true
not_failed true h = refl
not_failed false h = absurd (h refl)

-- two tests of which each is passed where the other is are equal
pub both_ways : (a b : Bool) → (a ≡ true → b ≡ true) → (b ≡ true → a ≡ true) → a ≡ b
both_ways true b f g = sym (f refl)
both_ways false b f g = sym (not_passed b (λ t. not_both false (g t) refl))

pub beq_eq : (a b : Bool) → Bool·beq a b ≡ true → a ≡ b
beq_eq true true h = refl
beq_eq true false h = sym h
beq_eq false true h = h
beq_eq false false h = refl
