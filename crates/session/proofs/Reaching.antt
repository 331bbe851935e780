-- Which sessions a run of the calls can give: an open one or the closed one (`opens`), and of open ones every size code, count and number
-- taken that `session_is_open` lets through (`some_run`). So `session_is_open` is exactly what document 01 says of it (`open_exactly`, `treated_as_closed`).
use Rattle.std.specs.Prelude.{◌≡◌, ◌&&◌, ◌∷◌, ◌⊎◌, ◌+◌, ◌≤◌, ◌<◌}
use Rattle.fips197.proofs.Kit.{refl, sym, ap, ◌∙◌, subst, Bool, true, false, List, [], inl, inr, ⊎_elim, ℕ, zero, suc, arith, eqb, leb, length, eqb-true, eqb-false, leb-true, le-leb}
use Rattle.blocks.specs.Block.{zeros}
use Rattle.incidence.proofs.Booleans.{not_both, and_left, and_right, and_both}
use Rattle.incidence.proofs.Counting.{inside_yes}
use Rattle.sizes.specs.Sizes.{known, family_of}
use Rattle.files.specs.Refusals.{Refusal}
use Rattle.files.specs.Refusals.{refusal, none, first}
use Rattle.files.specs.TagFile.{count_fits, file_size}
use Rattle.files.specs.Arguments.{refuse1, refuse2, refuse4, refuse7, refuse9}
use Rattle.files.proofs.Passing.{first_here, unless_true, unless_false, given, kept}
use Rattle.tagging.specs.Tagging.{keys_in}
use Rattle.session.specs.declared.Session.{Session}
use Rattle.session.specs.Session.{closed, session_is_open, session_head, refuse22, refuse23, refuse24, begin_refusal, begin_gives, put_refusal, with_item, put_gives, close_refusal, close_gives, after, Reached, Given}
use Rattle.session.proofs.Stepping.{none_of, begin_tells, put_tells}
use Rattle.session.proofs.Running.{taken_all, runs, closed_shut}

-- ---- every session of a run is open or closed

abbrev Either : Session → Type 0
Either s = (session_is_open s ≡ true) ⊎ (s ≡ closed)

-- the session that Begin gives where it passes
abbrev empty : List ℕ → ℕ → ℕ → ℕ → Session
empty keys c n number = record { number = number; code = c; count = n; taken = 0; keys = keys_in keys; sums = zeros 1312 }

begins : (keys : List ℕ) (c n number : ℕ) → Either (begin_gives keys c n number)
unfolding begin_gives session_is_open count_fits
begins keys c n number = go (begin_refusal keys c n) refl (eqb (begin_refusal keys c n).number 0) refl
  where
    go : (r : Refusal) → r ≡ begin_refusal keys c n → (t : Bool) → eqb r.number 0 ≡ t → Either (begin_gives keys c n number)
    go r q true e =
        let h = eqb-true r.number 0 e in
        let b = begin_tells keys c n r q h in
        subst Either (given r (begin_refusal keys c n) q (empty keys c n number) closed h)
        (inl (and_both (and_both b.code (and_both (le-leb 1 n b.low) (le-leb n _ b.high))) (le-leb 0 n (omega arith))))
    go r q false e = subst Either (kept r (begin_refusal keys c n) q (empty keys c n number) closed (eqb-false r.number 0 e)) (inr refl)

-- the closed session takes nothing
none_more : (s : Session) → s ≡ closed → s.taken < s.count → ⊥
unfolding closed
none_more s e l = let a = ap (λ (x : Session). x.count) e in omega arith

puts : (s : Session) (item : List ℕ) → Either s → Either (put_gives s item)
unfolding put_gives with_item session_is_open
puts s item E = go (put_refusal s item) refl (eqb (put_refusal s item).number 0) refl
  where
    go : (r : Refusal) → r ≡ put_refusal s item → (t : Bool) → eqb r.number 0 ≡ t → Either (put_gives s item)
    go r q true e =
        let h = eqb-true r.number 0 e in
        let p = put_tells s item r q h in
        subst Either (given r (put_refusal s item) q (with_item s item) s h)
        (inl (⊎_elim
        (λ o. and_both (and_left (count_fits s.code s.count) (leb s.taken s.count) o) (le-leb (s.taken + 1) s.count (omega (arith, p.more))))
        (λ z. absurd (none_more s z p.more)) E))
    go r q false e = subst Either (kept r (put_refusal s item) q (with_item s item) s (eqb-false r.number 0 e)) E

closes_either : (s : Session) (out : List ℕ) → Either s → Either (close_gives s out)
unfolding close_gives
closes_either s out E = go (close_refusal s out) refl (eqb (close_refusal s out).number 0) refl
  where
    go : (r : Refusal) → r ≡ close_refusal s out → (t : Bool) → eqb r.number 0 ≡ t → Either (close_gives s out)
    go r q true e = subst Either (given r (close_refusal s out) q closed s (eqb-true r.number 0 e)) (inr refl)
    go r q false e = subst Either (kept r (close_refusal s out) q closed s (eqb-false r.number 0 e)) E

-- Every session that a run gives is open, or is the closed session.
pub opens : (s : Session) → Reached s → (session_is_open s ≡ true) ⊎ (s ≡ closed)
opens s (Reached.begun keys c n number) = begins keys c n number
opens s (Reached.put_one p item R) = puts p item (opens p R)
opens s (Reached.closed_by p out R) = closes_either p out (opens p R)

-- ---- every open session's size code and counts are those of a run

reaches : (keys : List ℕ) (c n number : ℕ) (items : ℕ → List ℕ) (k : ℕ) → Reached (after keys c n number items k)
unfolding after
reaches keys c n number items zero = Reached.begun keys c n number
reaches keys c n number items (suc k) = Reached.put_one (after keys c n number items k) (items (suc k)) (reaches keys c n number items k)

closed_not_open : session_is_open closed ≡ true → ⊥
closed_not_open e = not_both (session_is_open closed) e closed_shut

module _ (s : Session) (o : session_is_open s ≡ true) where
  fits : count_fits s.code s.count ≡ true
  unfolding session_is_open
  fits = and_left (count_fits s.code s.count) (leb s.taken s.count) o

  few : s.taken ≤ s.count
  unfolding session_is_open
  few = leb-true _ _ (and_right (count_fits s.code s.count) (leb s.taken s.count) o)

  begin_passes : begin_refusal (zeros 48) s.code s.count ≡ none
  unfolding begin_refusal refuse1 refuse2 refuse4 count_fits
  begin_passes =
      let a = leb 1 s.count in
      let b = leb s.count (family_of s.code).items in
      let q = and_right (known s.code) (a && b) fits in
      none_of _ _ _ refl (unless_true _ 2 0 (and_left (known s.code) (a && b) fits))
      (unless_true _ 4 0 (inside_yes (family_of s.code).items s.count (leb-true _ _ (and_left a b q)) (leb-true _ _ (and_right a b q))))

  -- A run that gives its size code and counts: Begin with keys of zero bytes, and so many puts of empty items.
  pub some_run : Given s.code s.count s.taken
  some_run =
      let last = after (zeros 48) s.code s.count s.number (λ j. []) s.taken in
      let R = runs (zeros 48) s.code s.count s.number (λ j. []) begin_passes (λ j l u. omega arith) s.taken few in
      let C = taken_all (zeros 48) s.code s.count s.number (λ j. []) s.taken R in
      record {
        session = last;
        reached = reaches (zeros 48) s.code s.count s.number (λ j. []) s.taken;
        not-closed = λ e. closed_not_open (ap session_is_open (sym e) ∙ C.is_open);
        code = C.code;
        count = C.count;
        taken = C.taken;
      }

open_by : (s : Session) → Given s.code s.count s.taken → session_is_open s ≡ true
unfolding session_is_open
open_by s G =
    ⊎_elim (λ o. sym (λ i. count_fits (G.code i) (G.count i) && leb (G.taken i) (G.count i)) ∙ o) (λ e. absurd (G.not-closed e))
    (opens G.session G.reached)

-- A session is open exactly where a run gives its size code, count and number taken, other than by the closed session.
pub open_exactly : (s : Session) → (session_is_open s ≡ true → Given s.code s.count s.taken) × (Given s.code s.count s.taken → session_is_open s ≡ true)
open_exactly s = (some_run s, open_by s)

-- "A session whose size code or counts no run of these calls can give is treated as closed": a put and a close are refused, 24, and give it
-- back as it was.
pub treated_as_closed : (s : Session) → (Given s.code s.count s.taken → ⊥) → (item out : List ℕ)
    → (put_refusal s item ≡ refusal 24 0) × (close_refusal s out ≡ refusal 24 0) × (put_gives s item ≡ s) × (close_gives s out ≡ s)
unfolding put_refusal close_refusal put_gives close_gives refuse24
treated_as_closed s never item out = go (session_is_open s) refl
  where
    go : (t : Bool) → session_is_open s ≡ t → (put_refusal s item ≡ refusal 24 0) × (close_refusal s out ≡ refusal 24 0) × (put_gives s item ≡ s) × (close_gives s out ≡ s)
    go true e = absurd (never (some_run s e))
    go false e =
        let a = unless_false (session_is_open s) 24 0 e in
        let p : put_refusal s item ≡ refusal 24 0 = ap (λ (r : Refusal). first (r ∷ refuse22 s ∷ refuse9 (length item) 0 ∷ [])) a ∙ first_here _ _ (λ z. omega arith) in
        let q : close_refusal s out ≡ refusal 24 0 = ap (λ (r : Refusal). first (r ∷ refuse23 s ∷ refuse7 (file_size (session_head s)) (length out) ∷ [])) a ∙ first_here _ _ (λ z. omega arith) in
        (p, q, sym (kept (refusal 24 0) (put_refusal s item) (sym p) (with_item s item) s (λ z. omega arith)), sym (kept (refusal 24 0) (close_refusal s out) (sym q) closed s (λ z. omega arith)))
