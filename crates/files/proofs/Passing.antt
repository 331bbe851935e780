-- Refusals: what passes is none, and the first of a list.
use Rattle.std.specs.Prelude.{◌≡◌, ◌&&◌, ◌∷◌, ◌<◌, if◌then◌else◌}
use Rattle.std.specs.Prelude.{Result, Ok, Err, IfOk, is_err}
use Rattle.fips197.proofs.Kit.{refl, sym, ap, ◌∙◌, Bool, true, false, List, [], ℕ, arith, eqb, eqb-true, eqb-false, eq-eqb, ne_eqb}
use Rattle.files.specs.declared.refusals.Reason.{Reason}
use Rattle.files.specs.declared.refusals.Reason.TheVariants.{Keys, Code, Message, Count, Items, TagFile, Room, Number, Item, Mac, Counts, Full, Early, Shut, Numbers}
use Rattle.files.specs.declared.refusals.Refused.{Refused}
use Rattle.files.specs.Refusals.{Refusal, refusal, none, unless, passes, first, number_of, told}

-- ---- first

pub first_here : (r : Refusal) (rest : List Refusal) → (r.number ≡ 0 → ⊥) → first (r ∷ rest) ≡ r
unfolding first
first_here r rest h = rw (ne_eqb r.number 0 h) refl

pub first_later : (r : Refusal) (rest : List Refusal) → r ≡ none → first (r ∷ rest) ≡ first rest
unfolding first
first_later r rest e = ap (λ (x : Refusal). if passes x then first rest else x) e

pub first-none : (r : Refusal) → r ≡ none → first (r ∷ []) ≡ none
unfolding first
first-none r e = first_later r [] e

pub first_past : (r : Refusal) (rest : List Refusal) → r.number ≡ 0 → first (r ∷ rest) ≡ first rest
unfolding first
first_past r rest h = rw (eq-eqb r.number 0 h) refl

-- what is left of a list that passes
pub rest-passes : (r : Refusal) (rest : List Refusal) → (first (r ∷ rest)).number ≡ 0 → (r.number ≡ 0) × ((first rest).number ≡ 0)
unfolding first
rest-passes r rest h = go (eqb r.number 0) refl h
  where
    go : (t : Bool) → eqb r.number 0 ≡ t → (if t then first rest else r).number ≡ 0 → (r.number ≡ 0) × ((first rest).number ≡ 0)
    go true e p = (eqb-true r.number 0 e, p)
    go false e p = absurd (eqb-false r.number 0 e p)

-- ---- unless

pub unless_true : (t : Bool) (n p : ℕ) → t ≡ true → unless t n p ≡ none
unless_true t n p e = ap (λ (b : Bool). if b then none else refusal n p) e

pub unless_false : (t : Bool) (n p : ℕ) → t ≡ false → unless t n p ≡ refusal n p
unless_false t n p e = ap (λ (b : Bool). if b then none else refusal n p) e

pub unless-passes : (t : Bool) (n p : ℕ) → 0 < n → (unless t n p).number ≡ 0 → t ≡ true
unless-passes true n p h e = refl
unless-passes false n p h e = absurd (omega arith)

-- two tests, of which the first settles it or leaves it to the second
pub unless-and : (a b : Bool) (n p : ℕ) → a ≡ true → unless b n p ≡ unless (a && b) n p
unless-and a b n p e = ap (λ (x : Bool). unless (x && b) n p) (sym e)

pub unless_not : (a b : Bool) (n p : ℕ) → a ≡ false → refusal n p ≡ unless (a && b) n p
unless_not a b n p e = ap (λ (x : Bool). unless (x && b) n p) (sym e)

-- ---- what passes is none

-- a refusal of number 0 has place 0 too
abbrev pub Plain : Refusal → Type 0
Plain r = r.number ≡ 0 → r ≡ none

pub plain_unless : (t : Bool) (n p : ℕ) → 0 < n → Plain (unless t n p)
plain_unless true n p h e = refl
plain_unless false n p h e = absurd (omega arith)

abbrev pub AllPlain : List Refusal → Type 0
AllPlain [] = Unit {0}
AllPlain (r ∷ rest) = Plain r × AllPlain rest

pub plain_first : (l : List Refusal) → AllPlain l → Plain (first l)
unfolding first
plain_first [] a h = refl
plain_first (r ∷ rest) a h = let p = rest-passes r rest h in first_later r rest (a.0 p.0) ∙ plain_first rest a.1 p.1

pub plain_last : (r : Refusal) → Plain r → first (r ∷ []) ≡ r
plain_last r p = go (passes r) refl
  where
    go : (b : Bool) → passes r ≡ b → first (r ∷ []) ≡ r
    go true e = first-none r (p (eqb-true r.number 0 e)) ∙ sym (p (eqb-true r.number 0 e))
    go false e = first_here r [] (eqb-false r.number 0 e)

-- ---- r is the refusal that the code has, q the one that the contract names

pub number_along : (r q : Refusal) → r ≡ q → r.number ≡ 0 → q.number ≡ 0
number_along r q e h = ap (λ (x : Refusal). x.number) (sym e) ∙ h

-- what a call leaves where it is done, and where it is refused
module _ {A : Type 0} (r q : Refusal) (e : r ≡ q) (done left : A) where
  pub given : r.number ≡ 0 → done ≡ (if passes q then done else left)
  given h = ap (λ (t : Bool). if t then done else left) (sym (eq-eqb q.number 0 (number_along r q e h)))

  pub kept : (r.number ≡ 0 → ⊥) → left ≡ (if passes q then done else left)
  kept h = ap (λ (t : Bool). if t then done else left) (sym (ne_eqb q.number 0 (λ z. h (number_along q r (sym e) z))))

-- ---- what a result tells

pub number-low : (w : Reason) → 0 < number_of w
number-low Keys = omega arith
number-low Code = omega arith
number-low Message = omega arith
number-low Count = omega arith
number-low Items = omega arith
number-low TagFile = omega arith
number-low Room = omega arith
number-low Number = omega arith
number-low Item = omega arith
number-low Mac = omega arith
number-low Counts = omega arith
number-low Full = omega arith
number-low Early = omega arith
number-low Shut = omega arith
number-low Numbers = omega arith

pub number-high : (w : Reason) → number_of w < 256
number-high Keys = omega arith
number-high Code = omega arith
number-high Message = omega arith
number-high Count = omega arith
number-high Items = omega arith
number-high TagFile = omega arith
number-high Room = omega arith
number-high Number = omega arith
number-high Item = omega arith
number-high Mac = omega arith
number-high Counts = omega arith
number-high Full = omega arith
number-high Early = omega arith
number-high Shut = omega arith
number-high Numbers = omega arith

-- a check that refuses is the first that applies; one that passes leaves it to the rest
pub told_stop : (e : Refused) (q : Refusal) (rest : List Refusal) → refusal (number_of e.reason) e.place ≡ q
    → refusal (number_of e.reason) e.place ≡ first (q ∷ rest)
told_stop e q rest h =
    h ∙ sym (first_here q rest (λ z. let l = number-low e.reason in let n = ap (λ (x : Refusal). x.number) h in absurd (omega arith)))

pub told_past : (x q : Refusal) (rest : List Refusal) → none ≡ q → x ≡ first rest → x ≡ first (q ∷ rest)
told_past x q rest h e = e ∙ sym (first_later q rest (sym h))

pub told_last : {A : Type 0} (r : Result A Refused) (q : Refusal) → told r ≡ q → told r ≡ first (q ∷ [])
told_last (Ok u) q h = sym (first-none q (sym h))
told_last (Err e) q h = told_stop e q [] h

-- what a call's checks tell is the first of its list, for a function that has them one behind the other
pub ruleset checked = (told_stop, told_past, told_last)

pub told_passes : (q : Refusal) → none ≡ q → q.number ≡ 0
told_passes q h = ap (λ (x : Refusal). x.number) (sym h)

-- whether a result is an error says whether what it tells is a refusal
module _ {A : Type 0} (r : Result A Refused) (q : Refusal) (e : told r ≡ q) where
  pub told_ok : is_err r ≡ false → q.number ≡ 0
  told_ok h = number_along (told r) q e (go r h)
    where
      go : (x : Result A Refused) → is_err x ≡ false → (told x).number ≡ 0
      go (Ok u) h = refl
      go (Err d) h = absurd (cc h)

  pub told_err : is_err r ≡ true → q.number ≡ 0 → ⊥
  told_err h z = go r h (number_along q (told r) (sym e) z)
    where
      go : (x : Result A Refused) → is_err x ≡ true → (told x).number ≡ 0 → ⊥
      go (Ok u) h z = cc h
      go (Err d) h z = let l = number-low d.reason in absurd (omega arith)

-- two results that tell the same are the same, so that a contract which says what a result tells settles it
reason_of : ℕ → Reason
reason_of n =
    if eqb n 1 then Keys else if eqb n 2 then Code else if eqb n 3 then Message else if eqb n 4 then Count else if eqb n 5 then Items else if eqb n 6 then TagFile
    else if eqb n 7 then Room else if eqb n 8 then Number else if eqb n 9 then Item else if eqb n 20 then Mac else if eqb n 21 then Counts else if eqb n 22 then Full
    else if eqb n 23 then Early else if eqb n 24 then Shut else Numbers

reason_back : (w : Reason) → reason_of (number_of w) ≡ w
unfolding reason_of
reason_back Keys = refl
reason_back Code = refl
reason_back Message = refl
reason_back Count = refl
reason_back Items = refl
reason_back TagFile = refl
reason_back Room = refl
reason_back Number = refl
reason_back Item = refl
reason_back Mac = refl
reason_back Counts = refl
reason_back Full = refl
reason_back Early = refl
reason_back Shut = refl
reason_back Numbers = refl

err_settles : (d b : Refused) → refusal (number_of d.reason) d.place ≡ refusal (number_of b.reason) b.place → d ≡ b
err_settles d b h =
    let w = sym (reason_back d.reason) ∙ ap (λ (r : Refusal). reason_of r.number) h ∙ reason_back b.reason in
    λ i. record { reason = w i; place = (ap (λ (r : Refusal). r.place) h) i }

no_err : (d : Refused) → none ≡ refusal (number_of d.reason) d.place → ⊥
no_err d h = let l = number-low d.reason in let n = ap (λ (r : Refusal). r.number) h in absurd (omega arith)

-- and where a value stands beside, as Verify's and Report's, two that tell the same and have that value if they have one
pub told_settles_with : {A : Type 0} (x y : Result A Refused) → told x ≡ told y → (v : A) → IfOk x (λ a. a ≡ v) → IfOk y (λ a. a ≡ v) → x ≡ y
told_settles_with (Ok a) (Ok b) h v p q = ap (λ w. Ok w) (p ∙ sym q)
told_settles_with (Ok a) (Err d) h v p q = absurd (no_err d h)
told_settles_with (Err d) (Ok b) h v p q = absurd (no_err d (sym h))
told_settles_with (Err d) (Err b) h v p q = ap (λ w. Err w) (err_settles d b h)

pub told_settles : (x y : Result (Unit {0}) Refused) → told x ≡ told y → x ≡ y
told_settles (Ok u) (Ok v) h = refl
told_settles (Ok u) (Err d) h = absurd (no_err d h)
told_settles (Err d) (Ok u) h = absurd (no_err d (sym h))
told_settles (Err d) (Err b) h = ap (λ w. Err w) (err_settles d b h)

-- what a call leaves where its checks pass, and where one refuses
module _ {A : Type 0} (q : Refusal) (done left : A) where
  pub given_told : none ≡ q → done ≡ (if passes q then done else left)
  given_told e = given none q e done left refl

  pub kept_told : (e : Refused) → refusal (number_of e.reason) e.place ≡ q → left ≡ (if passes q then done else left)
  kept_told e h = kept (refusal (number_of e.reason) e.place) q h done left (λ z. let l = number-low e.reason in absurd (omega arith))
