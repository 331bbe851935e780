-- The digits of a text read one after another, and that the digits of a number are read back.
use Rattle.std.specs.Prelude.{◌≡◌, ◌&&◌, ◌∷◌, ◌++◌, ◌+◌, ◌-◌, ◌*◌, ◌/◌, ◌%◌, ◌^◌, ◌≤◌, ◌<◌, if◌then◌else◌, Option, Some, None, SomeIff}
use Rattle.fips197.proofs.Kit.{refl, sym, ◌∙◌, ap, subst, Bool, true, false, List, [], ℕ, zero, suc, arith, add-one, eqb, leb, ltb, length, get_or, drop, length-append, drop_of_length-le, drop-cons, leb-true, le-leb, lt-ltb, le-ltb, eqb-true, eqb-false}
use Rattle.incidence.proofs.Booleans.{and_left, and_right, and_both, and_false_l, and_false_r}
use Rattle.printing.specs.Text.{decimal}
use Rattle.printing.proofs.Decimals.{before, decimal-last}
use Rattle.command.specs.Numbers.{is_digit, digits_only, with_digit, with_digits, is_number, parsed_number, is_number32, parsed_number32}

and_one : (a : Bool) → (a && true) ≡ (true && a)
and_one true = refl
and_one false = refl

and_turn : (a b d : Bool) → (a && (b && d)) ≡ ((a && b) && d)
and_turn true b d = refl
and_turn false b d = refl

-- a digit, and 64 bits hold the number with it
abbrev pub Fits : ℕ → ℕ → Type 0
Fits v b = (48 ≤ b) × (b ≤ 57) × (10 * v + (b - 48) < 2 ^ 64)

-- ---- what is read and what is left: the number is v so far, and the digits from place i on are left
pub record Reading (s : List ℕ) (v i : ℕ) : Type 0 where
  pub inside : i ≤ length s
  pub small : v < 2 ^ 64
  pub digits : digits_only s ≡ digits_only (drop i s)
  pub number : with_digits 0 s ≡ with_digits v (drop i s)

pub reading_none : (s : List ℕ) → Reading s 0 0
reading_none s = record { inside = omega arith; small = omega arith; digits = refl; number = refl }

module _ (s : List ℕ) (v i : ℕ) (so : Reading s v i) (more : i < length s) where
  here : drop i s ≡ get_or s i 0 ∷ drop (i + 1) s
  here = drop-cons s i 0 more ∙ ap (λ (m : ℕ). get_or s i 0 ∷ drop m s) (sym (add-one i))

  digits_here : digits_only s ≡ (is_digit (get_or s i 0) && digits_only (drop (i + 1) s))
  unfolding digits_only
  digits_here = so.digits ∙ ap digits_only here

  number_here : with_digits 0 s ≡ with_digits (with_digit v (get_or s i 0)) (drop (i + 1) s)
  unfolding with_digits
  number_here = so.number ∙ ap (with_digits v) here

  reading_more : (w : ℕ) → Fits v (get_or s i 0) → w ≡ 10 * v + (get_or s i 0 - 48) → Reading s w (i + 1)
  unfolding is_digit with_digit
  reading_more w h e =
      let d : (leb 48 (get_or s i 0) && leb (get_or s i 0) 57) ≡ true =
      and_both (le-leb 48 (get_or s i 0) (omega (arith, h))) (le-leb (get_or s i 0) 57 (omega (arith, h))) in
      record {
        inside = omega arith;
        small = omega (arith, h, e);
        digits = digits_here ∙ ap (λ (q : Bool). q && digits_only (drop (i + 1) s)) d;
        number = number_here ∙ ap (λ (q : ℕ). with_digits q (drop (i + 1) s)) (sym e);
      }

  pub reading_next : (o : Option ℕ) → SomeIff o (Fits v (get_or s i 0)) (10 * v + (get_or s i 0 - 48)) → (w : ℕ) → o ≡ Some w
      → Reading s w (i + 1)
  reading_next o h w e = let f = subst (λ (x : Option ℕ). SomeIff x (Fits v (get_or s i 0)) (10 * v + (get_or s i 0 - 48))) e h in reading_more w f.0 f.1

-- a number grows with each digit
grows : (v : ℕ) (s : List ℕ) → v ≤ with_digits v s
unfolding with_digits with_digit
grows v [] = omega arith
grows v (b ∷ s) = let h = grows (10 * v + (b - 48)) s in omega (arith, h)

no_number : (s : List ℕ) → is_number s ≡ false → None ≡ parsed_number s
unfolding parsed_number
no_number s e = sym (ap (λ (t : Bool). if t then Some (with_digits 0 s) else None) e)

pub reading_empty : (s : List ℕ) → length s ≡ 0 → None ≡ parsed_number s
unfolding is_number
reading_empty [] h = no_number [] refl
reading_empty (b ∷ s) h = absurd (omega (arith, h))

pub reading_stops : (s : List ℕ) (v i : ℕ) → Reading s v i → i < length s → (Fits v (get_or s i 0) → ⊥) → None ≡ parsed_number s
unfolding is_number is_digit with_digit
reading_stops s v i so more n = go (is_digit (get_or s i 0)) refl
  where
    d : ℕ
    d = get_or s i 0

    go : (q : Bool) → is_digit d ≡ q → None ≡ parsed_number s
    go false z =
        let f : digits_only s ≡ false = digits_here s v i so more ∙ and_false_l _ _ z in
        no_number s (and_false_l _ _ (and_false_r (ltb 0 (length s)) _ f))
    go true z =
        let a : 48 ≤ d = leb-true 48 d (and_left _ _ z) in
        let b : d ≤ 57 = leb-true d 57 (and_right (leb 48 d) _ z) in
        let k : 10 * v + (d - 48) < 2 ^ 64 → ⊥ = λ (h : 10 * v + (d - 48) < 2 ^ 64). n (a, b, h) in
        let l : 2 ^ 64 ≤ with_digit v d = omega (arith, k) in
        let g : with_digit v d ≤ with_digits (with_digit v d) (drop (i + 1) s) = grows (with_digit v d) (drop (i + 1) s) in
        let m : 2 ^ 64 ≤ with_digits 0 s = omega (arith, l, g, number_here s v i so more) in
        no_number s (and_false_r (ltb 0 (length s) && digits_only s) _ (le-ltb (with_digits 0 s) (2 ^ 64) m))

-- all is read
pub reading_done : (s : List ℕ) (v i : ℕ) → Reading s v i → i ≡ length s → 0 < length s → Some v ≡ parsed_number s
unfolding parsed_number is_number digits_only with_digits
reading_done s v i so e some =
    let z : drop i s ≡ [] = drop_of_length-le s {i = i} (omega (arith, e)) in
    let n : with_digits 0 s ≡ v = so.number ∙ ap (with_digits v) z in
    let d : digits_only s ≡ true = so.digits ∙ ap digits_only z in
    let b : ltb (with_digits 0 s) (2 ^ 64) ≡ true = ap (λ (x : ℕ). ltb x (2 ^ 64)) n ∙ lt-ltb v (2 ^ 64) so.small in
    let a : is_number s ≡ true = and_both (and_both (lt-ltb 0 (length s) some) d) b in
    sym (ap (λ (t : Bool). if t then Some (with_digits 0 s) else None) a ∙ ap (λ (x : ℕ). Some x) n)

-- ---- a number of 32 bits

-- an option of a number as a number: they differ where these do
place : Option ℕ → ℕ
place None = 0
place (Some n) = n + 1

module _ (s : List ℕ) where
  either : Bool → Option ℕ
  either t = if t then Some (with_digits 0 s) else None

  -- o is what the text writes
  module _ (o : Option ℕ) (e : o ≡ parsed_number s) where
    so : (t : Bool) → is_number s ≡ t → place o ≡ place (either t)
    unfolding parsed_number either
    so t q = ap place (e ∙ ap either q)

    pub none_32 : o ≡ None → None ≡ parsed_number32 s
    unfolding parsed_number32 is_number32 either place
    none_32 z = go (is_number s) refl
      where
        go : (t : Bool) → is_number s ≡ t → None ≡ parsed_number32 s
        go true q = absurd (omega (arith, sym (ap place z) ∙ so true q))
        go false q = sym (ap either (and_false_l (is_number s) (ltb (with_digits 0 s) (2 ^ 32)) q))

    module _ (n : ℕ) (z : o ≡ Some n) where
      pub over_32 : (n < 2 ^ 32 → ⊥) → None ≡ parsed_number32 s
      unfolding parsed_number32 is_number32 either place
      over_32 h = go (is_number s) refl
        where
          go : (t : Bool) → is_number s ≡ t → None ≡ parsed_number32 s
          go true q =
              let l : 2 ^ 32 ≤ with_digits 0 s = omega (arith, sym (ap place z) ∙ so true q, h) in
              sym (ap either (and_false_r (is_number s) _ (le-ltb (with_digits 0 s) (2 ^ 32) l)))
          go false q = absurd (omega (arith, sym (ap place z) ∙ so false q))

      pub below_32 : n < 2 ^ 32 → Some n ≡ parsed_number32 s
      unfolding parsed_number32 is_number32 either place
      below_32 h = go (is_number s) refl
        where
          go : (t : Bool) → is_number s ≡ t → Some n ≡ parsed_number32 s
          go true q =
              let v : with_digits 0 s ≡ n = omega (arith, sym (ap place z) ∙ so true q) in
              let l : with_digits 0 s < 2 ^ 32 = omega (arith, v, h) in
              ap (λ (x : ℕ). Some x) (sym v) ∙ sym (ap either (and_both q (lt-ltb (with_digits 0 s) (2 ^ 32) l)))
          go false q = absurd (omega (arith, sym (ap place z) ∙ so false q))

-- ---- the digits of a number are read back

digits_snoc : (s : List ℕ) (b : ℕ) → digits_only (s ++ (b ∷ [])) ≡ (digits_only s && is_digit b)
unfolding digits_only
digits_snoc [] b = and_one (is_digit b)
digits_snoc (x ∷ s) b = ap (λ (t : Bool). is_digit x && t) (digits_snoc s b) ∙ and_turn (is_digit x) (digits_only s) (is_digit b)

number_snoc : (v : ℕ) (s : List ℕ) (b : ℕ) → with_digits v (s ++ (b ∷ [])) ≡ with_digit (with_digits v s) b
unfolding with_digits
number_snoc v [] b = refl
number_snoc v (x ∷ s) b = number_snoc (with_digit v x) s b

-- a list of digits that writes n
record Writes (s : List ℕ) (n : ℕ) : Type 0 where
  digits : digits_only s ≡ true
  number : with_digits 0 s ≡ n

writes_last : (s : List ℕ) (m n : ℕ) → Writes s m → m ≡ n / 10 → Writes (s ++ ((48 + n % 10) ∷ [])) n
unfolding with_digit is_digit
writes_last s m n w e =
    let b = 48 + n % 10 in
    let d : (leb 48 b && leb b 57) ≡ true = and_both (le-leb 48 b (omega arith)) (le-leb b 57 (omega arith)) in
    let q : 10 * with_digits 0 s + (b - 48) ≡ n = omega (arith, w.number, e) in
    record {
      digits = digits_snoc s b ∙ and_both w.digits d;
      number = number_snoc 0 s b ∙ q;
    }

writes : (f n : ℕ) → n < f → Writes (decimal n) n
unfolding digits_only with_digits
writes zero n h = absurd (omega arith)
writes (suc f) n h = go (eqb (n / 10) 0) refl (writes f (n / 10))
  where
    go : (t : Bool) → eqb (n / 10) 0 ≡ t → (n / 10 < f → Writes (decimal (n / 10)) (n / 10)) → Writes (decimal n) n
    go true e next =
        let z : n / 10 ≡ 0 = eqb-true (n / 10) 0 e in
        let w : Writes (before (n / 10)) (n / 10) = rw (e, z) (record { digits = refl; number = refl }) in
        subst (λ (l : List ℕ). Writes l n) (sym (decimal-last n)) (writes_last (before (n / 10)) (n / 10) n w refl)
    go false e next =
        let z : n / 10 ≡ 0 → ⊥ = eqb-false (n / 10) 0 e in
        let w : Writes (before (n / 10)) (n / 10) = rw e (next (omega arith)) in
        subst (λ (l : List ℕ). Writes l n) (sym (decimal-last n)) (writes_last (before (n / 10)) (n / 10) n w refl)

decimal_some : (n : ℕ) → 0 < length (decimal n)
decimal_some n = omega (arith, ap length (decimal-last n) ∙ length-append (before (n / 10)) ((48 + n % 10) ∷ []))

-- number_in reads what put_decimal puts
pub number_of_decimal : (n : ℕ) → n < 2 ^ 64 → parsed_number (decimal n) ≡ Some n
unfolding parsed_number is_number
number_of_decimal n h =
    let w = writes (suc n) n (omega arith) in
    let l : ltb 0 (length (decimal n)) ≡ true = lt-ltb 0 (length (decimal n)) (decimal_some n) in
    let b : ltb (with_digits 0 (decimal n)) (2 ^ 64) ≡ true = ap (λ (x : ℕ). ltb x (2 ^ 64)) w.number ∙ lt-ltb n (2 ^ 64) h in
    let a : is_number (decimal n) ≡ true = and_both (and_both l w.digits) b in
    ap (λ (t : Bool). if t then Some (with_digits 0 (decimal n)) else None) a ∙ ap (λ (x : ℕ). Some x) w.number
