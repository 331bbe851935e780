-- Numbers in decimal: their digits do not depend on how many are allowed, the last one stands behind those of n / 10, and how many there
-- are.
use Rattle.std.specs.Prelude.{◌≡◌, ◌∷◌, ◌++◌, ◌+◌, ◌-◌, ◌*◌, ◌/◌, ◌%◌, ◌^◌, ◌≤◌, ◌<◌, if◌then◌else◌}
use Rattle.fips197.proofs.Kit.{refl, sym, ◌∙◌, ap, subst, Bool, true, false, List, [], append_assoc, ℕ, zero, suc, arith, add-one, pow-succ', eqb, ltb, length, take, drop, set, length-append, length-take, length-drop, length-set, set_split, drop_at, take_all, ltb-true, ltb-false, eqb-false, eq-eqb, ne_eqb}
use Rattle.printing.specs.Text.{digits, decimal}

digits_enough : (f g n : ℕ) → n < f → n < g → digits f n ≡ digits g n
unfolding digits
digits_enough zero g n h k = absurd (omega arith)
digits_enough (suc f) zero n h k = absurd (omega arith)
digits_enough (suc f) (suc g) n h k = go (ltb n 10) refl (digits_enough f g (n / 10))
  where
    go : (t : Bool) → ltb n 10 ≡ t → (n / 10 < f → n / 10 < g → digits f (n / 10) ≡ digits g (n / 10))
        → (if t then [] else digits f (n / 10)) ++ ((48 + n % 10) ∷ []) ≡ (if t then [] else digits g (n / 10)) ++ ((48 + n % 10) ∷ [])
    go true e next = refl
    go false e next =
        let low : 10 ≤ n = ltb-false n 10 e in
        ap (λ (l : List ℕ). l ++ ((48 + n % 10) ∷ [])) (next (omega arith) (omega arith))

-- the digits of n before its last, where r is n / 10
abbrev pub before : ℕ → List ℕ
before r = if eqb r 0 then [] else decimal r

pub decimal-last : (n : ℕ) → decimal n ≡ before (n / 10) ++ ((48 + n % 10) ∷ [])
unfolding decimal digits
decimal-last n = go (ltb n 10) refl
  where
    more : 10 ≤ n → digits n (n / 10) ≡ before (n / 10)
    more h =
        let e : eqb (n / 10) 0 ≡ false = ne_eqb (n / 10) 0 (λ (z : n / 10 ≡ 0). absurd (omega arith)) in
        digits_enough n (suc (n / 10)) (n / 10) (omega arith) (omega arith) ∙ sym (ap (λ (t : Bool). if t then [] else decimal (n / 10)) e)

    none : n < 10 → [] ≡ before (n / 10)
    none h =
        let z : n / 10 ≡ 0 = omega arith in
        sym (ap (λ (t : Bool). if t then [] else decimal (n / 10)) (eq-eqb (n / 10) 0 z))

    go : (t : Bool) → ltb n 10 ≡ t → (if t then [] else digits n (n / 10)) ++ ((48 + n % 10) ∷ []) ≡ before (n / 10) ++ ((48 + n % 10) ∷ [])
    go true e = ap (λ (l : List ℕ). l ++ ((48 + n % 10) ∷ [])) (none (ltb-true n 10 e))
    go false e = ap (λ (l : List ℕ). l ++ ((48 + n % 10) ∷ [])) (more (ltb-false n 10 e))

pub before_more : (r : ℕ) → 0 < r → before r ≡ before (r / 10) ++ ((48 + r % 10) ∷ [])
before_more r h = ap (λ (t : Bool). if t then [] else decimal r) (ne_eqb r 0 (λ (z : r ≡ 0). absurd (omega arith))) ∙ decimal-last r

drop_set : (l : List ℕ) (k v : ℕ) → k < length l → drop k (set l k v) ≡ v ∷ drop (k + 1) l
drop_set l k v h =
    let e : length (take k l) ≡ k = simp length-take (omega arith) in
    ap (drop k) (set_split l k v h) ∙ drop_at (take k l) (v ∷ drop (suc k) l) k e ∙ ap (λ (m : ℕ). v ∷ drop m l) (sym (add-one k))

-- the last digit of what rests is written before those that are
pub digits-next : (n rest k : ℕ) (text : List ℕ) → decimal n ≡ decimal rest ++ drop k text → 0 < k → k ≤ length text
    → decimal n ≡ before (rest / 10) ++ drop (k - 1) (set text (k - 1) (48 + rest % 10))
digits-next n rest k text e low high =
    let v = 48 + rest % 10 in
    let one : k - 1 + 1 ≡ k = omega arith in
    e ∙ ap (λ (l : List ℕ). l ++ drop k text) (decimal-last rest) ∙ append_assoc (before (rest / 10)) (v ∷ []) (drop k text)
    ∙ ap (λ (l : List ℕ). before (rest / 10) ++ l)
    (sym (drop_set text (k - 1) v (omega arith) ∙ ap (λ (m : ℕ). v ∷ drop m text) one))

pub digits_more : (n rest k : ℕ) (text : List ℕ) → decimal n ≡ decimal rest ++ drop k text → 0 < k → k ≤ length text → (rest / 10 ≡ 0 → ⊥)
    → decimal n ≡ decimal (rest / 10) ++ drop (k - 1) (set text (k - 1) (48 + rest % 10))
digits_more n rest k text e low high more =
    digits-next n rest k text e low high
    ∙ ap (λ (t : Bool). (if t then [] else decimal (rest / 10)) ++ drop (k - 1) (set text (k - 1) (48 + rest % 10))) (ne_eqb (rest / 10) 0 more)

-- until none is left
pub digits_done : (n rest k : ℕ) (text : List ℕ) → decimal n ≡ decimal rest ++ drop k text → 0 < k → k ≤ 20 → length text ≡ 20 → rest / 10 ≡ 0
    → take (20 - (k - 1)) (drop (k - 1) (set text (k - 1) (48 + rest % 10))) ≡ decimal n
digits_done n rest k text e low high long none =
    let all : length (drop (k - 1) (set text (k - 1) (48 + rest % 10))) ≤ 20 - (k - 1) = simp (length-drop, length-set) (omega arith) in
    take_all (20 - (k - 1)) (drop (k - 1) (set text (k - 1) (48 + rest % 10))) all
    ∙ sym (digits-next n rest k text e low (omega arith) ∙ ap (λ (m : ℕ). before m ++ drop (k - 1) (set text (k - 1) (48 + rest % 10))) none)

-- ---- how many digits

ten_more : (k : ℕ) → 10 ^ suc k ≡ 10 * 10 ^ k
ten_more k = pow-succ' 10 k

pub tenth_less : (r k : ℕ) → r < 10 ^ k → 0 < k → r / 10 < 10 ^ (k - 1)
tenth_less r zero h l = absurd (omega arith)
tenth_less r (suc k) h l =
    let e : suc k - 1 ≡ k = omega arith in
    let q : r / 10 < 10 ^ k = omega (arith, ten_more k) in
    subst (λ (m : ℕ). r / 10 < 10 ^ m) (sym e) q

before_short : (k r : ℕ) → r < 10 ^ k → length (before r) ≤ k
before_short zero r h = go (eqb r 0) refl
  where
    go : (t : Bool) → eqb r 0 ≡ t → length (if t then [] else decimal r) ≤ 0
    go true e = omega arith
    go false e = absurd (eqb-false r 0 e (omega arith))
before_short (suc k) r h = go (eqb r 0) refl (before_short k (r / 10))
  where
    go : (t : Bool) → eqb r 0 ≡ t → (r / 10 < 10 ^ k → length (before (r / 10)) ≤ k) → length (before r) ≤ suc k
    go true e ih = rw e (omega arith)
    go false e ih =
        let z : r ≡ 0 → ⊥ = eqb-false r 0 e in
        let l : 0 < r = omega arith in
        let q : r / 10 < 10 ^ k = omega (arith, ten_more k) in
        let j : length (before (r / 10)) ≤ k = ih q in
        let m : length (before r) ≡ length (before (r / 10)) + 1
        = ap length (before_more r l) ∙ length-append (before (r / 10)) ((48 + r % 10) ∷ []) in
        omega (arith, m, j)

-- a number below 10 ^ k has at most k digits
pub decimal-short : (k n : ℕ) → 0 < k → n < 10 ^ k → length (decimal n) ≤ k
decimal-short zero n l h = absurd (omega arith)
decimal-short (suc k) n l h =
    let p : 10 ^ suc k ≡ 10 * 10 ^ k = ten_more k in
    let q : n / 10 < 10 ^ k = omega (arith, p) in
    let b : length (before (n / 10)) ≤ k = before_short k (n / 10) q in
    let e : length (decimal n) ≡ length (before (n / 10)) + 1
    = ap length (decimal-last n) ∙ length-append (before (n / 10)) ((48 + n % 10) ∷ []) in
    omega (arith, e, b)
