-- The steps back that a polynomial's terms stand for, written one behind another: those passed stand at the front.
use Rattle.std.specs.Prelude.{◌≡◌, ◌∷◌, ◌++◌, ◌+◌, ◌-◌, ◌≤◌, ◌<◌, if◌then◌else◌}
use Rattle.fips197.proofs.Kit.{refl, sym, ap, ap₂, ◌∙◌, subst, Bool, true, false, List, [], append_assoc, ℕ, suc, arith, add-one, eqb, length, get_or, set, drop, length-append, drop-cons, set_at}
use Rattle.incidence.specs.Count.{indicator, listed}
use Rattle.incidence.proofs.Counting.{count_most}
use Rattle.incidence.proofs.Listing.{listed-length}
use Rattle.polynomials.specs.Polynomial.{poly_size}
use Rattle.polynomials.proofs.Sizes.{size-most}
use Rattle.cyclic.specs.CyclicCode.{steps_back}

-- the numbers 1 to j that pass stand at the front of what o was, and at is the place behind them
pub record Front (p : ℕ → Bool) (o : List ℕ) (j : ℕ) (out : List ℕ) (at : ℕ) : Type 0 where
  pub behind : at ≡ length (listed p j)
  pub so : out ≡ listed p j ++ drop (length (listed p j)) o

-- one more that passes
put_behind : (l o : List ℕ) (x : ℕ) → length l < length o
    → set (l ++ drop (length l) o) (length l) x ≡ (l ++ (x ∷ [])) ++ drop (length (l ++ (x ∷ []))) o
put_behind l o x h =
    let n : length (l ++ (x ∷ [])) ≡ suc (length l) = length-append l (x ∷ []) ∙ add-one (length l) in
    ap (λ (r : List ℕ). set (l ++ r) (length l) x) (drop-cons o (length l) 0 h)
    ∙ set_at l (get_or o (length l) 0) (drop (suc (length l)) o) x (length l) refl
    ∙ sym (append_assoc l (x ∷ []) (drop (suc (length l)) o))
    ∙ ap (λ (k : ℕ). (l ++ (x ∷ [])) ++ drop k o) (sym n)

front-next : (p : ℕ → Bool) (o : List ℕ) (j : ℕ) (out : List ℕ) (at : ℕ) (out' : List ℕ) (at' : ℕ) → Front p o j out at → at < length o
    → out' ≡ (if p (suc j) then set out at (suc j) else out) → at' ≡ at + indicator (p (suc j)) → Front p o (suc j) out' at'
front-next p o j out at out' at' F h e f = record { behind = f ∙ further (p (suc j)); so = e ∙ written (p (suc j)) }
  where
    l : List ℕ
    l = listed p j

    further : (t : Bool) → at + indicator t ≡ length (if t then l ++ (suc j ∷ []) else l)
    further true = ap (λ (k : ℕ). k + 1) F.behind ∙ sym (length-append l (suc j ∷ []))
    further false = omega (arith, F.behind)

    written : (t : Bool) → (if t then set out at (suc j) else out)
        ≡ (if t then l ++ (suc j ∷ []) else l) ++ drop (length (if t then l ++ (suc j ∷ []) else l)) o
    written true = ap₂ (λ (r : List ℕ) (k : ℕ). set r k (suc j)) F.so F.behind ∙ put_behind l o (suc j) (omega (arith, F.behind))
    written false = F.so

-- ---- the steps back

-- k rows back stands one of the rows
abbrev pub back : List ℕ → ℕ → Bool
back h k = eqb (get_or h (poly_size h - 1 - k) 0) 1

pub steps_begun : (h o : List ℕ) → Front (back h) o (1 - 1) o 0
steps_begun h o = record { behind = refl; so = refl }

pub steps_read : (h : List ℕ) (n k : ℕ) → n ≡ poly_size h → k < n → n - 1 - k < length h
steps_read h n k e l = omega (arith, size-most h)

pub steps_few : (h : List ℕ) (n k : ℕ) → n ≡ poly_size h → k < n → length h ≤ 274 → k ≤ 273
steps_few h n k e l f = omega (arith, size-most h)

pub steps_room : (h o out : List ℕ) (n k at : ℕ) → Front (back h) o (k - 1) out at → n ≡ poly_size h → 1 ≤ k → k < n → length h ≤ suc (length o)
    → at < length o
steps_room h o out n k at F e l u f =
    omega (arith, F.behind, listed-length (back h) (k - 1), count_most (back h) (k - 1), size-most h)

pub steps_next : (h o out out' : List ℕ) (n k at at' : ℕ) → Front (back h) o (k - 1) out at → n ≡ poly_size h → 1 ≤ k → k < n → length h ≤ suc (length o)
    → out' ≡ (if eqb (get_or h (n - 1 - k) 0) 1 then set out at k else out) → at' ≡ at + indicator (eqb (get_or h (n - 1 - k) 0) 1)
    → Front (back h) o (k + 1 - 1) out' at'
steps_next h o out out' n k at at' F e l u f eo ea =
    let z : k ≡ suc (k - 1) = omega arith in
    let y : suc (k - 1) ≡ k + 1 - 1 = omega arith in
    subst (λ (j : ℕ). Front (back h) o j out' at') y
    (front-next (back h) o (k - 1) out at out' at' F (steps_room h o out n k at F e l u f)
    (eo ∙ ap₂ (λ (m j : ℕ). if eqb (get_or h (m - 1 - j) 0) 1 then set out at j else out) e z)
    (ea ∙ ap₂ (λ (m j : ℕ). at + indicator (eqb (get_or h (m - 1 - j) 0) 1)) e z))

module _ (h o out : List ℕ) (n k at : ℕ) (F : Front (back h) o (k - 1) out at) (e : n ≡ poly_size h) (l : k - 1 ≤ n - 1) (u : n ≤ k) where
  last : k - 1 ≡ poly_size h - 1
  last = omega arith

  pub steps_written : out ≡ steps_back h ++ drop (length (steps_back h)) o
  unfolding steps_back
  steps_written = F.so ∙ ap (λ (j : ℕ). listed (back h) j ++ drop (length (listed (back h) j)) o) last

  pub steps_counted : at ≡ length (steps_back h)
  unfolding steps_back
  steps_counted = F.behind ∙ ap (λ (j : ℕ). length (listed (back h) j)) last
