-- What the loops know, of the marks counted, of a row's items and of the rows compared: at first, after one turn more, and at the end.
use Rattle.std.specs.Prelude.{◌≡◌, ◌&&◌, ◌||◌, ◌∷◌, ◌++◌, ◌+◌, ◌-◌, ◌≤◌, ◌<◌, count_by, if◌then◌else◌}
use Rattle.std.specs.List.{list_any}
use Rattle.std.proofs.Math.Bool.{or-false}
use Rattle.std.proofs.lemmas.List.Folds.{list_any-append}
use Rattle.std.proofs.lemmas.List.Sums.{count_by_more_no, count_by_more_yes}
use Rattle.fips197.proofs.Kit.{refl, sym, ap, ap₂, ◌∙◌, subst, Bool, true, false, not, List, [], ℕ, zero, suc, arith, add-one, eqb, length, get_or, take, eqb-true, eq-eqb}
use Rattle.incidence.specs.Count.{indicator, count_up_to, any_up_to, listed, inside}
use Rattle.incidence.specs.Family.{Family, items_of, holds_one}
use Rattle.incidence.specs.Report.{cleared, disagreeing}
use Rattle.incidence.proofs.Booleans.{and_left, and_right, and_both, not_both}
use Rattle.incidence.proofs.Counting.{count_most, count_before, any_found, any_some, any_none, inside_yes, inside-high}
use Rattle.incidence.proofs.Walking.{cleared_step, counted_step}
use Rattle.incidence.proofs.Listing.{items_of-at, listed_rank, listed-length}
use Rattle.decoding.specs.Decoding.{mark_in, Cleared, is_marked}
use Rattle.decoding.proofs.Marks.{cleared_as, cleared_at, cleared-none, cleared_both}

-- ---- one number more

any_next : (p : ℕ → Bool) (i : ℕ) → any_up_to p (i + 1) ≡ any_up_to p i || p (i + 1)
any_next p i = ap (any_up_to p) (add-one i) ∙ ap (λ (k : ℕ). any_up_to p i || p k) (sym (add-one i))

-- where none below i passes, and i does not
pub any_fails : (p : ℕ → Bool) (i : ℕ) → 1 ≤ i → any_up_to p (i - 1) ≡ false → p i ≡ false → any_up_to p (i + 1 - 1) ≡ false
any_fails p i l e f =
    let s : suc (i - 1) ≡ i = omega arith in
    let z : i + 1 - 1 ≡ suc (i - 1) = omega arith in
    ap (any_up_to p) z ∙ ap₂ ◌||◌ e (ap p s ∙ f)

-- none of all
pub any_none_to : (p : ℕ → Bool) (i n : ℕ) → any_up_to p i ≡ false → i ≡ n → false ≡ any_up_to p n
any_none_to p i n e q = sym e ∙ ap (any_up_to p) q

-- ---- the marked items are counted

pub count_marked : (marks : List ℕ) (k : ℕ) → k ≤ length marks → count_by (λ x. not (eqb x 0)) (take k marks) ≡ count_up_to (is_marked marks) k
unfolding is_marked mark_in
count_marked marks zero h = refl
count_marked marks (suc k) h =
    let z : k ≡ suc k - 1 = omega arith in
    go (eqb (get_or marks k 0) 0) refl (count_marked marks k (omega arith))
    ∙ ap (λ (m : ℕ). count_up_to (is_marked marks) k + indicator (not (eqb (get_or marks m 0) 0))) z
  where
    marked : ℕ → Bool
    marked x = not (eqb x 0)

    place : k < length marks
    place = omega arith

    go : (b : Bool) → eqb (get_or marks k 0) 0 ≡ b → count_by (λ x. not (eqb x 0)) (take k marks) ≡ count_up_to (is_marked marks) k
        → count_by (λ x. not (eqb x 0)) (take (suc k) marks) ≡ count_up_to (is_marked marks) k + indicator (not (eqb (get_or marks k 0) 0))
    go true e h =
        rw e (omega (
          arith,
          h,
          ap (λ (m : ℕ). count_by (λ x. not (eqb x 0)) (take m marks)) (add-one k),
          count_by_more_no (λ x. not (eqb x 0)) marks k 0 place (ap not e),
        ))
    go false e h =
        rw e (omega (
          arith,
          h,
          ap (λ (m : ℕ). count_by (λ x. not (eqb x 0)) (take m marks)) (add-one k),
          count_by_more_yes (λ x. not (eqb x 0)) marks k 0 place (ap not e),
        ))

-- ---- the items that a row holds

-- one of the first k numbers of the list is j
abbrev pub picked : List ℕ → ℕ → ℕ → Bool
picked l k j = any_up_to (λ r. eqb (get_or l (r - 1) 0) j) k

pub picked_next : (l : List ℕ) (k j x : ℕ) → x ≡ get_or l k 0 → picked l (k + 1) j ≡ picked l k j || eqb x j
picked_next l k j x e =
    let z : k + 1 - 1 ≡ k = omega arith in
    any_next (λ r. eqb (get_or l (r - 1) 0) j) k
    ∙ ap (λ (y : ℕ). picked l k j || eqb y j) (ap (λ (m : ℕ). get_or l m 0) z ∙ sym e)

-- all of them, where a row holds items only
abbrev pub HoldsItems : Family → ℕ → Type 0
HoldsItems F row = (j : ℕ) → F.on row j ≡ true → j ≤ F.items

pub picked_all : (F : Family) (row k j : ℕ) → HoldsItems F row → k ≡ length (items_of F row) → 1 ≤ j → picked (items_of F row) k j ≡ F.on row j
unfolding items_of
picked_all F row k j items h l = go (F.on row j) refl
  where
    place : ℕ
    place = count_up_to (F.on row) (j - 1)

    counted : length (items_of F row) ≡ count_up_to (F.on row) F.items
    counted = listed-length (F.on row) F.items

    go : (b : Bool) → F.on row j ≡ b → picked (items_of F row) k j ≡ b
    go true o =
        let u = items j o in
        let z : place + 1 - 1 ≡ place = omega arith in
        any_some (λ r. eqb (get_or (items_of F row) (r - 1) 0) j) k (place + 1) (omega arith)
        (omega (arith, counted, count_before (F.on row) F.items j l u o))
        (eq-eqb _ j (ap (λ (m : ℕ). get_or (items_of F row) m 0) z ∙ listed_rank (F.on row) F.items j l u o))
    go false o =
        any_none (λ r. eqb (get_or (items_of F row) (r - 1) 0) j) k
        (λ r a b e. not_both (F.on row j)
        (subst (λ (x : ℕ). F.on row x ≡ true) (eqb-true _ j e) (items_of-at F row (r - 1) (omega arith)).passes) o)

-- the walk meets items only
pub item_low : (F : Family) (row : ℕ) {l : List ℕ} → l ≡ items_of F row → (k : ℕ) → k < length l → 1 ≤ get_or l k 0
item_low F row {l} e k h =
    subst (λ (x : List ℕ). 1 ≤ get_or x k 0) (sym e) (items_of-at F row k (omega (arith, ap length e))).low

-- ---- a row's items are cleared

pub picks_none : (l : List ℕ) (n : ℕ) (s : List ℕ) → Cleared (picked l 0) n s s
picks_none l n s = cleared-none (picked l 0) n s (λ j a b. refl)

pub picks_next : (l : List ℕ) (n : ℕ) {s t u : List ℕ} (k : ℕ) {x : ℕ} → Cleared (picked l k) n s t → x ≡ get_or l k 0 → Cleared (eqb x) n t u → Cleared (picked l (k + 1)) n s u
picks_next l n {s} {t} {u} k {x} C e D =
    cleared_as (λ j. picked l k j || eqb x j) (picked l (k + 1)) n s u (λ j a b. sym (picked_next l k j x e))
    (cleared_both (picked l k) (eqb x) n s t u C D)

pub picks_all : (F : Family) (row n : ℕ) {s t l : List ℕ} (k : ℕ) → HoldsItems F row → l ≡ items_of F row → k ≡ length l → Cleared (picked l k) n s t
    → Cleared (F.on row) n s t
picks_all F row n {s} {t} {l} k items e h C =
    cleared_as (picked l k) (F.on row) n s t (λ j a b. ap (λ (x : List ℕ). picked x k j) e ∙ picked_all F row k j items (h ∙ ap length e) a) C

-- ---- a row's items are looked at

any_listed : (p q : ℕ → Bool) (m : ℕ) → list_any p (listed q m) ≡ any_up_to (λ j. q j && p j) m
any_listed p q zero = refl
any_listed p q (suc m) = go (q (suc m)) (any_listed p q m)
  where
    go : (b : Bool) → list_any p (listed q m) ≡ any_up_to (λ j. q j && p j) m
        → list_any p (if b then listed q m ++ (suc m ∷ []) else listed q m) ≡ any_up_to (λ j. q j && p j) m || (b && p (suc m))
    go true h = list_any-append p (listed q m) (suc m ∷ []) ∙ ap₂ ◌||◌ h (or-false (p (suc m)))
    go false h = h ∙ sym (or-false (any_up_to (λ j. q j && p j) m))

pub holds_listed : (F : Family) (row n : ℕ) (set : ℕ → Bool) → HoldsItems F row → list_any (λ j. inside n j && set j) (items_of F row) ≡ holds_one F set n row
unfolding items_of
holds_listed F row n set items = any_listed (λ j. inside n j && set j) (F.on row) F.items ∙ go (holds_one F set n row) refl
  where
    go : (b : Bool) → holds_one F set n row ≡ b → any_up_to (λ j. F.on row j && (inside n j && set j)) F.items ≡ b
    go true e =
        let f = any_found (λ j. F.on row j && set j) n e in
        let o = and_left (F.on row f.at) (set f.at) f.passes in
        any_some (λ j. F.on row j && (inside n j && set j)) F.items f.at f.low (items f.at o) (and_both o (and_both (inside_yes n f.at f.low f.high) (and_right (F.on row f.at) (set f.at) f.passes)))
    go false e =
        any_none (λ j. F.on row j && (inside n j && set j)) F.items (λ j l u t. not_both (holds_one F set n row)
        (any_some (λ k. F.on row k && set k) n j l (inside-high n j (and_left (inside n j) (set j) (and_right (F.on row j) _ t)))
        (and_both (and_left (F.on row j) _ t) (and_right (inside n j) (set j) (and_right (F.on row j) _ t)))) e)

-- ---- the rows are compared

module _ (F : Family) (agrees : ℕ → Bool) (n row : ℕ) (s : List ℕ) where
  -- one that agrees clears its items
  pub taken-agrees : (t : List ℕ) → agrees row ≡ true → Cleared (F.on row) n s t → Cleared (λ j. agrees row && F.on row j) n s t
  taken-agrees t e C = cleared_as (F.on row) _ n s t (λ j l u. ap (λ (b : Bool). b && F.on row j) (sym e)) C

  -- one that does not clears nothing
  pub taken_other : agrees row ≡ false → Cleared (λ j. agrees row && F.on row j) n s s
  taken_other e = cleared-none _ n s (λ j l u. ap (λ (b : Bool). b && F.on row j) e)

-- the same number of rows by another name
pub as_many : (F : Family) (agrees : ℕ → Bool) (n : ℕ) {i k : ℕ} {s t : List ℕ} → i ≡ k → Cleared (cleared F agrees i) n s t → Cleared (cleared F agrees k) n s t
as_many F agrees n {s = s} {t = t} e C = subst (λ (r : ℕ). Cleared (cleared F agrees r) n s t) e C

-- of the rows before `row`, those that agree have cleared their items, and the others are counted
pub record Compared (F : Family) (agrees : ℕ → Bool) (n : ℕ) (before after : List ℕ) (others row : ℕ) : Type 0 where
  pub items : Cleared (cleared F agrees (row - 1)) n before after
  pub rows : others ≡ disagreeing agrees (row - 1)

pub compared_first : (F : Family) (agrees : ℕ → Bool) (n : ℕ) (s : List ℕ) → Compared F agrees n s s 0 1
unfolding cleared disagreeing
compared_first F agrees n s = record { items = cleared-none (cleared F agrees 0) n s (λ j l u. refl); rows = refl }

module _ {F : Family} {agrees : ℕ → Bool} {before s : List ℕ} {others row : ℕ} (low : 1 ≤ row) (C : Compared F agrees (length before) before s others row) where
  abbrev n : ℕ
  n = length before

  pub compared_few : others < row
  unfolding disagreeing
  compared_few = omega (arith, low, C.rows, count_most (λ r. not (agrees r)) (row - 1))

  -- the rows before the next one are those before this one, and this one
  here : suc (row - 1) ≡ row
  here = omega (arith, low)

  next : row + 1 - 1 ≡ suc (row - 1)
  next = omega (arith, low)

  compared_next : {after : List ℕ} {more : ℕ} → Cleared (λ j. agrees row && F.on row j) n s after → more ≡ others + indicator (not (agrees row))
      → Compared F agrees n before after more (row + 1)
  compared_next {after} D e = record {
    items = cleared_as (λ j. cleared F agrees (row - 1) j || (agrees row && F.on row j)) (cleared F agrees (row + 1 - 1)) n before after
        (λ j l u. sym (ap (λ (k : ℕ). cleared F agrees k j) next ∙ cleared_step F agrees (row - 1) j
        ∙ ap (λ (k : ℕ). cleared F agrees (row - 1) j || (agrees k && F.on k j)) here))
        (cleared_both (cleared F agrees (row - 1)) (λ j. agrees row && F.on row j) n before s after C.items D);
    rows = e ∙ ap (λ (k : ℕ). k + indicator (not (agrees row))) C.rows
        ∙ sym (ap (disagreeing agrees) next ∙ counted_step F agrees (row - 1)
        ∙ ap (λ (k : ℕ). disagreeing agrees (row - 1) + indicator (not (agrees k))) here);
  }

  module _ {after : List ℕ} (D : Cleared (λ j. agrees row && F.on row j) (length s) s after) where
    -- one that agrees is not counted, and one that does not is
    pub compared_agrees : agrees row ≡ true → Compared F agrees n before after others (row + 1)
    compared_agrees e = compared_next (cleared_at _ C.items.size D) (rw e (omega arith))

    pub compared_other : agrees row ≡ false → Compared F agrees n before after (others + 1) (row + 1)
    compared_other e = compared_next (cleared_at _ C.items.size D) (rw e refl)

  pub compared_done : (rows : ℕ) → row - 1 ≡ rows → Cleared (cleared F agrees rows) n before s × (others ≡ disagreeing agrees rows)
  compared_done rows e = (as_many F agrees n e C.items, C.rows ∙ ap (disagreeing agrees) e)
