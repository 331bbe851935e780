-- Loops that write sums one by one: those done are new, the others are as they were. A walk over the numbers that pass adds the value once
-- to each of their sums.
use Rattle.std.specs.Prelude.{◌≡◌, ◌&&◌, ◌++◌, ◌+◌, ◌-◌, ◌*◌, ◌≤◌, ◌<◌, if◌then◌else◌}
use Rattle.fips197.proofs.Kit.{refl, sym, ap, ap₂, ◌∙◌, subst, Bool, true, false, List, ℕ, arith, ltb, eqb, length, get_or, take, drop, lt-ltb, le-ltb, ltb-true, ltb-false, eqb-true, eqb-false}
use Rattle.blocks.specs.Block.{◌⊕◌, slot}
use Rattle.blocks.proofs.Xor.{⊕-length}
use Rattle.blocks.proofs.Slots.{written, written_length, slot_here, slot_before, slot-after, drop-after, slot-length}
use Rattle.incidence.specs.Count.{count_up_to, listed}
use Rattle.incidence.specs.Family.{Family, tags_of}
use Rattle.incidence.proofs.Listing.{Member, tags_of-at, listed_rank, listed-length}
use Rattle.incidence.proofs.Counting.{count_before}
use Rattle.sizes.proofs.Laws.{written_front}
use Rattle.sums.specs.Adding.{sum_in, Holds, Added}

-- ---- one sum after another

-- of the first n sums, those done are new
abbrev pub Partly : ℕ → (ℕ → Bool) → (ℕ → List ℕ) → List ℕ → List ℕ → Type 0
Partly n done new before after = Holds n (λ j. if done j then new j else sum_in before j) before after

pub partly_none : (n : ℕ) (done : ℕ → Bool) (new : ℕ → List ℕ) (s : List ℕ) → ((j : ℕ) → 1 ≤ j → j ≤ n → done j ≡ false) → Partly n done new s s
partly_none n done new s h = record {
  size = refl;
  sums = λ j l u. ap (λ (b : Bool). if b then new j else sum_in s j) (sym (h j l u));
  rest = refl;
}

pub partly_all : (n : ℕ) (done : ℕ → Bool) (new : ℕ → List ℕ) (before s : List ℕ) → Partly n done new before s
    → ((j : ℕ) → 1 ≤ j → j ≤ n → done j ≡ true) → Holds n new before s
partly_all n done new before s P h = record {
  size = P.size;
  sums = λ j l u. P.sums j l u ∙ ap (λ (b : Bool). if b then new j else sum_in before j) (h j l u);
  rest = P.rest;
}

module _ (n : ℕ) (done : ℕ → Bool) (new : ℕ → List ℕ) (before s : List ℕ) (P : Partly n done new before s) where
  -- a sum that is done, and one that is not
  pub partly_new : (j : ℕ) → 1 ≤ j → j ≤ n → done j ≡ true → sum_in s j ≡ new j
  partly_new j l u e = P.sums j l u ∙ ap (λ (b : Bool). if b then new j else sum_in before j) e

  pub partly_old : (j : ℕ) → 1 ≤ j → j ≤ n → done j ≡ false → sum_in s j ≡ sum_in before j
  partly_old j l u e = P.sums j l u ∙ ap (λ (b : Bool). if b then new j else sum_in before j) e

  module _ (next : ℕ → Bool) (i : ℕ) (low : 1 ≤ i) (high : i ≤ n) (others : (j : ℕ) → 1 ≤ j → j ≤ n → (j ≡ i → ⊥) → next j ≡ done j) (this : next i ≡ true) where
    -- sum i is new in s', and the others are as in s
    step : (s' : List ℕ) → length s' ≡ length s → sum_in s' i ≡ new i → ((j : ℕ) → 1 ≤ j → (j ≡ i → ⊥) → sum_in s' j ≡ sum_in s j)
        → drop (16 * n) s' ≡ drop (16 * n) s → Partly n next new before s'
    step s' el here same er = record { size = el ∙ P.size; sums = λ j l u. go j l u (eqb j i) refl; rest = er ∙ P.rest }
      where
        go : (j : ℕ) → 1 ≤ j → j ≤ n → (b : Bool) → eqb j i ≡ b → sum_in s' j ≡ (if next j then new j else sum_in before j)
        go j l u true q =
            subst (λ (x : ℕ). sum_in s' x ≡ (if next x then new x else sum_in before x)) (sym (eqb-true j i q))
            (here ∙ ap (λ (b : Bool). if b then new i else sum_in before i) (sym this))
        go j l u false q =
            let ne = eqb-false j i q in
            same j l ne ∙ P.sums j l u ∙ ap (λ (b : Bool). if b then new j else sum_in before j) (sym (others j l u ne))

    -- it stays where it is new already
    pub partly_kept : sum_in s i ≡ new i → Partly n next new before s
    partly_kept e = step s refl e (λ j l ne. refl) refl

    -- or it is written
    pub partly_put : (v s' : List ℕ) → 16 * n ≤ length before → length v ≡ 16 → v ≡ new i
        → s' ≡ take (16 * (i - 1)) s ++ (v ++ drop (16 * (i - 1) + 16) s) → Partly n next new before s'
    unfolding sum_in
    partly_put v s' fits long ev e =
        step s' (ap length e ∙ written_length s (i - 1) v room long)
        (ap (λ (x : List ℕ). slot x (i - 1)) e ∙ slot_here s (i - 1) v room long ∙ ev)
        (λ j l ne. ap (λ (x : List ℕ). slot x (j - 1)) e ∙ other j l ne (ltb (j - 1) (i - 1)) refl)
        (ap (drop (16 * n)) e ∙ drop-after s (i - 1) v room long (16 * n) (omega arith))
      where
        room : 16 * (i - 1) + 16 ≤ length s
        room = omega (arith, P.size)

        other : (j : ℕ) → 1 ≤ j → (j ≡ i → ⊥) → (t : Bool) → ltb (j - 1) (i - 1) ≡ t → slot (written s (i - 1) v) (j - 1) ≡ slot s (j - 1)
        other j l ne true q = slot_before s (i - 1) v room long (j - 1) (ltb-true _ _ q)
        other j l ne false q =
            let b : i - 1 ≤ j - 1 = ltb-false _ _ q in
            slot-after s (i - 1) v room long (j - 1) (omega (arith, ne))

-- ---- a value is added to the sums that pass

-- picked among the first k that pass
abbrev pub passed : (ℕ → Bool) → ℕ → ℕ → Bool
passed p k i = p i && ltb (count_up_to p (i - 1)) k

not_passed : (p : ℕ → Bool) (k i : ℕ) → k ≤ count_up_to p (i - 1) → passed p k i ≡ false
not_passed p k i h = go (p i)
  where
    go : (b : Bool) → (b && ltb (count_up_to p (i - 1)) k) ≡ false
    go true = le-ltb (count_up_to p (i - 1)) k h
    go false = refl

is_passed : (p : ℕ → Bool) (k i : ℕ) → p i ≡ true → count_up_to p (i - 1) < k → passed p k i ≡ true
is_passed p k i e h = ap₂ ◌&&◌ e (lt-ltb (count_up_to p (i - 1)) k h)

-- one step further, another number is passed or not as before
as_before : (p : ℕ → Bool) (k j : ℕ) → (p j ≡ true → count_up_to p (j - 1) ≡ k → ⊥) → passed p (k + 1) j ≡ passed p k j
as_before p k j ne = go (p j) refl
  where
    tests : (x : ℕ) → (x ≡ k → ⊥) → ltb x (k + 1) ≡ ltb x k
    tests x n = cases (ltb x k) refl
      where
        cases : (t : Bool) → ltb x k ≡ t → ltb x (k + 1) ≡ t
        cases true e = lt-ltb x (k + 1) (omega (arith, ltb-true x k e))
        cases false e = le-ltb x (k + 1) (omega (arith, ltb-false x k e, n))

    go : (b : Bool) → p j ≡ b → (b && ltb (count_up_to p (j - 1)) (k + 1)) ≡ (b && ltb (count_up_to p (j - 1)) k)
    go true e = tests (count_up_to p (j - 1)) (ne e)
    go false e = refl

pub walk_first : (p : ℕ → Bool) (n : ℕ) (value s : List ℕ) → Added (passed p 0) n value s s
walk_first p n value s = partly_none n (passed p 0) (λ i. sum_in s i ⊕ value) s (λ j l u. not_passed p 0 j (omega arith))

pub walk_next : (p : ℕ → Bool) (n : ℕ) (value before s s' : List ℕ) (k i : ℕ) → Added (passed p k) n value before s → Member p n k i
    → 16 * n ≤ length before → length value ≡ 16
    → s' ≡ take (16 * (i - 1)) s ++ ((take 16 (drop (16 * (i - 1)) s) ⊕ value) ++ drop (16 * (i - 1) + 16) s)
    → Added (passed p (k + 1)) n value before s'
unfolding sum_in slot
walk_next p n value before s s' k i W M fits long e =
    partly_put n (passed p k) (λ j. sum_in before j ⊕ value) before s W (passed p (k + 1)) i M.low M.high others
    (is_passed p (k + 1) i M.passes (omega (arith, M.rank)))
    (slot s (i - 1) ⊕ value) s' fits wide
    (ap (λ (x : List ℕ). x ⊕ value)
    (partly_old n (passed p k) (λ j. sum_in before j ⊕ value) before s W i M.low M.high (not_passed p k i (omega (arith, M.rank))))) e
  where
    wide : length (slot s (i - 1) ⊕ value) ≡ 16
    wide =
        let l : length (slot s (i - 1)) ≡ 16 = slot-length s (i - 1) (omega (arith, W.size, M.low, M.high)) in
        ⊕-length (slot s (i - 1)) value (omega arith) ∙ l

    others : (j : ℕ) → 1 ≤ j → j ≤ n → (j ≡ i → ⊥) → passed p (k + 1) j ≡ passed p k j
    others j l u ne =
        as_before p k j
        (λ o c. ne (sym (listed_rank p n j l u o) ∙ ap (λ (m : ℕ). get_or (listed p n) m 0) (c ∙ sym M.rank) ∙ listed_rank p n i M.low M.high M.passes))

pub walk_done : (p : ℕ → Bool) (n : ℕ) (value before s : List ℕ) (k : ℕ) → Added (passed p k) n value before s → count_up_to p n ≤ k → Added p n value before s
walk_done p n value before s k W h = record {
  size = W.size;
  sums = λ j l u. W.sums j l u ∙ ap (λ (b : Bool). if b then sum_in before j ⊕ value else sum_in before j) (all j l u (p j) refl);
  rest = W.rest;
}
  where
    all : (i : ℕ) → 1 ≤ i → i ≤ n → (b : Bool) → p i ≡ b → passed p k i ≡ p i
    all i l u true e = is_passed p k i e (omega (arith, count_before p n i l u e)) ∙ sym e
    all i l u false e = ap (λ (b : Bool). b && ltb (count_up_to p (i - 1)) k) e ∙ sym e

-- the walk over the tags of an item
module _ (F : Family) (j : ℕ) where
  pub tag_is : (k x : ℕ) → x ≡ get_or (tags_of F j) k 0 → k < length (tags_of F j) → Member (λ t. F.on (F.row_of_tag t) j) F.tags k x
  tag_is k x e h = subst (Member (λ t. F.on (F.row_of_tag t) j) F.tags k) (sym e) (tags_of-at F j k h)

  pub tags_counted : length (tags_of F j) ≡ count_up_to (λ t. F.on (F.row_of_tag t) j) F.tags
  unfolding tags_of
  tags_counted = listed-length (λ t. F.on (F.row_of_tag t) j) F.tags

  -- the tags as they are written, each gone over
  module _ (was : List ℕ) {now : List ℕ} {n : ℕ} (w : (now ≡ tags_of F j ++ drop (length (tags_of F j)) was) × (n ≡ length (tags_of F j))) where
    pub tag_here : (k : ℕ) → k < length (take n now) → Member (λ t. F.on (F.row_of_tag t) j) F.tags k (get_or (take n now) k 0)
    tag_here k h =
        let e = written_front (tags_of F j) was w in
        tag_is k _ (ap (λ (l : List ℕ). get_or l k 0) e) (omega (arith, ap length e))

    pub tags_done : count_up_to (λ t. F.on (F.row_of_tag t) j) F.tags ≤ length (take n now)
    tags_done = omega (arith, tags_counted, ap length (written_front (tags_of F j) was w))
