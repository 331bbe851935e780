-- All rows from the tags, in place: the tags' sums move to their rows from the last to the first, and the other rows are made from the first
-- to the last.
use Rattle.std.specs.Prelude.{◌≡◌, ◌++◌, ◌+◌, ◌-◌, ◌*◌, ◌≤◌, ◌<◌, if◌then◌else◌}
use Rattle.fips197.proofs.Kit.{refl, sym, ap, ap₂, ◌∙◌, Bool, true, false, List, ℕ, suc, arith, ltb, leb, length, get_or, take, drop, drop-length, drop-cons, lt-ltb, le-ltb, ltb-true, ltb-false, le-leb, lt-leb, leb-true, leb-false, eq-eqb, ne_eqb}
use Rattle.blocks.specs.Block.{◌⊕◌, slot, zeros}
use Rattle.incidence.specs.Sum.{sum_of, expanded}
use Rattle.incidence.specs.Family.{Family, Lawful}
use Rattle.sizes.proofs.Laws.{written_at}
use Rattle.incidence.proofs.Sums.{earlier-at, sum_of_ext, expanded_ext, expanded-made, expanded-tagged}
use Rattle.sums.specs.Adding.{sum_in, Holds, spread_tags}
use Rattle.sums.proofs.Walking.{Partly, partly_none, partly_all, partly_new, partly_old, partly_kept, partly_put}

-- ---- the rows that a row is made of, from the last

pub sum_none : (sum : ℕ → List ℕ) (rows : List ℕ) (k : ℕ) → k ≡ length rows → zeros 16 ≡ sum_of sum (drop k rows)
unfolding sum_of
sum_none sum rows k e = ap (sum_of sum) (sym (ap (λ (m : ℕ). drop m rows) e ∙ drop-length rows))

pub sum_more : (sum : ℕ → List ℕ) (rows r : List ℕ) (k a : ℕ) → 0 < k → k ≤ length rows → a ≡ get_or rows (k - 1) 0 → r ≡ sum_of sum (drop k rows)
    → sum a ⊕ r ≡ sum_of sum (drop (k - 1) rows)
unfolding sum_of
sum_more sum rows r k a l h ea er =
    let e : k ≡ suc (k - 1) = omega arith in
    ap₂ (λ (x : ℕ) (y : List ℕ). sum x ⊕ y) ea (er ∙ ap (λ (m : ℕ). sum_of sum (drop m rows)) e)
    ∙ ap (sum_of sum) (sym (drop-cons rows (k - 1) 0 (omega arith)))

-- a row that a row without a tag is made of, as it is written: one before it
pub record Made (rows : List ℕ) (i k x : ℕ) : Type 0 where
  pub row : x ≡ get_or rows k 0
  pub low : 1 ≤ x
  pub before : x < i

pub made_here : (F : Family) → Lawful F → (i : ℕ) → 1 ≤ i → i ≤ F.rows → F.tag_of_row i ≡ 0 → (was : List ℕ) {now : List ℕ} {n : ℕ}
    → (now ≡ F.made i ++ drop (length (F.made i)) was) × (n ≡ length (F.made i)) → {k x : ℕ} → k < n → x ≡ get_or now k 0 → Made (F.made i) i k x
made_here F L i l u z was w {k} h r =
    let e = r ∙ written_at (F.made i) was w k h in
    let m = earlier-at i (F.made i) (L.earlier i l u z) k (omega (arith, w.1)) in
    record { row = e; low = omega (arith, m.0, e); before = omega (arith, m.1, e) }

-- ---- the tags' sums move to their rows, from the last

spread_none : (F : Family) (s : List ℕ) (i : ℕ) → F.tag_of_row i ≡ 0 → spread_tags F s i ≡ sum_in s i
unfolding spread_tags
spread_none F s i z = ap (λ (b : Bool). if b then sum_in s i else sum_in s (F.tag_of_row i)) (eq-eqb _ 0 z)

spread_some : (F : Family) (s : List ℕ) (i : ℕ) → (F.tag_of_row i ≡ 0 → ⊥) → spread_tags F s i ≡ sum_in s (F.tag_of_row i)
unfolding spread_tags
spread_some F s i z = ap (λ (b : Bool). if b then sum_in s i else sum_in s (F.tag_of_row i)) (ne_eqb _ 0 z)

-- the rows behind the first i have theirs
abbrev pub Spread : Family → List ℕ → List ℕ → ℕ → Type 0
Spread F before s i = Partly F.rows (ltb i) (spread_tags F before) before s

pub spread-first : (F : Family) (s : List ℕ) (i : ℕ) → i ≡ F.rows → Spread F s s i
spread-first F s i e = partly_none F.rows (ltb i) (spread_tags F s) s (λ j l u. le-ltb i j (omega arith))

module _ (F : Family) (before s : List ℕ) (i : ℕ) (low : 1 ≤ i) (high : i ≤ F.rows) (W : Spread F before s i) {t : ℕ} (et : t ≡ F.tag_of_row i) where
  others : (j : ℕ) → 1 ≤ j → j ≤ F.rows → (j ≡ i → ⊥) → ltb (i - 1) j ≡ ltb i j
  others j l u ne = go (ltb i j) refl
    where
      go : (b : Bool) → ltb i j ≡ b → ltb (i - 1) j ≡ b
      go true e = lt-ltb (i - 1) j (omega (arith, ltb-true i j e))
      go false e = le-ltb (i - 1) j (omega (arith, ltb-false i j e, ne))

  this : ltb (i - 1) i ≡ true
  this = lt-ltb (i - 1) i (omega arith)

  old : (j : ℕ) → 1 ≤ j → j ≤ i → sum_in s j ≡ sum_in before j
  old j l u = partly_old F.rows (ltb i) (spread_tags F before) before s W j l (omega arith) (le-ltb i j u)

  pub spread_stays : t ≡ 0 → Spread F before s (i - 1)
  spread_stays z =
      partly_kept F.rows (ltb i) (spread_tags F before) before s W (ltb (i - 1)) i low high others this
      (old i low (omega arith) ∙ sym (spread_none F before i (sym et ∙ z)))

  -- a tag's number is at most its row's: its sum has not been written over
  pub spread_moves : (t ≡ 0 → ⊥) → t ≤ i → (v s' : List ℕ) → 16 * F.rows ≤ length before → length v ≡ 16 → v ≡ take 16 (drop (16 * (t - 1)) s)
      → s' ≡ take (16 * (i - 1)) s ++ (v ++ drop (16 * (i - 1) + 16) s) → Spread F before s' (i - 1)
  unfolding sum_in slot
  spread_moves z h v s' fits long ev e =
      partly_put F.rows (ltb i) (spread_tags F before) before s W (ltb (i - 1)) i low high others this v s' fits long
      (ev ∙ old t (omega (arith, z)) h ∙ ap (sum_in before) et ∙ sym (spread_some F before i (λ y. z (et ∙ y)))) e

pub spread_done : (F : Family) (before s : List ℕ) (i : ℕ) → Spread F before s i → i ≡ 0 → Holds F.rows (spread_tags F before) before s
spread_done F before s i W e = partly_all F.rows (ltb i) (spread_tags F before) before s W (λ j l u. lt-ltb i j (omega arith))

-- ---- the other rows are made, from the first

-- row i's sum from the tags', which stand at their rows
abbrev pub from_tagged : Family → List ℕ → ℕ → List ℕ
from_tagged F s i = expanded F (λ k. sum_in s (F.row_of_tag k)) i

-- the first k rows have theirs
abbrev pub Filled : Family → List ℕ → List ℕ → ℕ → Type 0
Filled F before s k = Partly F.rows (λ j. leb j k) (from_tagged F before) before s

pub fill_first : (F : Family) (s : List ℕ) → Filled F s s 0
fill_first F s = partly_none F.rows (λ j. leb j 0) (from_tagged F s) s (λ j l u. lt-leb j 0 (omega arith))

module _ (F : Family) (L : Lawful F) (before s : List ℕ) (k i : ℕ) (ei : i ≡ k + 1) (high : i ≤ F.rows) (W : Filled F before s k) where
  low : 1 ≤ i
  low = omega arith

  rest : (j : ℕ) → 1 ≤ j → j ≤ F.rows → (j ≡ i → ⊥) → leb j i ≡ leb j k
  rest j l u ne = go (leb j k) refl
    where
      go : (b : Bool) → leb j k ≡ b → leb j i ≡ b
      go true e = le-leb j i (omega (arith, leb-true j k e))
      go false e = lt-leb j i (omega (arith, leb-false j k e, ne))

  here : leb i i ≡ true
  here = le-leb i i (omega arith)

  pub fill_stays : 1 ≤ F.tag_of_row i → Filled F before s i
  fill_stays t =
      partly_kept F.rows (λ j. leb j k) (from_tagged F before) before s W (λ j. leb j i) i low high rest here
      (partly_old F.rows (λ j. leb j k) (from_tagged F before) before s W i low high (lt-leb i k (omega arith))
      ∙ ap (sum_in before) (sym (L.row_back i low high t)) ∙ sym (expanded-tagged F L (λ m. sum_in before (F.row_of_tag m)) i low t))

  pub fill_makes : F.tag_of_row i ≡ 0 → (v s' : List ℕ) → 16 * F.rows ≤ length before → length v ≡ 16 → v ≡ sum_of (sum_in s) (F.made i)
      → s' ≡ take (16 * k) s ++ (v ++ drop (16 * k + 16) s) → Filled F before s' i
  fill_makes z v s' fits long ev e =
      let m : k ≡ i - 1 = omega arith in
      partly_put F.rows (λ j. leb j k) (from_tagged F before) before s W (λ j. leb j i) i low high rest here v s' fits long
      (ev ∙ sum_of_ext i (sum_in s) (from_tagged F before) (F.made i) (L.earlier i low high z)
      (λ a c d. partly_new F.rows (λ j. leb j k) (from_tagged F before) before s W a c (omega arith) (le-leb a k (omega arith)))
      ∙ sym (expanded-made F L (λ m. sum_in before (F.row_of_tag m)) i low high z))
      (e ∙ ap (λ (x : ℕ). take (16 * x) s ++ (v ++ drop (16 * x + 16) s)) m)

pub fill_done : (F : Family) (before s : List ℕ) (k : ℕ) → Filled F before s k → F.rows ≤ k → Holds F.rows (from_tagged F before) before s
fill_done F before s k W h = partly_all F.rows (λ j. leb j k) (from_tagged F before) before s W (λ j l u. le-leb j k (omega arith))

-- both steps
pub fill_both : (F : Family) → (1 ≤ F.rows → Lawful F) → (a b c : List ℕ) → Holds F.rows (spread_tags F a) a b → Holds F.rows (from_tagged F b) b c
    → Holds F.rows (expanded F (sum_in a)) a c
fill_both F L a b c P Q = record {
  size = Q.size ∙ P.size;
  sums = λ i l u. let M = L (omega (arith, l, u)) in Q.sums i l u ∙ expanded_ext F M (λ k. sum_in b (F.row_of_tag k)) (sum_in a) (moved M) i l u;
  rest = Q.rest ∙ P.rest;
}
  where
    moved : Lawful F → (k : ℕ) → 1 ≤ k → k ≤ F.tags → sum_in b (F.row_of_tag k) ≡ sum_in a k
    moved M k l u =
        let e = M.tag_back k l u in
        P.sums (F.row_of_tag k) (M.row_low k l u) (M.row-high k l u)
        ∙ spread_some F a (F.row_of_tag k) (λ z. omega arith) ∙ ap (sum_in a) e
