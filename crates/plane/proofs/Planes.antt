-- The four planes are lawful and projective families, with document 01's numbers: what the crates above use of them.
use Rattle.std.specs.Prelude.{◌≡◌, ◌&&◌, ◌≤◌, ◌<◌, if◌then◌else◌}
use Rattle.fips197.proofs.Kit.{refl, ap, ◌∙◌, Bool, true, false, ℕ, suc, arith, leb, leb-true, leb-false, le-leb}
use Rattle.incidence.specs.Count.{count_up_to}
use Rattle.incidence.specs.Family.{Disjunct, Lawful, Projective}
use Rattle.incidence.proofs.Pigeonhole.{pigeonhole}
use Rattle.plane.specs.Table.{plane_items, plane_tags, plane_limit, differences, plane_pattern}
use Rattle.plane.specs.Plane.{plane, tagged, pairs}
use Rattle.plane.proofs.Cyclic.{Rules, once_at, column-weight, row-weight, columns_share, rows_share, pattern_yields, made-earlier}
use Rattle.plane.proofs.Rules.{rules}

-- ---- the tags of rows

tagged_yes : (t i : ℕ) → i ≤ t → tagged t i ≡ i
unfolding tagged
tagged_yes t i u = rw (le-leb i t u)

tagged-most : (t i : ℕ) → tagged t i ≤ t
unfolding tagged
tagged-most t i = go (leb i t) refl
  where
    go : (b : Bool) → leb i t ≡ b → (if b then i else 0) ≤ t
    go true e = leb-true i t e
    go false e = omega arith

tagged_some : (t i : ℕ) → 1 ≤ tagged t i → tagged t i ≡ i
unfolding tagged
tagged_some t i = go (leb i t)
  where
    go : (b : Bool) → 1 ≤ (if b then i else 0) → (if b then i else 0) ≡ i
    go true e = refl
    go false e = absurd (omega arith)

tagged-none : (t i : ℕ) → 1 ≤ i → tagged t i ≡ 0 → t < i
unfolding tagged
tagged-none t i l = go (leb i t) refl
  where
    go : (b : Bool) → leb i t ≡ b → (if b then i else 0) ≡ 0 → t < i
    go true e h = absurd (omega arith)
    go false e h = leb-false i t e

-- a row's tag is never after the row, whatever s
pub tag_before : (s i : ℕ) → (plane s).tag_of_row i ≤ i
unfolding plane tagged
tag_before s i = go (leb i (plane_tags s))
  where
    go : (b : Bool) → (if b then i else 0) ≤ i
    go true = omega arith
    go false = omega arith

-- ---- the planes, s from 1 to 4

module _ (s : ℕ) (low : 1 ≤ s) (high : s ≤ 4) where
  R : Rules (plane_items s) (plane_tags s) (plane_limit s) (differences s) (plane_pattern s)
  R = rules s low high

  -- "Every nonzero remainder modulo m is a difference of two members of D once"
  pub difference_once : (δ : ℕ) → 1 ≤ δ → δ < plane_items s → pairs (plane_items s) (differences s) δ ≡ 1
  difference_once = once_at (plane_items s) (plane_tags s) (plane_limit s) (differences s) (plane_pattern s) R

  -- "so a card is on d+1 rows"; a row holds d + 1 places too
  pub rows_of_item : (j : ℕ) → 1 ≤ j → j ≤ plane_items s → count_up_to (λ i. (plane s).on i j) (plane_items s) ≡ suc (plane_limit s)
  unfolding plane
  rows_of_item = column-weight (plane_items s) (plane_tags s) (plane_limit s) (differences s) (plane_pattern s) R

  pub items_of_row : (i : ℕ) → 1 ≤ i → i ≤ plane_items s → count_up_to (λ j. (plane s).on i j) (plane_items s) ≡ suc (plane_limit s)
  unfolding plane
  items_of_row = row-weight (plane_items s) (plane_tags s) (plane_limit s) (differences s) (plane_pattern s) R

  -- "and two cards share at most one row": exactly one; and two rows one card (000, section 6.4, B)
  pub share_one_row : (j k : ℕ) → 1 ≤ j → j ≤ plane_items s → 1 ≤ k → k ≤ plane_items s → (k ≡ j → ⊥)
      → count_up_to (λ i. (plane s).on i j && (plane s).on i k) (plane_items s) ≡ 1
  unfolding plane
  share_one_row = columns_share (plane_items s) (plane_tags s) (plane_limit s) (differences s) (plane_pattern s) R

  pub share_one_item : (i k : ℕ) → 1 ≤ i → i ≤ plane_items s → 1 ≤ k → k ≤ plane_items s → (k ≡ i → ⊥)
      → count_up_to (λ j. (plane s).on i j && (plane s).on k j) (plane_items s) ≡ 1
  unfolding plane
  share_one_item = rows_share (plane_items s) (plane_tags s) (plane_limit s) (differences s) (plane_pattern s) R

  -- what a plane has over any lawful family
  pub projective : Projective (plane s)
  unfolding plane
  projective = record { weight = λ j l u. omega (arith, rows_of_item j l u); meet = share_one_row }

  -- "Hence d-disjunct"
  pub disjunct : Disjunct (plane s) (plane_limit s)
  unfolding plane
  disjunct =
      pigeonhole (plane s) (plane_limit s) (λ j l u. omega (arith, rows_of_item j l u))
      (λ j k lj uj lk uk ne. omega (arith, share_one_row j k lj uj lk uk ne))

  pub lawful : Lawful (plane s)
  unfolding plane
  lawful = record {
    disjunct = disjunct;
    row_low = λ k l u. rw (tagged_yes (plane_tags s) k u) l;
    row-high = λ k l u. omega (arith, tagged_yes (plane_tags s) k u, R.fits);
    tag_back = λ k l u. ap (tagged (plane_tags s)) (tagged_yes (plane_tags s) k u) ∙ tagged_yes (plane_tags s) k u;
    tag_high = λ i l u. tagged-most (plane_tags s) i;
    row_back = λ i l u h. ap (tagged (plane_tags s)) (tagged_some (plane_tags s) i h) ∙ tagged_some (plane_tags s) i h;
    earlier = λ i l u h.
        made-earlier (plane_items s) (plane_tags s) (plane_limit s) (differences s) (plane_pattern s) R i (tagged-none (plane_tags s) i l h) u;
    adds_up = λ i j l u h lj uj.
        pattern_yields (plane_items s) (plane_tags s) (plane_limit s) (differences s) (plane_pattern s) R i j (tagged-none (plane_tags s) i l h) u lj uj;
  }
