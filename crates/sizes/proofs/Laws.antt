-- What a crate above may use of the size codes: every known code's family is lawful, a plane's is projective and its limit at least 2, the
-- numbers are small, and a code that is none has nothing. It needs nothing else of planes, and nothing of lines.
use Rattle.std.specs.Prelude.{◌≡◌, ◌&&◌, ◌++◌, ◌⊎◌, ◌/◌, ◌%◌, ◌≤◌, ◌<◌, if◌then◌else◌}
use Rattle.fips197.proofs.Kit.{refl, ap, ◌∙◌, sym, Bool, true, false, List, subst, inl, inr, ℕ, zero, suc, arith, leb, length, get_or, take, drop, take_at, List·getD-append, leb-true, leb-false}
use Rattle.incidence.specs.Count.{inside}
use Rattle.incidence.specs.Family.{Family, Lawful, Projective, items_of, tags_of}
use Rattle.incidence.proofs.Booleans.{and_left, and_right, or_cases, or-first, or_second, not_both, not_passed}
use Rattle.incidence.proofs.Counting.{inside-low, inside-high, inside_yes}
use Rattle.plane.specs.Table.{item_counts, plane_items, tag_counts, plane_tags, limits, plane_limit}
use Rattle.plane.specs.Plane.{on, plane}
use Rattle.plane.proofs.Planes as planes
use Rattle.plane.proofs.Walks as walks
use Rattle.plane.proofs.Lookup.{items-most, tags-most, limit-most, limit-least, no_items, no_tags, no_limit}
use Rattle.affine.specs.Affine.{sized, affine_family}
use Rattle.affine.proofs.Computing.{of_both, sized-offered}
use Rattle.affine.proofs.Affines as affines
use Rattle.sizes.specs.Sizes.{plane_code, affine_code, known, family_of}

-- ---- by kind

-- what holds of an affine size's family and of a plane holds of the code's
by_kind : (P : Family → Type 0) (c : ℕ) → (affine_code c ≡ true → P (affine_family (c / 16) (c % 16))) → (affine_code c ≡ false → P (plane c)) → P (family_of c)
unfolding family_of
by_kind P c f g = go (affine_code c) refl
  where
    go : (b : Bool) → affine_code c ≡ b → P (if b then affine_family (c / 16) (c % 16) else plane c)
    go true e = f e
    go false e = g e

pub plane_family : (c : ℕ) {r : Bool} → r ≡ affine_code c → r ≡ false → plane c ≡ family_of c
unfolding family_of
plane_family c e t = rw (sym e ∙ t)

-- 1 to 4 are no affine sizes
pub no_affine : (c : ℕ) → c ≤ 4 → affine_code c ≡ false
unfolding affine_code sized
no_affine c h = let z : c / 16 ≡ 0 = omega arith in rw z

-- the code of an affine size is below 64
affine-high : (c : ℕ) → affine_code c ≡ true → c < 64
unfolding affine_code
affine-high c h = let n = of_both (λ s. s ≤ 3) (omega arith) (omega arith) (c / 16) (sized-offered (c / 16) (c % 16) h) in omega arith

plane-code : (c : ℕ) → known c ≡ true → affine_code c ≡ false → plane_code c ≡ true
unfolding known
plane-code c h e = go (or_cases (plane_code c) (affine_code c) h)
  where
    go : (plane_code c ≡ true) ⊎ (affine_code c ≡ true) → plane_code c ≡ true
    go (inl t) = t
    go (inr t) = absurd (not_both (affine_code c) t e)

-- ---- a plane's code

module _ (c : ℕ) (h : plane_code c ≡ true) where
  plane-low : 1 ≤ c
  unfolding plane_code
  plane-low = inside-low 4 c h

  plane-high : c ≤ 4
  unfolding plane_code
  plane-high = inside-high 4 c h

  pub projective : Projective (family_of c)
  projective = subst Projective (plane_family c (sym (no_affine c plane-high)) refl) (planes.projective c plane-low plane-high)

  pub plane-limit : 2 ≤ (family_of c).limit
  unfolding plane
  plane-limit = subst (λ (F : Family). 2 ≤ F.limit) (plane_family c (sym (no_affine c plane-high)) refl) (limit-least c plane-low plane-high)

-- ---- a size code

module _ (c : ℕ) (h : known c ≡ true) where
  pub lawful : Lawful (family_of c)
  unfolding affine_code
  lawful =
      by_kind Lawful c (affines.lawful (c / 16) (c % 16))
      (λ e. let t = plane-code c h e in planes.lawful c (plane-low c t) (plane-high c t))

  -- a size code is a byte
  pub code_byte_lem : c < 256
  unfolding known
  code_byte_lem = go (or_cases (plane_code c) (affine_code c) h)
    where
      go : (plane_code c ≡ true) ⊎ (affine_code c ≡ true) → c < 256
      go (inl t) = omega (arith, plane-high c t)
      go (inr t) = omega (arith, affine-high c t)

-- at most 273, and 82 tags, whatever the code
pub items_few : (c : ℕ) → (family_of c).items ≤ 273
unfolding affine_code plane
items_few c = by_kind (λ F. F.items ≤ 273) c (λ e. omega (arith, affines.items-most (c / 16) (c % 16) e)) (λ e. items-most c)

pub rows_few : (c : ℕ) → (family_of c).rows ≤ 273
unfolding affine_code plane
rows_few c = by_kind (λ F. F.rows ≤ 273) c (λ e. omega (arith, affines.rows-most (c / 16) (c % 16) e)) (λ e. items-most c)

pub tags_few : (c : ℕ) → (family_of c).tags ≤ 82
unfolding affine_code plane
tags_few c = by_kind (λ F. F.tags ≤ 82) c (λ e. omega (arith, affines.tags-most (c / 16) (c % 16) e)) (λ e. tags-most c)

pub limit_few : (c : ℕ) → (family_of c).limit ≤ 273
unfolding affine_code plane
limit_few c = by_kind (λ F. F.limit ≤ 273) c (λ e. omega (arith, affines.limit-most (c / 16) (c % 16) e)) (λ e. limit-most c)

-- a code that is none
pub record Empty (F : Family) : Type 0 where
  pub no_items : F.items ≡ 0
  pub no_rows : F.rows ≡ 0
  pub no_tags : F.tags ≡ 0
  pub no_limit : F.limit ≡ 0

no_plane : (c : ℕ) → plane_code c ≡ false → Empty (plane c)
unfolding plane_code plane plane_items item_counts plane_tags tag_counts plane_limit limits
no_plane zero h = record { no_items = refl; no_rows = refl; no_tags = refl; no_limit = refl }
no_plane (suc c) h =
    record { no_items = no_items (suc c) past; no_rows = no_items (suc c) past; no_tags = no_tags (suc c) past; no_limit = no_limit (suc c) past }
  where
    past : 5 ≤ suc c
    past = go (leb (suc c) 4) refl
      where
        go : (b : Bool) → leb (suc c) 4 ≡ b → 5 ≤ suc c
        go true e = absurd (not_both (inside 4 (suc c)) (inside_yes 4 (suc c) (omega arith) (leb-true (suc c) 4 e)) h)
        go false e = leb-false (suc c) 4 e

pub unknown : (c : ℕ) → known c ≡ false → Empty (family_of c)
unfolding known
unknown c h = by_kind Empty c (λ e. absurd (not_both _ (or_second (plane_code c) e) h)) (λ e. no_plane c (not_passed _ (λ t. not_both _ (or-first (affine_code c) t) h)))

-- and a code that is none has no rows to ask about
pub lawful_rows : (c : ℕ) → 1 ≤ (family_of c).rows → Lawful (family_of c)
lawful_rows c some = go (known c) refl
  where
    go : (b : Bool) → known c ≡ b → Lawful (family_of c)
    go true h = lawful c h
    go false h = absurd (omega (arith, (unknown c h).no_rows))

-- a row holds items only
pub on_items : (c i j : ℕ) → (family_of c).on i j ≡ true → j ≤ (family_of c).items
unfolding plane on affine_family
on_items c i j =
    by_kind (λ F. F.on i j ≡ true → j ≤ F.items) c
    (λ e o. inside-high _ j (and_right (inside _ i) _ (and_left (inside _ i && inside _ j) _ o)))
    (λ e o. inside-high _ j (and_right (inside _ i) _ (and_left (inside _ i && inside _ j) _ o)))

-- a row's tag is never after the row
pub tag_before : (c i : ℕ) → (family_of c).tag_of_row i ≤ i
unfolding affine_code
tag_before c i = by_kind (λ F. F.tag_of_row i ≤ i) c (λ e. affines.tag_before (c / 16) (c % 16) e i) (λ e. planes.tag_before c i)

-- what `tags_of`, `items_of` and `made_of` write fits into their buffers, and stands there
pub tag_list_few : (c j : ℕ) → length (tags_of (family_of c) j) ≤ 17
unfolding affine_code
tag_list_few c j =
    by_kind (λ F. length (tags_of F j) ≤ 17) c (λ e. omega (arith, affines.tag_list_few (c / 16) (c % 16) e j)) (λ e. walks.tag_list_few c j)

pub item_list_few : (c i : ℕ) → length (items_of (family_of c) i) ≤ 17
unfolding affine_code
item_list_few c i =
    by_kind (λ F. length (items_of F i) ≤ 17) c (λ e. omega (arith, affines.item_list_few (c / 16) (c % 16) e i)) (λ e. walks.item_list_few c i)

pub made_list_few : (c i : ℕ) → length ((family_of c).made i) ≤ 35
unfolding affine_code
made_list_few c i =
    by_kind (λ F. length (F.made i) ≤ 35) c (λ e. affines.made_list_few (c / 16) (c % 16) e i) (λ e. walks.made_list_few c i)

pub written_at : (l was : List ℕ) {now : List ℕ} {n : ℕ} → (now ≡ l ++ drop (length l) was) × (n ≡ length l) → (k : ℕ) → k < n → get_or now k 0 ≡ get_or l k 0
written_at l was w k h = ap (λ (x : List ℕ). get_or x k 0) w.0 ∙ List·getD-append l (drop (length l) was) 0 k (omega (arith, w.1))

-- the front that is written is the list
pub written_front : (l was : List ℕ) {now : List ℕ} {n : ℕ} → (now ≡ l ++ drop (length l) was) × (n ≡ length l) → take n now ≡ l
written_front l was {n = n} w = ap (take n) w.0 ∙ take_at l (drop (length l) was) n (sym w.1)
