-- The affine sizes are lawful families: what the crates above use of them.
use Rattle.std.specs.Prelude.{◌≡◌, ◌-◌, ◌^◌, ◌≤◌, if◌then◌else◌}
use Rattle.fips197.proofs.Kit.{refl, ap, ◌∙◌, Bool, true, false, List, ℕ, suc, arith, length, get_or}
use Rattle.incidence.specs.Count.{count_up_to, inside}
use Rattle.incidence.specs.Family.{Lawful, items_of, tags_of}
use Rattle.incidence.proofs.Counting.{count_most, inside-low, inside-high}
use Rattle.affine.specs.Lines.{points, affine_items, line_of, row_count}
use Rattle.affine.specs.Affine.{sized, is_tagged, affine_family}
use Rattle.affine.specs.Walk.{firsts, course_of}
use Rattle.affine.proofs.Computing.{points_few, elements_few, sized-offered, sized-high}
use Rattle.affine.proofs.Disjunct.{disjunct}
use Rattle.affine.proofs.Tagging.{row_low, row-high, tag_back, tag_high, row_back, no_tag, made-earlier, made_adds_up}
use Rattle.affine.proofs.Tables.{rows-high, made_few}
use Rattle.affine.proofs.Walks.{tag_at, met_few, tags-along, tags_out, items_few}
use Rattle.affine.proofs.Steps.{firsts_at, made_out}

module _ (s l : ℕ) (size : sized s l ≡ true) where
  pub lawful : Lawful (affine_family s l)
  unfolding affine_family
  lawful = record {
    disjunct = disjunct s l size;
    row_low = λ k a b. row_low s l k a b;
    row-high = λ k a b. row-high s l k a b;
    tag_back = λ k a b. tag_back s l k a b;
    tag_high = λ i a b. tag_high s l i a b;
    row_back = λ i a b h. row_back s l i a b h;
    earlier = λ i a b h. made-earlier s l i a b (no_tag s l i a b h);
    adds_up = λ i j a b h x y. made_adds_up s l i a b (no_tag s l i a b h) j x y;
  }

  -- how large the numbers are
  pub items-most : (affine_family s l).items ≤ 72
  unfolding affine_family affine_items
  items-most = omega (arith, (points_few s (sized-offered s l size)).1, sized-high s l size, (elements_few s (sized-offered s l size)).1)

  pub rows-most : (affine_family s l).rows ≤ 64
  unfolding affine_family
  rows-most = rows-high s l size

  pub tags-most : (affine_family s l).tags ≤ 64
  unfolding affine_family
  tags-most = omega (arith, count_most (is_tagged s l) (row_count s l), rows-high s l size)

  pub limit-most : (affine_family s l).limit ≤ 7
  unfolding affine_family
  limit-most = omega (arith, sized-high s l size, (elements_few s (sized-offered s l size)).1)

  -- how long the lists are
  pub tag_list_few : (j : ℕ) → length (tags_of (affine_family s l) j) ≤ 8
  tag_list_few j = go (inside (affine_items s l) j) refl
    where
      -- a list that has the tag at each point
      T : List ℕ
      T = firsts (λ k. tag_at s l (suc k)) (points s)

      tags : (p : ℕ) → 1 ≤ p → p ≤ points s → get_or T (p - 1) 0 ≡ tag_at s l p
      tags p low high =
          let e : suc (p - 1) ≡ p = omega arith in
          firsts_at (λ k. tag_at s l (suc k)) (points s) (p - 1) (omega arith) ∙ ap (tag_at s l) e

      go : (b : Bool) → inside (affine_items s l) j ≡ b → length (tags_of (affine_family s l) j) ≤ 8
      go true e =
          rw (tags-along s l size T tags j (inside-low _ j e) (inside-high _ j e))
          (omega (arith, met_few s (course_of s (line_of s l j)) T (2 ^ s), (elements_few s (sized-offered s l size)).1))
      go false e = rw (tags_out s l size j e) (omega arith)

  pub item_list_few : (i : ℕ) → length (items_of (affine_family s l) i) ≤ 9
  item_list_few i = omega (arith, items_few s l size i, (elements_few s (sized-offered s l size)).1)

  pub made_list_few : (i : ℕ) → length ((affine_family s l).made i) ≤ 35
  made_list_few i = go (inside (row_count s l) i) refl
    where
      go : (b : Bool) → inside (row_count s l) i ≡ b → length ((affine_family s l).made i) ≤ 35
      go true e = made_few s l size i (inside-low _ i e) (inside-high _ i e)
      go false e = rw (made_out s l i e) (omega arith)

  -- tags are numbered in the order of rows, so none comes after its row
  pub tag_before : (i : ℕ) → (affine_family s l).tag_of_row i ≤ i
  unfolding affine_family
  tag_before i = go (is_tagged s l i)
    where
      go : (b : Bool) → (if b then count_up_to (is_tagged s l) i else 0) ≤ i
      go true = count_most (is_tagged s l) i
      go false = omega arith
