-- The constants keep the rules: one computed test for each rule, over the four planes at once.
use Rattle.std.specs.Prelude.{◌≡◌, ◌-◌, ◌≤◌, ◌<◌}
use Rattle.fips197.proofs.Kit.{refl, Bool, true, ℕ, zero, suc, arith, eqb, ltb, leb, length, ltb-true, leb-true, eqb-true}
use mathlib.Core.Bool.{xor}
use Rattle.incidence.specs.Family.{parity}
use Rattle.incidence.proofs.Counting.{every, every_at}
use Rattle.plane.specs.Table.{item_counts, plane_items, tag_counts, plane_tags, limits, plane_limit, difference_lists, differences, pattern_lists, plane_pattern}
use Rattle.plane.specs.Plane.{pairs}
use Rattle.plane.specs.Walk.{above}
use Rattle.plane.proofs.Ranks.{under}
use Rattle.plane.proofs.Cyclic.{Rules, within, once_test, pattern_test}

some_test : ℕ → Bool
some_test s = ltb 0 (plane_items (suc s))

fits_test : ℕ → Bool
fits_test s = leb (plane_tags (suc s)) (plane_items (suc s))

rises_test : ℕ → Bool
rises_test s = above 0 (differences (suc s))

below_test : ℕ → Bool
below_test s = under (plane_items (suc s)) (differences (suc s))

size_test : ℕ → Bool
size_test s = eqb (length (differences (suc s))) (suc (plane_limit (suc s)))

-- every nonzero remainder modulo m is a difference of two members of D once
once_tests : ℕ → Bool
once_tests s = every (once_test (plane_items (suc s)) (differences (suc s))) (plane_items (suc s) - 1)

near_test : ℕ → Bool
near_test s = within (plane_tags (suc s)) (plane_pattern (suc s))

-- the pattern yields the row, for every remainder of j − i
yields_tests : ℕ → Bool
yields_tests s = every (pattern_test (plane_items (suc s)) (differences (suc s)) (plane_pattern (suc s))) (plane_items (suc s))

some : (s : ℕ) → s < 4 → some_test s ≡ true
unfolding some_test plane_items item_counts
some = every_at some_test 4 refl

fits : (s : ℕ) → s < 4 → fits_test s ≡ true
unfolding fits_test plane_items item_counts plane_tags tag_counts
fits = every_at fits_test 4 refl

rises : (s : ℕ) → s < 4 → rises_test s ≡ true
unfolding rises_test differences difference_lists
rises = every_at rises_test 4 refl

below : (s : ℕ) → s < 4 → below_test s ≡ true
unfolding below_test plane_items item_counts differences difference_lists
below = every_at below_test 4 refl

size : (s : ℕ) → s < 4 → size_test s ≡ true
unfolding size_test plane_limit limits differences difference_lists
size = every_at size_test 4 refl

once : (s : ℕ) → s < 4 → once_tests s ≡ true
unfolding once_tests plane_items item_counts differences difference_lists pairs
once = every_at once_tests 4 refl

near : (s : ℕ) → s < 4 → near_test s ≡ true
unfolding near_test plane_tags tag_counts plane_pattern pattern_lists
near = every_at near_test 4 refl

yields : (s : ℕ) → s < 4 → yields_tests s ≡ true
unfolding yields_tests plane_items item_counts differences difference_lists plane_pattern pattern_lists parity xor
yields = every_at yields_tests 4 refl

rules_of : (s : ℕ) → s < 4 → Rules (plane_items (suc s)) (plane_tags (suc s)) (plane_limit (suc s)) (differences (suc s)) (plane_pattern (suc s))
unfolding some_test fits_test rises_test below_test size_test once_tests near_test yields_tests
rules_of s l = record {
  some = ltb-true 0 (plane_items (suc s)) (some s l);
  fits = leb-true (plane_tags (suc s)) (plane_items (suc s)) (fits s l);
  rises = rises s l;
  below = below s l;
  size = eqb-true (length (differences (suc s))) (suc (plane_limit (suc s))) (size s l);
  once = once s l;
  near = near s l;
  yields = yields s l;
}

-- the rules of the four planes
pub rules : (s : ℕ) → 1 ≤ s → s ≤ 4 → Rules (plane_items s) (plane_tags s) (plane_limit s) (differences s) (plane_pattern s)
rules zero l u = absurd (omega arith)
rules (suc s) l u = rules_of s (omega arith)
