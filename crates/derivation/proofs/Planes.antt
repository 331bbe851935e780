-- The four planes: the patterns in use are those derived, and so no shorter patterns, and within t no others and none of fewer steps, yield their rows, and
-- the tagged rows are independent. What is computed is one test over the four lists; the rest holds of any list (Lists).
use Rattle.std.specs.Prelude.{◌≡◌, ◌&&◌, ◌+◌, ◌-◌, ◌^◌, ◌≤◌, ◌<◌}
use Rattle.fips197.proofs.Kit.{refl, subst, Bool, true, List, ℕ, suc, arith, eqb, ltb, eqb-true, ltb-true}
use Rattle.blocks.specs.Block.{◌⊕◌, same}
use Rattle.blocks.proofs.Xor.{same_true}
use Rattle.incidence.proofs.Booleans.{and_left, and_right}
use Rattle.incidence.proofs.Counting.{every, every_at}
use Rattle.plane.specs.Table.{item_counts, plane_items, tag_counts, plane_tags, difference_lists, differences, pattern_lists, plane_pattern}
use Rattle.plane.specs.Plane.{plane}
use Rattle.plane.proofs.Rules.{rules}
use Rattle.polynomials.specs.Polynomial.{longer, poly_size, raised, less, gcd_in, gcd, quotient_in, quotient}
use Rattle.cyclic.specs.CyclicCode.{modulus, of_list, generator_polynomial, check_polynomial, steps_back, row_pattern}
use Rattle.derivation.specs.Shortest.{Pattern, NoShorterPattern, NoShorterRow, OnlyPattern, FewestSteps, Independent}
use Rattle.derivation.specs.Derived.{derived}
use Rattle.derivation.proofs.Lists as lists

-- the pattern derived is the one in use, the degree of the check polynomial is t, t is 3^s + 1, and there are more rows
plane_test : ℕ → Bool
plane_test s = same (derived s) (plane_pattern s) && (eqb (poly_size (check_polynomial (plane_items s) (differences s))) (suc (plane_tags s)) && (eqb (plane_tags s) (3 ^ s + 1) && ltb (plane_tags s) (plane_items s)))

tested : every (λ s. plane_test (suc s)) 4 ≡ true
unfolding plane_test same derived row_pattern check_polynomial generator_polynomial modulus of_list steps_back longer poly_size raised less gcd_in gcd quotient_in quotient ◌⊕◌ plane_items item_counts plane_tags tag_counts differences difference_lists plane_pattern pattern_lists
tested = refl

module _ (s : ℕ) (low : 1 ≤ s) (high : s ≤ 4) where
  passes : plane_test s ≡ true
  passes = let e : suc (s - 1) ≡ s = omega arith in subst (λ (n : ℕ). plane_test n ≡ true) e (every_at (λ s. plane_test (suc s)) 4 tested (s - 1) (omega arith))

  -- "These must equal the constants in use."
  pub derived_in_use : derived s ≡ plane_pattern s
  unfolding plane_test
  derived_in_use = same_true (derived s) (plane_pattern s) (and_left (same (derived s) (plane_pattern s)) _ passes)

  -- what holds of the one holds of the other
  in_use : (P : List ℕ → Type 0) → P (derived s) → P (plane_pattern s)
  in_use P = subst P derived_in_use

  -- t is the degree of the check polynomial
  pub check_degree : poly_size (check_polynomial (plane_items s) (differences s)) ≡ suc (plane_tags s)
  unfolding plane_test
  check_degree = eqb-true _ (suc (plane_tags s)) (and_left _ _ (and_right (same (derived s) (plane_pattern s)) _ passes))

  -- the tests behind it
  others : eqb (plane_tags s) (3 ^ s + 1) && ltb (plane_tags s) (plane_items s) ≡ true
  unfolding plane_test
  others =
      and_right (eqb (poly_size (check_polynomial (plane_items s) (differences s))) (suc (plane_tags s))) _
      (and_right (same (derived s) (plane_pattern s)) _ passes)

  -- 000, 6.4: "the GF(2) rank of P^(s) is t = 3^s + 1"
  pub tags_rank : plane_tags s ≡ 3 ^ s + 1
  tags_rank = eqb-true (plane_tags s) (3 ^ s + 1) (and_left _ _ others)

  more : plane_tags s < plane_items s
  more = ltb-true (plane_tags s) (plane_items s) (and_right (eqb (plane_tags s) (3 ^ s + 1)) _ others)

  some : 0 < plane_items s
  some = (rules s low high).some

  -- what holds of the degree holds of t
  of_tags : (P : ℕ → Type 0) → P (lists.degree (plane_items s) (differences s) some) → P (plane_tags s)
  of_tags P = subst P (let e : poly_size (check_polynomial (plane_items s) (differences s)) - 1 ≡ plane_tags s = omega (arith, check_degree) in e)

  -- the pattern derived yields every row behind the tagged ones
  pub derived-yields : Pattern (plane_items s) (plane s).on (plane_tags s) (derived s)
  unfolding plane derived
  derived-yields = of_tags (λ t. Pattern (plane_items s) (plane s).on t (derived s)) (lists.pattern_yields (plane_items s) (differences s) some)

  -- no row is the XOR of rows among the t − 1 before it
  pub no_shorter_row : NoShorterRow (plane_items s) (plane s).on (plane_tags s)
  unfolding plane
  no_shorter_row = of_tags (NoShorterRow (plane_items s) (plane s).on) (lists.no_shorter_row (plane_items s) (differences s) some)

  -- "For every size it is proved that no shorter pattern yields all rows."
  pub no_shorter_pattern : NoShorterPattern (plane_items s) (plane s).on (plane_tags s)
  unfolding plane
  no_shorter_pattern = of_tags (NoShorterPattern (plane_items s) (plane s).on) (lists.no_shorter_pattern (plane_items s) (differences s) some)

  -- and within t no other: the pattern in use is the only one
  pub only_pattern : OnlyPattern (plane_items s) (plane s).on (plane_tags s) (plane_pattern s)
  unfolding plane derived
  only_pattern =
      in_use (OnlyPattern (plane_items s) (plane s).on (plane_tags s))
      (of_tags (λ t. t < plane_items s → OnlyPattern (plane_items s) (plane s).on t (derived s)) (lists.only_pattern (plane_items s) (differences s) some) more)

  -- nor one that XORs fewer rows
  pub fewest_steps : FewestSteps (plane_items s) (plane s).on (plane_tags s) (plane_pattern s)
  unfolding plane derived
  fewest_steps =
      in_use (FewestSteps (plane_items s) (plane s).on (plane_tags s))
      (of_tags (λ t. t < plane_items s → FewestSteps (plane_items s) (plane s).on t (derived s)) (lists.fewest_steps (plane_items s) (differences s) some) more)

  -- 000, 6.4: "It uses t independent rows of P^(s) as H"
  pub independent : Independent (plane_items s) (plane s).on (plane_tags s)
  unfolding plane
  independent = of_tags (Independent (plane_items s) (plane s).on) (lists.independent (plane_items s) (differences s) some)
