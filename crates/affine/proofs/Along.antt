-- The points of a line ax + by = c in rising order. Where a is 0 its y is c / b and x runs through the elements; else y runs through them,
-- and x is c / a + (b / a) y.
use Rattle.std.specs.Prelude.{◌≡◌, ◌^◌, ◌≤◌, ◌<◌}
use Rattle.fips197.proofs.Kit.{refl, sym, ap, ◌∙◌, Bool, true, false, ℕ, arith, eqb, eqb-true, eqb-false, ne_eqb, bit_xor, xor_lt}
use Rattle.fips197.proofs.Xor.{xor_cancel}
use native.Mathlib.Nat.{mul-le-mul_right}
use Rattle.affine.specs.Field.{product, element_inverse}
use Rattle.affine.specs.declared.Line.{Line}
use Rattle.affine.specs.Lines.{points, x_of, y_of, on_line}
use Rattle.affine.specs.Walk.{course_of, place_on}
use Rattle.affine.proofs.FieldLaws.{Field, zero_left}
use Rattle.affine.proofs.Meeting.{spot, x_low, y_low, same_point, spot_high, spot_x, spot_y, held, holds_spot}
use Rattle.affine.proofs.Listings.{Passing}

module _ (s : ℕ) (F : Field s) where
  -- u (v / u) = v, and v = w / u where u v = w
  quotient : (u v : ℕ) → 0 < u → u < 2 ^ s → v < 2 ^ s → product s u (product s (element_inverse s u) v) ≡ v
  quotient u v l h k = sym (F.assoc u (element_inverse s u) v) ∙ ap (λ (z : ℕ). product s z v) (F.inv u l h) ∙ F.one v k

  pub divided : (u v w : ℕ) → 0 < u → u < 2 ^ s → v < 2 ^ s → product s u v ≡ w → v ≡ product s (element_inverse s u) w
  divided u v w l h k e =
      sym (F.one v k)
      ∙ ap (λ (z : ℕ). product s z v) (sym (F.inv u l h) ∙ F.comm u (element_inverse s u))
      ∙ F.assoc (element_inverse s u) u v
      ∙ ap (product s (element_inverse s u)) e

module _ (s : ℕ) (F : Field s) (L : Line) (la : L.a < 2 ^ s) (lb : L.b < 2 ^ s) (lc : L.c < 2 ^ s) (some : L.a ≡ 0 → L.b ≡ 0 → ⊥) where
  -- what the two cases share: x and y at each place give points of the line, rising, and a point of the line is at the place that it says
  module _ (x y : ℕ → ℕ) (is : (t : ℕ) → place_on s (course_of s L) t ≡ spot s (x t) (y t))
      (lx : (t : ℕ) → t < 2 ^ s → x t < 2 ^ s) (ly : (t : ℕ) → t < 2 ^ s → y t < 2 ^ s)
      (on : (t : ℕ) → t < 2 ^ s → bit_xor (product s L.a (x t)) (product s L.b (y t)) ≡ L.c)
      (up : (t u : ℕ) → t < u → u < 2 ^ s → spot s (x t) (y t) < spot s (x u) (y u))
      (place : ℕ → ℕ) (low : (p : ℕ) → 1 ≤ p → p ≤ points s → place p < 2 ^ s)
      (x-is : (p : ℕ) → 1 ≤ p → p ≤ points s → on_line s L p ≡ true → x_of s p ≡ x (place p))
      (y-is : (p : ℕ) → 1 ≤ p → p ≤ points s → on_line s L p ≡ true → y_of s p ≡ y (place p)) where
    walked : Passing (on_line s L) (points s) (place_on s (course_of s L)) (2 ^ s)
    walked = record {
      low = λ t l. rw (is t) (omega arith);
      high = λ t l. rw (is t) (spot_high s F (x t) (y t) (lx t l) (ly t l));
      rises = λ t u l h. rw (is t, is u) (up t u l h);
      passes = λ t l. rw (is t) (holds_spot s F L (x t) (y t) (lx t l) (on t l));
      all = λ p l h e. record {
        place = place p;
        below = low p l h;
        same = same_point s F p (spot s (x (place p)) (y (place p))) l (omega arith)
            (x-is p l h e ∙ sym (spot_x s F (x (place p)) (y (place p)) (lx (place p) (low p l h))))
            (y-is p l h e ∙ sym (spot_y s F (x (place p)) (y (place p)) (lx (place p) (low p l h))))
            ∙ sym (is (place p));
      };
    }

  -- where a is 0
  level : L.a ≡ 0 → Passing (on_line s L) (points s) (place_on s (course_of s L)) (2 ^ s)
  unfolding course_of place_on
  level e =
      walked (λ t. t) (λ t. y) (λ t. rw e (omega arith)) (λ t l. l) (λ t l. F.small (element_inverse s L.b) L.c)
      (λ t l. rw (e, zero_left s F t) (quotient s F L.b L.c positive lb lc)) (λ t u l h. omega arith)
      (x_of s) (λ p l h. x_low s F p) (λ p l h k. refl)
      (λ p l h k. divided s F L.b (y_of s p) L.c positive lb (y_low s F p l h)
      (ap (λ (z : ℕ). bit_xor z (product s L.b (y_of s p))) (sym (zero_left s F (x_of s p)) ∙ ap (λ (z : ℕ). product s z (x_of s p)) (sym e))
      ∙ held s F L p k))
    where
      y : ℕ
      y = product s (element_inverse s L.b) L.c

      positive : 0 < L.b
      positive = let ne : (L.b ≡ 0 → ⊥) = some e in omega arith

  -- where it is not
  sloped : (L.a ≡ 0 → ⊥) → Passing (on_line s L) (points s) (place_on s (course_of s L)) (2 ^ s)
  unfolding course_of place_on
  sloped ne =
      walked x (λ t. t) (λ t. rw (ne_eqb L.a 0 ne) (omega arith)) (λ t l. x_small t) (λ t l. l) (λ t l. on t)
      (λ t u l h. omega (arith, x_small t, mul-le-mul_right (2 ^ s) l))
      (y_of s) (y_low s F) back (λ p l h k. refl)
    where
      start : ℕ
      start = product s (element_inverse s L.a) L.c

      slope : ℕ
      slope = product s (element_inverse s L.a) L.b

      x : ℕ → ℕ
      x t = bit_xor start (product s slope t)

      x_small : (t : ℕ) → x t < 2 ^ s
      x_small t = xor_lt s start (product s slope t) (F.small (element_inverse s L.a) L.c) (F.small slope t)

      -- x t is (c + b t) / a
      x_quotient : (t : ℕ) → x t ≡ product s (element_inverse s L.a) (bit_xor L.c (product s L.b t))
      x_quotient t = ap (bit_xor start) (F.assoc (element_inverse s L.a) L.b t) ∙ sym (F.dist (element_inverse s L.a) L.c (product s L.b t))

      on : (t : ℕ) → bit_xor (product s L.a (x t)) (product s L.b t) ≡ L.c
      on t =
          ap (λ (z : ℕ). bit_xor z (product s L.b t))
          (ap (product s L.a) (x_quotient t)
          ∙ quotient s F L.a (bit_xor L.c (product s L.b t)) (omega arith) la (xor_lt s L.c (product s L.b t) lc (F.small L.b t)))
          ∙ xor_cancel L.c (product s L.b t)

      back : (p : ℕ) → 1 ≤ p → p ≤ points s → on_line s L p ≡ true → x_of s p ≡ x (y_of s p)
      back p l h k =
          divided s F L.a (x_of s p) (bit_xor L.c (product s L.b (y_of s p))) (omega arith) la (x_low s F p)
          (sym (xor_cancel (product s L.a (x_of s p)) (product s L.b (y_of s p)))
          ∙ ap (λ (z : ℕ). bit_xor z (product s L.b (y_of s p))) (held s F L p k))
          ∙ sym (x_quotient (y_of s p))

  -- the points that the line holds are those at the places 0 to 2^s − 1
  pub along : Passing (on_line s L) (points s) (place_on s (course_of s L)) (2 ^ s)
  along = go (eqb L.a 0) refl
    where
      go : (t : Bool) → eqb L.a 0 ≡ t → Passing (on_line s L) (points s) (place_on s (course_of s L)) (2 ^ s)
      go true e = level (eqb-true L.a 0 e)
      go false e = sloped (eqb-false L.a 0 e)
