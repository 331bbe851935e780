-- What the walks' steps rest on: a place of a course is a point, a number written behind others is the next of the list, and a row that
-- there is not has no tag and is made of none.
use Rattle.std.specs.Prelude.{◌≡◌, ◌∷◌, ◌++◌, ◌+◌, ◌-◌, ◌*◌, ◌^◌, ◌≤◌, ◌<◌, ◌⊎◌, if◌then◌else◌}
use Rattle.fips197.proofs.Kit.{refl, sym, ap, ◌∙◌, Bool, true, false, List, [], ℕ, zero, suc, inl, inr, arith, add-one, eqb, length, get_or, set, drop, length-append, List·getD-append, get_or_at, eq-eqb, ne_eqb, xor_lt, bit_xor}
use Rattle.incidence.specs.Count.{inside}
use Rattle.incidence.proofs.Booleans.{and_false_l}
use Rattle.incidence.proofs.Counting.{last_or}
use Rattle.affine.specs.declared.Line.{Line}
use Rattle.affine.specs.declared.Course.{Course}
use Rattle.affine.specs.declared.Course.TheVariants.{Level, Sloped}
use Rattle.affine.specs.Field.{offered, product, element_inverse}
use Rattle.affine.specs.Lines.{points, row_count}
use Rattle.affine.specs.Affine.{sized, is_tagged, affine_family}
use Rattle.affine.specs.Walk.{firsts, start_of, course_of, place_on, met, through_count}
use Rattle.affine.proofs.FieldLaws.{Field, field}
use Rattle.affine.proofs.Computing.{points_few, elements_few, sized-offered}
use Rattle.affine.proofs.Meeting.{spot_high}
use Rattle.affine.proofs.Listings.{firsts-length}
use Rattle.affine.proofs.Walks.{count_few}

-- ---- places

module _ (s : ℕ) (here : offered s ≡ true) where
  F : Field s
  F = field s here

  pub product-low : (a b : ℕ) → product s a b < 2 ^ s
  product-low = F.small

  pub start_low : (L : Line) → start_of (course_of s L) < 2 ^ s
  unfolding course_of
  start_low L = go (eqb L.a 0)
    where
      go : (b : Bool) → start_of (if b then Level (product s (element_inverse s L.b) L.c) else Sloped (product s (element_inverse s L.a) L.c) (product s (element_inverse s L.a) L.b)) < 2 ^ s
      go true = product-low (element_inverse s L.b) L.c
      go false = product-low (element_inverse s L.a) L.c

  pub level_place : (y t : ℕ) → y < 2 ^ s → t < 2 ^ s → y * 2 ^ s + t + 1 ≤ points s
  level_place y t low few = omega (arith, spot_high s F t y few low)

  pub sloping_place : (start slope t : ℕ) → start < 2 ^ s → t < 2 ^ s → t * 2 ^ s + bit_xor start (product s slope t) + 1 ≤ points s
  sloping_place start slope t low few = omega (arith, spot_high s F (bit_xor start (product s slope t)) t (xor_lt s _ _ low (product-low slope t)) few)

  pub place_few : (C : Course) (t : ℕ) → start_of C < 2 ^ s → t < 2 ^ s → (1 ≤ place_on s C t) × (place_on s C t ≤ points s)
  unfolding place_on
  place_few (Level y) t low few = (omega arith, level_place y t low few)
  place_few (Sloped start slope) t low few = (omega arith, sloping_place start slope t low few)

pub rows_before : (s : ℕ) → offered s ≡ true → (t : ℕ) → t < 2 ^ s → t * 2 ^ s ≤ 64
rows_before s here t few = omega (arith, spot_high s (F s here) 0 t (omega arith) few, (points_few s here).1)

-- ---- lists written from the front

set_next : (l o : List ℕ) (x : ℕ) → length l < length o → set (l ++ drop (length l) o) (length l) x ≡ (l ++ (x ∷ [])) ++ drop (suc (length l)) o
set_next [] [] x h = absurd (omega arith)
set_next [] (y ∷ o) x h = refl
set_next (a ∷ l) [] x h = absurd (omega arith)
set_next (a ∷ l) (y ∷ o) x h = ap (λ (z : List ℕ). a ∷ z) (set_next l o x (omega arith))

pub firsts_at : (f : ℕ → ℕ) (n k : ℕ) → k < n → get_or (firsts f n) k 0 ≡ f k
unfolding firsts
firsts_at f zero k h = absurd (omega arith)
firsts_at f (suc n) k h = go (firsts_at f n k) (last_or (suc k) n h)
  where
    go : (k < n → get_or (firsts f n) k 0 ≡ f k) → (suc k ≡ suc n) ⊎ (suc k ≤ n) → get_or (firsts f n ++ (f n ∷ [])) k 0 ≡ f k
    go rest (inr w) = List·getD-append (firsts f n) (f n ∷ []) 0 k (omega (arith, firsts-length f n)) ∙ rest w
    go rest (inl e) = let z : n ≡ k = omega arith in get_or_at (firsts f n) (f n) [] 0 k (firsts-length f n ∙ z) ∙ ap f z

-- the entries met at the next place
module _ (s : ℕ) (C : Course) (T : List ℕ) where
  abbrev pub Met : ℕ → List ℕ → List ℕ → ℕ → Type 0
  Met t o out n = (n ≡ length (met s C T t)) × (out ≡ met s C T t ++ drop (length (met s C T t)) o)

  pub met-none : (t : ℕ) (o out : List ℕ) (n i : ℕ) → i ≡ get_or T (place_on s C t - 1) 0 → i ≡ 0 → Met t o out n → Met (t + 1) o out n
  unfolding met
  met-none t o out n i e z m = rw (add-one t, eq-eqb (get_or T (place_on s C t - 1) 0) 0 (sym e ∙ z)) m

  pub met-one : (t : ℕ) (o out : List ℕ) (n i : ℕ) → i ≡ get_or T (place_on s C t - 1) 0 → (i ≡ 0 → ⊥) → length (met s C T t) < length o
      → Met t o out n → Met (t + 1) o (set out n i) (n + 1)
  unfolding met
  met-one t o out n i e ne few m = rw (add-one t, ne_eqb x 0 (λ z. ne (e ∙ z))) (omega (arith, m.0, longer), written)
    where
      x : ℕ
      x = get_or T (place_on s C t - 1) 0

      list : List ℕ
      list = met s C T t

      longer : length (list ++ (x ∷ [])) ≡ length list + 1
      longer = length-append list (x ∷ [])

      written : set out n i ≡ (list ++ (x ∷ [])) ++ drop (length (list ++ (x ∷ []))) o
      written =
          ap (λ (z : List ℕ). set z n i) m.1
          ∙ ap (λ (k : ℕ). set (list ++ drop (length list) o) k i) m.0
          ∙ set_next list o i few
          ∙ ap (λ (y : ℕ). (list ++ (y ∷ [])) ++ drop (suc (length list)) o) e
          ∙ ap (λ (k : ℕ). (list ++ (x ∷ [])) ++ drop k o) (sym (longer ∙ add-one (length list)))

-- ---- numbers of cards

pub count_nine : (s l p : ℕ) → sized s l ≡ true → through_count s l p ≤ 9
count_nine s l p size = omega (arith, count_few s l size p, (elements_few s (sized-offered s l size)).1)

-- ---- no such row

module _ (s l i : ℕ) (out : inside (row_count s l) i ≡ false) where
  none : is_tagged s l i ≡ false
  unfolding is_tagged
  none = and_false_l (inside (row_count s l) i) _ out

  pub tag_out : (affine_family s l).tag_of_row i ≡ 0
  unfolding affine_family
  tag_out = rw none

  pub made_out : (affine_family s l).made i ≡ []
  unfolding affine_family
  made_out = rw out
