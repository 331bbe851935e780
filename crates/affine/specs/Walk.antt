-- The points of a line and the lines through a point, in rising order, one after the other. What the functions of this crate ask of each
-- other; no contract that another crate relies on cites it. Assumes nothing.
use Rattle.std.specs.Prelude.{◌≡◌, List, [], ◌∷◌, ◌++◌, ℕ, zero, suc, ◌+◌, ◌-◌, ◌*◌, ◌/◌, ◌%◌, ◌^◌, eqb, length, get_or, take, drop, if◌then◌else◌}
use Rattle.std.specs.Int.Bits.{bit_xor}
use Rattle.affine.specs.declared.Line.{Line}
use Rattle.affine.specs.declared.Course.{Course}
use Rattle.affine.specs.declared.Course.TheVariants.{Level, Sloped}
use Rattle.affine.specs.Field.{product, element_inverse}
use Rattle.affine.specs.Lines.{x_of, y_of}
use Rattle.affine.specs.Affine.{affine_family}

-- the first n of the numbers f 0, f 1, ..
unfoldable pub firsts : (ℕ → ℕ) → ℕ → List ℕ
firsts f zero = []
firsts f (suc n) = firsts f n ++ (f n ∷ [])

-- ax + by = c solved: where a is 0, y = c / b; else x = c / a + (b / a) y
unfoldable pub course_of : ℕ → Line → Course
course_of s L =
    if eqb L.a 0 then Level (product s (element_inverse s L.b) L.c) else
    Sloped (product s (element_inverse s L.a) L.c) (product s (element_inverse s L.a) L.b)

-- where it starts: its y, or its x at y = 0
abbrev pub start_of : Course → ℕ
start_of (Level y) = y
start_of (Sloped start slope) = start

-- its point at place t, from 0 to 2^s − 1: t is x where it is level, and y where it is not
unfoldable pub place_on : ℕ → Course → ℕ → ℕ
place_on s (Level y) t = y * 2 ^ s + t + 1
place_on s (Sloped start slope) t = t * 2 ^ s + bit_xor start (product s slope t) + 1

-- the entries, other than 0, of a table of points at the first n places
unfoldable pub met : ℕ → Course → List ℕ → ℕ → List ℕ
met s C T zero = []
met s C T (suc n) =
    if eqb (get_or T (place_on s C n - 1) 0) 0 then met s C T n else met s C T n ++ (get_or T (place_on s C n - 1) 0 ∷ [])

-- which of the 2^s + 1 lines through the origin goes through another point: x = 0, or y = kx with k = y / x
unfoldable pub chosen_at : ℕ → ℕ → ℕ
chosen_at s p = if eqb (x_of s p) 0 then 2 ^ s + 1 else product s (element_inverse s (x_of s p)) (y_of s p) + 1

-- a line ax + by = 1 goes through point (x, y) where (b, a) is on the line yx' + xy' = 1
unfoldable pub dual : ℕ → ℕ → Line
dual s p = record { a = y_of s p; b = x_of s p; c = 1 }

-- the items whose lines go through point p, which is a row, in rising order: at the origin all chosen lines; elsewhere one, and then 2^s
-- lines ax + by = 1
unfoldable pub through_count : ℕ → ℕ → ℕ → ℕ
through_count s l p = if eqb p 1 then l else 2 ^ s + 1

unfoldable pub through_at : ℕ → ℕ → ℕ → ℕ → ℕ
through_at s l p k =
    if eqb p 1 then k + 1 else (if eqb k 0 then chosen_at s p else l + place_on s (course_of s (dual s p)) (k - 1) - 1)

-- entry k of a table, of one byte each or of two
unfoldable pub entry_of : List ℕ → ℕ → ℕ
entry_of t k = get_or t k 0

unfoldable pub wide_entry_of : List ℕ → ℕ → ℕ
wide_entry_of t k = 256 * entry_of t (2 * k) + entry_of t (2 * k + 1)

-- the place of a size among the ten, from 0
unfoldable pub size_index : ℕ → ℕ → ℕ
size_index s l = if eqb s 2 then l - 3 else l

-- the place behind n lists of a table, each behind its length, from place a on
unfoldable pub past_lists : List ℕ → ℕ → ℕ → ℕ
past_lists T a zero = a
past_lists T a (suc n) = let b = past_lists T a n in b + 1 + entry_of T b

-- what two tables say of row i: the one, where the lists of every eighth row begin in the other, and that, of how many rows it is made and of
-- which
pub record MadeIn (s l i : ℕ) (S T : List ℕ) : Type 0 where
  pub stands : take (suc (length ((affine_family s l).made i))) (drop (past_lists T (wide_entry_of S (8 * size_index s l + (i - 1) / 8)) ((i - 1) % 8)) T)
      ≡ length ((affine_family s l).made i) ∷ (affine_family s l).made i
