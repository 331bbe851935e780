-- The difference lists in the code: their members are numbers of 16 bits, none above 273; and what the pattern of a list handed on is.
use Rattle.std.specs.Prelude.{◌≡◌, ◌++◌, ◌-◌, ◌≤◌, ◌<◌, Option, Some, unwrap_or}
use Rattle.fips197.proofs.Kit.{refl, sym, ap, ap₂, ◌∙◌, Bool, true, false, List, ℕ, arith, length, get_or, take, drop, take_at, le-ltb}
use Rattle.incidence.proofs.Counting.{every, every_at}
use Rattle.plane.specs.Table.{plane_items, difference_lists, differences}
use Rattle.plane.proofs.Ranks.{under, under_at}
use Rattle.plane.proofs.Lookup.{five, no_differences, differences_few, items-most}
use Rattle.plane.proofs.Rules.{rules}
use Rattle.cyclic.specs.CyclicCode.{row_pattern}
use Rattle.cyclic.specs.Deriving.{refuses, pattern_answer, pattern_writes}
use Rattle.cyclic.proofs.Deriving.{refuses-not, is_derived, is_written}
use Rattle.derivation.specs.Derived.{derived}

small : ℕ → Bool
small s = under 274 (differences s)

smalls : every small 5 ≡ true
unfolding small differences difference_lists
smalls = refl

pub member_small : (s k : ℕ) → k < length (differences s) → get_or (differences s) k 0 < 274
unfolding small
member_small s k h = under_at 274 (differences s) (five s (every_at small 5 smalls s) (λ u. ap (under 274) (no_differences s u))) k h

-- ---- the list as it is handed on, and what comes of it

-- the array that it is copied to has room for it
pub list_few : (s n : ℕ) → n ≡ length (differences s) → n ≤ 17
list_few s n e = omega (arith, differences_few s)

-- the front of that array
pub lent_list : (s n : ℕ) (l o : List ℕ) → l ≡ differences s ++ drop (length (differences s)) o → n ≡ length (differences s)
    → take (n - 0) l ≡ differences s
lent_list s n l o e f =
    let z : n - 0 ≡ length (differences s) = omega arith in
    ap₂ take z e ∙ take_at (differences s) (drop (length (differences s)) o) (length (differences s)) refl

module _ (s m room : ℕ) (D : List ℕ) (low : 1 ≤ s) (high : s ≤ 4) (e : m ≡ plane_items s) (d : D ≡ differences s) (wide : 273 ≤ room) where
  not_refused : refuses m room ≡ false
  not_refused =
      let some : 0 < plane_items s = (rules s low high).some in
      refuses-not m room (λ z. omega arith) (le-ltb 273 m (omega (arith, items-most s))) (le-ltb room m (omega (arith, items-most s)))

  is_pattern : row_pattern m D ≡ derived s
  unfolding derived
  is_pattern = ap₂ row_pattern e d

  pub derived_some : (r : Option ℕ) → r ≡ pattern_answer m D room → r ≡ Some (length (derived s))
  derived_some r q = q ∙ sym (is_derived m D room (length (row_pattern m D)) not_refused refl) ∙ ap (λ (l : List ℕ). Some (length l)) is_pattern

  pub derived-count : (r : Option ℕ) (n : ℕ) → r ≡ Some n → r ≡ pattern_answer m D room → n ≡ length (derived s)
  derived-count r n e q = ap (λ (o : Option ℕ). unwrap_or o 0) (sym e ∙ derived_some r q)

pub derived_written : (s m : ℕ) (D o out : List ℕ) → 1 ≤ s → s ≤ 4 → m ≡ plane_items s → D ≡ differences s → 273 ≤ length o
    → out ≡ pattern_writes m D o → out ≡ derived s ++ drop (length (derived s)) o
derived_written s m D o out low high e d wide q =
    q
    ∙ sym (is_written m D o (row_pattern m D ++ drop (length (row_pattern m D)) o) (not_refused s m (length o) D low high e d wide) refl)
    ∙ ap (λ (l : List ℕ). l ++ drop (length l) o) (is_pattern s m (length o) D low high e d wide)
