-- The numbers 1 to n that pass a test: how many, whether any, whether each, and which. Rows, items and tags are numbered so (document 01,
-- Planes). Each goes up by one number at a time, so that what holds of the first n needs no definition of its own. Assumes nothing.
use Rattle.std.specs.Prelude.{Bool, true, false, ◌&&◌, ◌||◌, List, [], ◌∷◌, ◌++◌, ℕ, zero, suc, ◌+◌, leb, if◌then◌else◌}

-- 1 for a test that is passed
abbrev pub indicator : Bool → ℕ
indicator true = 1
indicator false = 0

-- how many of the numbers 1 to n pass p
abbrev pub count_up_to : (ℕ → Bool) → ℕ → ℕ
count_up_to p zero = 0
count_up_to p (suc n) = count_up_to p n + indicator (p (suc n))

-- whether one of the numbers 1 to n passes p
abbrev pub any_up_to : (ℕ → Bool) → ℕ → Bool
any_up_to p zero = false
any_up_to p (suc n) = any_up_to p n || p (suc n)

-- whether each of the numbers 1 to n passes p
abbrev pub all_up_to : (ℕ → Bool) → ℕ → Bool
all_up_to p zero = true
all_up_to p (suc n) = all_up_to p n && p (suc n)

-- the numbers 1 to n that pass p, rising
abbrev pub listed : (ℕ → Bool) → ℕ → List ℕ
listed p zero = []
listed p (suc n) = if p (suc n) then listed p n ++ (suc n ∷ []) else listed p n

-- whether i is one of the numbers 1 to n
abbrev pub inside : ℕ → ℕ → Bool
inside n i = leb 1 i && leb i n
