-- Document 01, Planes: the constants of the four planes, a column each, by the s of 000, section 6.4 (s is 1 to 4; any other s has none:
-- 0 and no entries). Assumes nothing.
use Rattle.std.specs.Prelude.{List, [], ◌∷◌, ℕ, get_or}

-- items m (document 01: cards), of which there are as many rows
unfoldable pub item_counts : List ℕ
item_counts = 0 ∷ 7 ∷ 21 ∷ 73 ∷ 273 ∷ []

unfoldable pub plane_items : ℕ → ℕ
plane_items s = get_or item_counts s 0

-- tags t
unfoldable pub tag_counts : List ℕ
tag_counts = 0 ∷ 4 ∷ 10 ∷ 28 ∷ 82 ∷ []

unfoldable pub plane_tags : ℕ → ℕ
plane_tags s = get_or tag_counts s 0

-- disjunctness d (document 01: limit)
unfoldable pub limits : List ℕ
limits = 0 ∷ 2 ∷ 4 ∷ 8 ∷ 16 ∷ []

unfoldable pub plane_limit : ℕ → ℕ
plane_limit s = get_or limits s 0

-- the difference list D
unfoldable pub difference_lists : List (List ℕ)
difference_lists =
    []
    ∷ (1 ∷ 2 ∷ 4 ∷ [])
    ∷ (3 ∷ 6 ∷ 7 ∷ 12 ∷ 14 ∷ [])
    ∷ (1 ∷ 2 ∷ 4 ∷ 8 ∷ 16 ∷ 32 ∷ 37 ∷ 55 ∷ 64 ∷ [])
    ∷ (1 ∷ 2 ∷ 4 ∷ 8 ∷ 16 ∷ 32 ∷ 64 ∷ 91 ∷ 117 ∷ 128 ∷ 137 ∷ 182 ∷ 195 ∷ 205 ∷ 234 ∷ 239 ∷ 256 ∷ [])
    ∷ []

unfoldable pub differences : ℕ → List ℕ
differences s = get_or difference_lists s []

-- the row pattern: how many rows back each row stands whose XOR a later row is
unfoldable pub pattern_lists : List (List ℕ)
pattern_lists =
    []
    ∷ (2 ∷ 3 ∷ 4 ∷ [])
    ∷ (2 ∷ 4 ∷ 6 ∷ 7 ∷ 10 ∷ [])
    ∷ (2 ∷ 6 ∷ 9 ∷ 10 ∷ 11 ∷ 14 ∷ 15 ∷ 16 ∷ 19 ∷ 20 ∷ 23 ∷ 24 ∷ 25 ∷ 27 ∷ 28 ∷ [])
    ∷ (2 ∷ 4 ∷ 8 ∷ 14 ∷ 17 ∷ 19 ∷ 21 ∷ 22 ∷ 24 ∷ 25 ∷ 30 ∷ 31 ∷ 32 ∷ 34 ∷ 36 ∷ 40 ∷ 42 ∷ 43 ∷ 44 ∷ 46 ∷ 48 ∷ 49 ∷ 53 ∷ 55 ∷ 56 ∷ 57 ∷ 58 ∷ 69 ∷ 70 ∷ 71 ∷ 77 ∷ 78 ∷ 79 ∷ 81 ∷ 82 ∷ [])
    ∷ []

unfoldable pub plane_pattern : ℕ → List ℕ
plane_pattern s = get_or pattern_lists s []
