-- What is refused of all else that a caller hands over (document 01, 'From the input'): keys, size code, count, an item, and
-- room in a lent buffer. 3, 5, 6, 8 and 20 are in Message and TagFile. Assumes nothing.
use Rattle.std.specs.Prelude.{ℕ, eqb, leb}
use Rattle.incidence.specs.Count.{inside}
use Rattle.sizes.specs.Sizes.{known, family_of}
use Rattle.files.specs.Refusals.{Refusal}
use Rattle.files.specs.Refusals.{unless}

-- 1: "keys not 48 bytes"
unfoldable pub refuse1 : ℕ → Refusal
refuse1 long = unless (eqb long 48) 1 0

-- 2: "size code not 1 to 4", nor, since document 02, 2.7, one of its codes
unfoldable pub refuse2 : ℕ → Refusal
refuse2 c = unless (known c) 2 0

-- 4: "count 0 or above m"
unfoldable pub refuse4 : ℕ → ℕ → Refusal
refuse4 c n = unless (inside (family_of c).items n) 4 0

-- 7: "lent buffer shorter than the output"
unfoldable pub refuse7 : ℕ → ℕ → Refusal
refuse7 size room = unless (leb size room) 7 0

-- 9: "handed card over 1,024 bytes"
unfoldable pub refuse9 : ℕ → ℕ → Refusal
refuse9 long place = unless (leb long 1024) 9 place
