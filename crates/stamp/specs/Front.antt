-- What both files begin with (document 01, 'The two files'; document 02, 2.3): three letters, a 2-byte version and, behind it, the number
-- of the shelf. "Version 2 of both files carries a 4-byte shelf number directly after the version." "Version 1 counts as number 0". Sheet
-- version 3 is "laid out as version 2" (2.5).
-- Assumes nothing.
use Rattle.std.specs.Prelude.{Bool, ◌&&◌, List, ◌++◌, ℕ, ◌+◌, ◌^◌, eqb, leb, ltb, length, take, drop, if◌then◌else◌}
use Rattle.blocks.specs.Block.{same}
use Rattle.incidence.specs.Count.{inside}
use Rattle.blocks.specs.Number.{number, big_endian}
use Rattle.stamp.specs.declared.Stamp.{Stamp}

-- how many bytes the number has in version v: none in version 1
unfoldable pub number_size : ℕ → ℕ
number_size v = if eqb v 1 then 0 else 4

-- ---- what a writer lays out

-- letters, version and number
unfoldable pub front : List ℕ → Stamp → List ℕ
front letters st = letters ++ (big_endian 2 st.version ++ big_endian (number_size st.version) st.number)

-- and how many bytes they are
unfoldable pub front_size : ℕ → ℕ
front_size v = 5 + number_size v

-- whether a file that has the versions 1 to `newest` can say so: one of them, and a number that its bytes hold; in version 1 that is 0
unfoldable pub stamp_fits : ℕ → Stamp → Bool
stamp_fits newest st = inside newest st.version && ltb st.number (256 ^ number_size st.version)

-- ---- what a file says

unfoldable pub version_of : List ℕ → ℕ
version_of s = number (take 2 (drop 3 s))

unfoldable pub stamp_of : List ℕ → Stamp
stamp_of s = record { version = version_of s; number = number (take (number_size (version_of s)) (drop 5 s)) }

-- whether s begins as a file with these letters does: it has so many bytes at least, its letters, and one of the versions 1 to `newest`
unfoldable pub begins_as : List ℕ → ℕ → ℕ → List ℕ → Bool
begins_as letters newest least s = (leb least (length s) && same (take 3 s) letters) && inside newest (version_of s)
