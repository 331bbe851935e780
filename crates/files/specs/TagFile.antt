-- The tag file (document 01: sheet): "letters TBT, 2-byte version 1, 1-byte size code, 2-byte count, t tags of 16 bytes, seal of 16 bytes",
-- "The seal is CMAC under the seal key of all bytes before it", and in version 2 the shelf's number behind the version (document 02, 2.3);
-- version 3 is "laid out as version 2" (2.5). What is refused of it, and what it holds. Assumes nothing.
use Rattle.std.specs.Prelude.{◌≡◌, Bool, true, ◌&&◌, List, [], ◌∷◌, ◌++◌, ℕ, ◌+◌, ◌-◌, ◌*◌, ◌≤◌, eqb, leb, length, get_or, take, drop}
use Rattle.blocks.specs.Block.{Bytes, same}
use Rattle.blocks.specs.Number.{big_endian}
use Rattle.cipher.specs.Cmac.{cmac}
use Rattle.incidence.specs.Count.{inside}
use Rattle.sizes.specs.Sizes.{known, family_of}
use Rattle.stamp.specs.declared.Stamp.{Stamp}
use Rattle.stamp.specs.Front.{front, front_size, stamp_fits, version_of, stamp_of, begins_as}
use Rattle.files.specs.Refusals.{Refusal}
use Rattle.files.specs.declared.tagfile.Head.{Head}
use Rattle.files.specs.Refusals.{unless}
use Rattle.files.specs.Message.{number16}

-- ---- what the writer lays out

-- the letters TBT, and the newest version that a tag file has
unfoldable pub tag_letters : List ℕ
tag_letters = 0x54 ∷ 0x42 ∷ 0x54 ∷ []

unfoldable pub newest_tag_file : ℕ
newest_tag_file = 3

-- the stamp of a file made anew for a message's number: "Tag and sessions write 3" (document 02, 2.5)
unfoldable pub stamp_for : ℕ → Stamp
stamp_for number = record { version = newest_tag_file; number = number }

-- what a file says before its tags: stamp, size code c and count n
abbrev pub head_for : Stamp → ℕ → ℕ → Head
head_for st c n = record { stamp = st; code = c; count = n }

-- the bytes before the tags, and how many they are in version v
unfoldable pub header : Head → List ℕ
header h = front tag_letters h.stamp ++ (h.code ∷ big_endian 2 h.count)

unfoldable pub tags_at : ℕ → ℕ
tags_at v = front_size v + 3

-- everything before the MAC, with the tags one after another
unfoldable pub body : Head → List ℕ → List ℕ
body h tags = header h ++ tags

-- with the MAC (document 01: seal) under the seal key
unfoldable pub sealed : List ℕ → List ℕ → List ℕ
sealed key s = s ++ cmac key s

-- the length of the tag file that says h: 24+16t bytes in version 1, 28+16t in versions 2 and 3
unfoldable pub file_size : Head → ℕ
file_size h = tags_at h.stamp.version + 16 * (family_of h.code).tags + 16

-- ---- what a file says

unfoldable pub code_of : List ℕ → ℕ
code_of s = get_or s (front_size (version_of s)) 0

unfoldable pub count_of : List ℕ → ℕ
count_of s = number16 s (front_size (version_of s) + 1)

unfoldable pub head_of : List ℕ → Head
head_of s = head_for (stamp_of s) (code_of s) (count_of s)

-- the tags one after another, and all that the MAC is of
unfoldable pub tags_in : List ℕ → List ℕ
tags_in s = take (length s - (tags_at (version_of s) + 16)) (drop (tags_at (version_of s)) s)

unfoldable pub body_of : List ℕ → List ℕ
body_of s = take (length s - 16) s

unfoldable pub mac_of : List ℕ → List ℕ
mac_of s = drop (length s - 16) s

-- ---- what is refused

-- a code that is one, and a count from 1 to the items of its family
unfoldable pub count_fits : ℕ → ℕ → Bool
count_fits c n = known c && (leb 1 n && leb n (family_of c).items)

-- 6: "sheet under 24 bytes, wrong letters, version or size code, count outside 1 to m, or length not 24+16t"; in versions 2 and 3 28 and 28+16t
unfoldable pub refuse6 : List ℕ → Refusal
refuse6 s =
    unless (begins_as tag_letters newest_tag_file (tags_at (version_of s) + 16) s && (count_fits (code_of s) (count_of s) && eqb (length s) (file_size (head_of s)))) 6 0

-- a file that 6 does not refuse
pub record Formed (s : List ℕ) : Type 0 where
  pub long : tags_at (version_of s) + 16 ≤ length s
  pub letters : take 3 s ≡ tag_letters
  pub version : inside newest_tag_file (version_of s) ≡ true
  pub fits : count_fits (code_of s) (count_of s) ≡ true
  pub size : length s ≡ file_size (head_of s)

-- 20: "seal differs"
unfoldable pub refuse20 : List ℕ → List ℕ → Refusal
refuse20 key s = unless (same (mac_of s) (cmac key (body_of s))) 20 0

-- demand 2 and document 02, 2.3: a file that the writer lays out and seals "for some version and number as well as some size, count and tags"
pub record Written (key s : List ℕ) : Type 0 where
  pub head : Head
  pub tags : List ℕ
  pub stamped : stamp_fits newest_tag_file head.stamp ≡ true
  pub fits : count_fits head.code head.count ≡ true
  pub long : length tags ≡ 16 * (family_of head.code).tags
  pub bytes : Bytes tags
  pub so : s ≡ sealed key (body head tags)
