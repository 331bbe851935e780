-- The message file (document 01: shelf): "letters TBS, 2-byte version 1, 2-byte count, then for each card a 2-byte length and its bytes", and
-- in version 2 the shelf's number behind the version (document 02, 2.3). What is refused of it, where its items (cards) lie, and what Fetch
-- gives. Assumes nothing.
use Rattle.std.specs.Prelude.{◌≡◌, Bool, ◌&&◌, List, [], ◌∷◌, ℕ, zero, suc, ◌+◌, ◌-◌, ◌≤◌, eqb, leb, length, take, drop, if◌then◌else◌}
use Rattle.std.specs.Borrow.{Bor}
use Rattle.blocks.specs.Number.{number}
use Rattle.stamp.specs.Front.{front_size, version_of, begins_as}
use Rattle.files.specs.Refusals.{Refusal}
use Rattle.files.specs.Refusals.{none, unless, passes, first}

-- the 2-byte number at a place
unfoldable pub number16 : List ℕ → ℕ → ℕ
number16 s at = number (take 2 (drop at s))

-- the letters TBS, and the newest version that a message file has
unfoldable pub message_letters : List ℕ
message_letters = 0x54 ∷ 0x42 ∷ 0x53 ∷ []

unfoldable pub newest_message : ℕ
newest_message = 2

-- where the items start in version v: behind the count
unfoldable pub items_at : ℕ → ℕ
items_at v = front_size v + 2

-- the number of items that the file says it has
unfoldable pub item_count : List ℕ → ℕ
item_count s = number16 s (front_size (version_of s))

-- the place behind the first k items: where the length of item k + 1 stands
unfoldable pub behind : List ℕ → ℕ → ℕ
behind s zero = items_at (version_of s)
behind s (suc k) = behind s k + 2 + number16 s (behind s k)

-- where the bytes of item j start, how many they are, and what they are; items are numbered from 1
unfoldable pub item_start : List ℕ → ℕ → ℕ
item_start s j = behind s (j - 1) + 2

unfoldable pub item_size : List ℕ → ℕ → ℕ
item_size s j = number16 s (behind s (j - 1))

unfoldable pub item : List ℕ → ℕ → List ℕ
item s j = take (item_size s j) (drop (item_start s j) s)

-- ---- what is refused

-- 3: "under 7 or over 65,536 bytes, or wrong letters or version"; "A version 2 shelf needs 11 bytes"
unfoldable pub refuse3 : List ℕ → Refusal
refuse3 s = unless (begins_as message_letters newest_message (items_at (version_of s)) s && leb (length s) 65536) 3 0

-- whether an item's length, and the item behind it, lie in the file, and the length is at most 1,024
unfoldable pub item_fits : List ℕ → ℕ → Bool
item_fits s at = leb (at + 2) (length s) && (leb (number16 s at) 1024 && leb (at + 2 + number16 s at) (length s))

-- 5 for one of the first k items, at the first that does not fit
unfoldable pub refuse_items : List ℕ → ℕ → Refusal
refuse_items s zero = none
refuse_items s (suc k) = first (refuse_items s k ∷ unless (item_fits s (behind s k)) 5 (suc k) ∷ [])

-- 5: "a length above 1,024, a card or its length running past the end, or bytes after the last card. Place: the first such card, or
-- count+1 for bytes left over."
unfoldable pub refuse5 : List ℕ → Refusal
refuse5 s = first (refuse_items s (item_count s) ∷ unless (eqb (behind s (item_count s)) (length s)) 5 (item_count s + 1) ∷ [])

-- a file that neither refuses
pub record Sound (s : List ℕ) : Type 0 where
  pub head : refuse3 s ≡ none
  pub whole : refuse5 s ≡ none
  pub long : items_at (version_of s) ≤ length s
  pub short : length s ≤ 65536

-- 8: "card number 0 or above count"
unfoldable pub refuse8 : ℕ → ℕ → Refusal
refuse8 n j = unless (leb 1 j && leb j n) 8 0

-- ---- Fetch (shelf, card number): 3, 5, 8

unfoldable pub fetch_refusal : List ℕ → ℕ → Refusal
fetch_refusal s j = first (refuse3 s ∷ refuse5 s ∷ refuse8 (item_count s) j ∷ [])

-- where the part that Fetch gives starts, and its length: "the empty part at the shelf's front" when it refuses
unfoldable pub fetch_start : List ℕ → ℕ → ℕ
fetch_start s j = if passes (fetch_refusal s j) then item_start s j else 0

unfoldable pub fetch_size : List ℕ → ℕ → ℕ
fetch_size s j = if passes (fetch_refusal s j) then item_size s j else 0

-- r is the part of the lent slice s from a place on, so many bytes: what it holds, and where it lies in memory
pub record PartOf (s : Bor (List ℕ)) (at len : ℕ) (r : Bor (List ℕ)) : Type 0 where
  pub bytes : r.now ≡ take len (drop at s.now)
  pub block : r.ref_ptr.0 ≡ s.ref_ptr.0
  pub offset : r.ref_ptr.1 ≡ s.ref_ptr.1 + at
