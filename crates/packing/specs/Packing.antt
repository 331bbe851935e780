-- Packing: a message file (document 01: shelf) of a version and a number built from items (cards), one after another. The file of a list of
-- items, and the two calls that build it in a lent buffer, `begin` and `append`: what each refuses and what it leaves in the buffer, for all
-- inputs. Assumes nothing.
use Rattle.std.specs.Prelude.{List, [], ◌∷◌, ◌++◌, ℕ, ◌+◌, leb, ltb, length, take, drop, if◌then◌else◌}
use Rattle.blocks.specs.Number.{big_endian}
use Rattle.stamp.specs.declared.Stamp.{Stamp}
use Rattle.stamp.specs.Front.{front, front_size, stamp_fits, version_of}
use Rattle.files.specs.Refusals.{Refusal}
use Rattle.files.specs.Refusals.{unless, passes, first}
use Rattle.files.specs.Message.{message_letters, newest_message, items_at, item_count, refuse3}
use Rattle.files.specs.Arguments.{refuse7, refuse9}

-- ---- the file of a list of items

-- "a 2-byte length and its bytes"
unfoldable pub field : List ℕ → List ℕ
field item = big_endian 2 (length item) ++ item

-- "for each card": the fields in order
unfoldable pub fields : List (List ℕ) → List ℕ
fields [] = []
fields (item ∷ rest) = field item ++ fields rest

-- "letters TBS, 2-byte version 1, 2-byte count, then for each card a 2-byte length and its bytes", and in version 2 the shelf's number behind
-- the version (document 02, 2.3)
unfoldable pub message_of : Stamp → List (List ℕ) → List ℕ
message_of st items = front message_letters st ++ (big_endian 2 (length items) ++ fields items)

-- the file s with one item more behind its last; its version and number stay
unfoldable pub appended : List ℕ → List ℕ → List ℕ
appended s item = (take (front_size (version_of s)) s ++ big_endian 2 (item_count s + 1)) ++ (drop (items_at (version_of s)) s ++ field item)

-- ---- begin (lent buffer, stamp): 3, 7

-- 3: no such version, or a number that it has no bytes for
unfoldable pub begin_file_refusal : Stamp → ℕ → Refusal
begin_file_refusal st room = first (unless (stamp_fits newest_message st) 3 0 ∷ refuse7 (items_at st.version) room ∷ [])

-- the file without items in front; the bytes behind stay, and all where it is refused
unfoldable pub begin_file_writes : Stamp → List ℕ → List ℕ
begin_file_writes st out = if passes (begin_file_refusal st (length out)) then message_of st [] ++ drop (items_at st.version) out else out

-- ---- append (lent buffer whose first n bytes are the file so far, n, item): 9, 7, 3

-- 3 is also what is refused of the file with the item: "over 65,536 bytes", or a count that has no successor of 2 bytes
unfoldable pub append_refusal : List ℕ → ℕ → List ℕ → Refusal
append_refusal file n item =
    first
    (refuse9 (length item) 0 ∷
    refuse7 (n + 2 + length item) (length file) ∷
    refuse3 (take n file) ∷
    unless (leb (n + 2 + length item) 65536) 3 0 ∷
    unless (ltb (item_count (take n file)) 65535) 3 0 ∷ [])

-- the file with the item in front; the bytes behind stay, and all where it is refused
unfoldable pub append_writes : List ℕ → ℕ → List ℕ → List ℕ
append_writes file n item =
    if passes (append_refusal file n item) then appended (take n file) item ++ drop (n + 2 + length item) file else file

-- ---- a run

-- the buffer after the items are appended one after another, each behind the file so far, which has n bytes at first
unfoldable pub append_all : List ℕ → ℕ → List (List ℕ) → List ℕ
append_all file n [] = file
append_all file n (item ∷ rest) = append_all (append_writes file n item) (n + 2 + length item) rest
