-- Document 01, sessions: "A session carries its row sums and all three keys with it; each step takes the session and gives back the next."
-- Begin, which is handed the shelf's number (document 02, 2.3), Put and Close, each as what it refuses, the session that it gives and, of
-- Close, what it leaves in the lent buffer, for all sessions and inputs. Assumes nothing.
use Rattle.std.specs.Prelude.{◌≡◌, Bool, ◌&&◌, List, [], ◌∷◌, ◌++◌, ℕ, zero, suc, ◌+◌, ◌*◌, eqb, leb, ltb, length, drop, if◌then◌else◌}
use Rattle.blocks.specs.Block.{◌⊕◌, zeros, slot, list_of}
use Rattle.sizes.specs.Sizes.{family_of}
use Rattle.files.specs.Refusals.{Refusal}
use Rattle.files.specs.Refusals.{unless, passes, first}
use Rattle.files.specs.declared.tagfile.Head.{Head}
use Rattle.files.specs.TagFile.{stamp_for, head_for, file_size, count_fits}
use Rattle.files.specs.Arguments.{refuse1, refuse2, refuse4, refuse7, refuse9}
use Rattle.keyed.specs.Keyed.{item_hash}
use Rattle.sums.specs.Adding.{sum_in}
use Rattle.tagging.specs.Tagging.{keys_in, file_of}
use Rattle.session.specs.declared.Session.{Session}

-- "the closed session, all its fields zero"
unfoldable pub closed : Session
closed =
    record { number = 0; code = 0; count = 0; taken = 0; keys = record { item = zeros 16; tag = zeros 16; seal = zeros 16 }; sums = zeros 1312 }

-- whether a session is open: "A session whose size code or counts no run of these calls can give is treated as closed." That these are
-- the size codes and counts that a run can give is a theorem (proofs/Reaching.antt: open_exactly; `Given` below).
unfoldable pub session_is_open : Session → Bool
session_is_open s = count_fits s.code s.count && leb s.taken s.count

-- what the tag file of a session says: "sessions write 3", the newest version, with the number begun with
unfoldable pub session_head : Session → Head
session_head s = head_for (stamp_for s.number) s.code s.count

-- ---- what is refused from the state

-- 24: "session already closed"
unfoldable pub refuse24 : Session → Refusal
refuse24 s = unless (session_is_open s) 24 0

-- 22: "session already has all its cards"
unfoldable pub refuse22 : Session → Refusal
refuse22 s = unless (ltb s.taken s.count) 22 0

-- 23: "session closed early. Place: cards so far."
unfoldable pub refuse23 : Session → Refusal
refuse23 s = unless (eqb s.taken s.count) 23 s.taken

-- ---- Begin (keys, size code, count, number): 1, 2, 4; "a session's begin is handed" the number, which any 4 bytes may be

unfoldable pub begin_refusal : List ℕ → ℕ → ℕ → Refusal
begin_refusal keys c n = first (refuse1 (length keys) ∷ refuse2 c ∷ refuse4 c n ∷ [])

-- no items taken and all sums zero; "A refused begin [gives] the closed session"
unfoldable pub begin_gives : List ℕ → ℕ → ℕ → ℕ → Session
begin_gives keys c n number =
    if passes (begin_refusal keys c n)
    then record { number = number; code = c; count = n; taken = 0; keys = keys_in keys; sums = zeros 1312 }
    else closed

-- ---- Put next card: 24, 22, 9

unfoldable pub put_refusal : Session → List ℕ → Refusal
put_refusal s item = first (refuse24 s ∷ refuse22 s ∷ refuse9 (length item) 0 ∷ [])

-- an array of the tags' sums with a value added to those of the tagged rows of item j; what is behind them stays
unfoldable pub added_to_tags : ℕ → ℕ → List ℕ → List ℕ → List ℕ
added_to_tags c j value sums =
    list_of (λ k. if (family_of c).on ((family_of c).row_of_tag (suc k)) j then slot sums k ⊕ value else slot sums k) (family_of c).tags
    ++ drop (16 * (family_of c).tags) sums

-- the session with one item more: "a put still adds its code", and for a vacant place zeros (document 02, 2.5)
unfoldable pub with_item : Session → List ℕ → Session
with_item s item = record {
  number = s.number;
  code = s.code;
  count = s.count;
  taken = s.taken + 1;
  keys = s.keys;
  sums = added_to_tags s.code (s.taken + 1) (item_hash s.keys.item (stamp_for s.number) (s.taken + 1) item) s.sums;
}

-- "unchanged after a refusal"
unfoldable pub put_gives : Session → List ℕ → Session
put_gives s item = if passes (put_refusal s item) then with_item s item else s

-- ---- Close: 24, 23, 7

unfoldable pub close_refusal : Session → List ℕ → Refusal
close_refusal s out = first (refuse24 s ∷ refuse23 s ∷ refuse7 (file_size (session_head s)) (length out) ∷ [])

-- "a finished close give[s] the closed session"
unfoldable pub close_gives : Session → List ℕ → Session
close_gives s out = if passes (close_refusal s out) then closed else s

-- "Close writes and seals the tags of the sums carried."
unfoldable pub close_writes : Session → List ℕ → List ℕ
close_writes s out =
    if passes (close_refusal s out) then file_of s.keys (session_head s) (sum_in s.sums) ++ drop (file_size (session_head s)) out else out

-- ---- a run

-- the session after Begin and the first k items
unfoldable pub after : List ℕ → ℕ → ℕ → ℕ → (ℕ → List ℕ) → ℕ → Session
after keys c n number items zero = begin_gives keys c n number
after keys c n number items (suc k) = put_gives (after keys c n number items k) (items (suc k))

-- the sessions that a run of these calls can give: Begin, Put and Close, in any order and whatever they are handed, refused or not
pub data Reached : Session → Type 0 where
  begun : (keys : List ℕ) (c n number : ℕ) → Reached (begin_gives keys c n number)
  put_one : (s : Session) (item : List ℕ) → Reached s → Reached (put_gives s item)
  closed_by : (s : Session) (out : List ℕ) → Reached s → Reached (close_gives s out)

-- some run gives a session with this size code, this count and so many taken, and not by closing
pub record Given (c n k : ℕ) : Type 0 where
  pub session : Session
  pub reached : Reached session
  pub not-closed : session ≡ closed → ⊥
  pub code : session.code ≡ c
  pub count : session.count ≡ n
  pub taken : session.taken ≡ k
