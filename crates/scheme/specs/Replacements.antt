-- Document 02, 2.10, "Replacements undo and combine": what holds of the tag file that a call of Replace wrote where it is handed on to further
-- calls with the same keys, and a run of such calls. Assumes nothing.
use Rattle.std.specs.Prelude.{◌≡◌, List, ◌++◌, ℕ, length, take, drop, if◌then◌else◌}
use Rattle.blocks.specs.Block.{Bytes, ◌⊕◌}
use Rattle.sizes.specs.Sizes.{family_of}
use Rattle.files.specs.declared.tagfile.Head.{Head}
use Rattle.files.specs.TagFile.{file_size, head_of}
use Rattle.keyed.specs.Keyed.{item_hash}
use Rattle.tagging.specs.declared.Keys.{Keys}
use Rattle.checks.specs.Refused.{replace_refusal}
use Rattle.scheme.specs.Calls.{replaced_item, replace_writes}

-- ---- what a call adds, and writes

-- "Adds both codes to each tagged row of that card": of these sums, the one of tag k, changed, in a file that says h. An old or new item without
-- bytes is a vacant place where h's version says so: "Replace can thus withdraw a card (new length 0) or add one (old length 0)" (2.5).
unfoldable pub both_added : Keys → Head → ℕ → List ℕ → List ℕ → (ℕ → List ℕ) → ℕ → List ℕ
both_added keys h j old new sum k =
    if (family_of h.code).on ((family_of h.code).row_of_tag k) j
    then (sum k ⊕ item_hash keys.item h.stamp j old) ⊕ item_hash keys.item h.stamp j new
    else sum k

-- the tag file that a call on f wrote to the front of the buffer that it was lent; what is behind it is no part of it
unfoldable pub new_file : List ℕ → List ℕ → List ℕ
new_file f out = take (file_size (head_of f)) out

-- ---- what holds of it

-- g is the file that a call with these keys wrote on f, replacing item j's bytes `old` by `new`. Of f, and of what was handed over as old, nothing is
-- asked but that the call was not refused; so "on an unaltered sheet" and "with the old card as premise" it holds as well.
pub record Combines (keys f : List ℕ) (j : ℕ) (old new g : List ℕ) : Type 0 where
  -- g says the same version, number, size code and count as f, and a call on it is refused as one on f is
  pub head : head_of g ≡ head_of f
  pub refusals : (i : ℕ) (before after : List ℕ) (room : ℕ) → replace_refusal keys g i before after room ≡ replace_refusal keys f i before after room
  -- "replacing A by B and then B by C gives the same bytes as A by C", in any buffer
  pub onward : (next out : List ℕ) → replace_writes keys g j new next out ≡ replace_writes keys f j old next out
  -- "B back to A gives the old bytes"
  pub back : (out : List ℕ) → (replace_refusal keys g j new old (length out)).number ≡ 0 → replace_writes keys g j new old out ≡ f ++ drop (length f) out
  -- "Replacements of two different cards give the same bytes in either order": this one first, or first that of `before` by `after` at i, in
  -- whichever buffer `spare`
  pub either_order : (i : ℕ) (before after spare out : List ℕ) → Bytes before → Bytes after → (replace_refusal keys f i before after (length spare)).number ≡ 0
      → replace_writes keys g i before after out ≡ replace_writes keys (new_file f (replace_writes keys f i before after spare)) j old new out

-- ---- a run

-- Calls with these keys, one after another, from file f of the items `first` on: each is handed the file that the one before it wrote and, as the old
-- item, the one that stands there by then, and none is refused. The run has come to these items and this file.
pub data Run (keys : List ℕ) (first : ℕ → List ℕ) (f : List ℕ) : (ℕ → List ℕ) → List ℕ → Type 0 where
  begun : Run keys first f first f
  replaced : (items : ℕ → List ℕ) (g : List ℕ) → Run keys first f items g → (j : ℕ) (new out : List ℕ) → Bytes new
      → (replace_refusal keys g j (items j) new (length out)).number ≡ 0
      → Run keys first f (replaced_item items j new) (new_file g (replace_writes keys g j (items j) new out))
