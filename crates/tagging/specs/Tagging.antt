-- Tag's rule (000, section 4.3; document 01, 'Keys and codes' and 'The two files'): from keys, head and items to the tag file. Items are
-- numbered from 1; `items j` is the bytes of item j. Assumes nothing.
use Rattle.std.specs.Prelude.{List, ℕ, suc}
use Rattle.blocks.specs.Block.{slot, list_of}
use Rattle.incidence.specs.Sum.{row_sum}
use Rattle.sizes.specs.Sizes.{family_of}
use Rattle.files.specs.declared.tagfile.Head.{Head}
use Rattle.stamp.specs.declared.Stamp.{Stamp}
use Rattle.stamp.specs.Front.{stamp_of}
use Rattle.files.specs.Message.{item_count}
use Rattle.files.specs.TagFile.{stamp_for, head_for, body, sealed}
use Rattle.keyed.specs.Keyed.{item_hash, tag_of}
use Rattle.tagging.specs.declared.Keys.{Keys}

-- "The key bundle is 48 bytes: card key, tag key, seal key, 16 each."
unfoldable pub keys_in : List ℕ → Keys
keys_in s = record { item = slot s 0; tag = slot s 1; seal = slot s 2 }

-- the hash of each item of the message that has this stamp (document 01: code of card j)
unfoldable pub hashes : Keys → Stamp → (ℕ → List ℕ) → ℕ → List ℕ
hashes keys st items j = item_hash keys.item st j (items j)

-- the sum that tag k is made of: its row's, over the first n items
unfoldable pub tag_sum : Keys → Stamp → ℕ → (ℕ → List ℕ) → ℕ → ℕ → List ℕ
tag_sum keys st c items n k = row_sum (family_of c) (hashes keys st items) n ((family_of c).row_of_tag k)

-- the tag file that says h before its tags, which are made of these sums, laid out and sealed
unfoldable pub file_of : Keys → Head → (ℕ → List ℕ) → List ℕ
file_of keys h sum = sealed keys.seal (body h (list_of (λ k. tag_of keys.tag (suc k) (sum (suc k))) (family_of h.code).tags))

-- Tag's rule, for a head's version, number and size code and as many items as it counts. Document 01: "The unaltered sheet of a shelf, for given
-- keys and size, is laid out for that shelf and size with the tags that Tag's rule gives, and sealed under those keys, whichever call wrote it."
unfoldable pub tag_file : Keys → Head → (ℕ → List ℕ) → List ℕ
tag_file keys h items = file_of keys h (tag_sum keys h.stamp h.code items h.count)

-- what the tag file that Tag makes of message s says: "Tag takes the number from the shelf", and writes the newest version
unfoldable pub tag_head : ℕ → List ℕ → Head
tag_head c s = head_for (stamp_for (stamp_of s).number) c (item_count s)
