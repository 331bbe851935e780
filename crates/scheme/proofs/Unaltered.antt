-- An unaltered tag file: what it says, that it is accepted, and that its tags give back the row sums of the items it was made of.
use Rattle.std.specs.Prelude.{◌≡◌, ◌-◌, ◌*◌, ◌≤◌, ◌<◌, if◌then◌else◌}
use Rattle.fips197.proofs.Kit.{refl, sym, ap, ◌∙◌, Bool, true, false, List, [], append-nil, ℕ, zero, suc, arith, leb, length, drop, leb-true}
use Rattle.blocks.specs.Block.{Bytes, Block, ◌⊕◌, slot, list_of}
use Rattle.blocks.proofs.Xor.{⊕-block, zeros-block, append-bytes, take-bytes, drop-bytes}
use Rattle.blocks.proofs.Slots.{slot-length, list_of-length, slot-list_of}
use Rattle.incidence.specs.Sum.{sum_over, row_sum, expanded}
use Rattle.incidence.proofs.Sums.{expanded_ext, expanded-row_sum}
use Rattle.sizes.specs.Sizes.{known, family_of}
use Rattle.sizes.proofs.Laws.{lawful}
use Rattle.files.specs.Refusals.{none}
use Rattle.stamp.specs.Front.{stamp_fits}
use Rattle.files.specs.declared.tagfile.Head.{Head}
use Rattle.files.specs.TagFile.{newest_tag_file, head_of, tags_in, count_fits, refuse6, refuse20, Written}
use Rattle.incidence.proofs.Booleans.{and_left, and_right}
use Rattle.files.proofs.Accepted.{head_back, tags_back, written_accepted}
use Rattle.keyed.specs.Keyed.{tag_of, sum_of_tag}
use Rattle.keyed.proofs.KeyedLaws.{item_hash-block, tag_of-block, tag_of-length, sum_of_tag-tag_of}
use Rattle.tagging.specs.declared.Keys.{Keys}
use Rattle.tagging.specs.Tagging.{keys_in, hashes, tag_sum, file_of, tag_file}
use Rattle.tagging.proofs.Summing.{hashes-long}
use Rattle.scheme.specs.Calls.{sum_tagged, sum_expanded}

-- ---- keys and sums are blocks

pub record KeyBlocks (K : Keys) : Type 0 where
  pub item : Block K.item
  pub tag : Block K.tag
  pub seal : Block K.seal

slot-block : (s : List ℕ) (k : ℕ) → Bytes s → 16 * suc k ≤ length s → Block (slot s k)
unfolding slot
slot-block s k b h = record { long = slot-length s k (omega arith); bytes = take-bytes 16 (drop (16 * k) s) (drop-bytes (16 * k) s b) }

pub key_blocks : (s : List ℕ) → Bytes s → length s ≡ 48 → KeyBlocks (keys_in s)
unfolding keys_in
key_blocks s b h = record { item = slot-block s 0 b (omega arith); tag = slot-block s 1 b (omega arith); seal = slot-block s 2 b (omega arith) }

sum_block : (p : ℕ → Bool) (value : ℕ → List ℕ) (n : ℕ) → ((j : ℕ) → 1 ≤ j → j ≤ n → Block (value j)) → Block (sum_over p value n)
unfolding sum_over
sum_block p value zero h = zeros-block
sum_block p value (suc n) h = go (p (suc n)) (sum_block p value n (λ j l u. h j l (omega arith)))
  where
    go : (b : Bool) → Block (sum_over p value n) → Block (if b then sum_over p value n ⊕ value (suc n) else sum_over p value n)
    go true r = ⊕-block _ _ r (h (suc n) (omega arith) (omega arith))
    go false r = r

-- ---- lists of blocks are bytes

list_of-bytes : (f : ℕ → List ℕ) (n : ℕ) → ((k : ℕ) → k < n → Bytes (f k)) → Bytes (list_of f n)
unfolding list_of
list_of-bytes f zero h = tt
list_of-bytes f (suc n) h = append-bytes (list_of f n) (f n) (list_of-bytes f n (λ k l. h k (omega arith))) (h n (omega arith))

module _ (K : Keys) (B : KeyBlocks K) (h : Head) (stamped : stamp_fits newest_tag_file h.stamp ≡ true) (fit : count_fits h.code h.count ≡ true)
    (items : ℕ → List ℕ) (bytes : (j : ℕ) → 1 ≤ j → j ≤ h.count → Bytes (items j)) where
  abbrev c : ℕ
  c = h.code

  abbrev n : ℕ
  n = h.count

  -- the family is lawful and large enough
  pub fit_code : known h.code ≡ true
  unfolding count_fits
  fit_code = and_left (known c) _ fit

  pub fit_count : h.count ≤ (family_of h.code).items
  unfolding count_fits
  fit_count = leb-true _ _ (and_right (leb 1 n) (leb n (family_of c).items) (and_right (known c) _ fit))

  sum_is_block : (k : ℕ) → Block (tag_sum K h.stamp c items n k)
  unfolding tag_sum row_sum hashes
  sum_is_block k = sum_block _ _ n (λ j l u. item_hash-block K.item B.item h.stamp j (items j) (bytes j l u))

  tags : List ℕ
  tags = list_of (λ k. tag_of K.tag (suc k) (tag_sum K h.stamp c items n (suc k))) (family_of c).tags

  tags-long : length tags ≡ 16 * (family_of c).tags
  unfolding tags
  tags-long = list_of-length _ (family_of c).tags (λ k l. tag_of-length K.tag B.tag.long k _)

  -- it says what it was laid out for
  pub head_is : head_of (tag_file K h items) ≡ h
  unfolding tag_file file_of tags
  head_is = head_back K.seal B.seal.long h tags stamped fit tags-long

  pub tags_are : tags_in (tag_file K h items) ≡ list_of (λ k. tag_of K.tag (suc k) (tag_sum K h.stamp h.code items h.count (suc k))) (family_of h.code).tags
  unfolding tag_file file_of tags
  tags_are = tags_back K.seal B.seal.long h tags stamped fit tags-long

  written : Written K.seal (tag_file K h items)
  unfolding tag_file file_of tags
  written = record {
    head = h;
    tags = tags;
    stamped = stamped;
    fits = fit;
    long = tags-long;
    bytes = list_of-bytes _ (family_of c).tags (λ k l. (tag_of-block K.tag B.tag (suc k) _ (sum_is_block (suc k))).bytes);
    so = refl;
  }

  -- neither 6 nor 20
  pub accepted : (refuse6 (tag_file K h items) ≡ none) × (refuse20 K.seal (tag_file K h items) ≡ none)
  accepted = written_accepted K.seal (tag_file K h items) B.seal.long written

  -- the sums of its tags are the items'
  pub sums_back : (k : ℕ) → 1 ≤ k → k ≤ (family_of h.code).tags → sum_tagged K (tag_file K h items) k ≡ tag_sum K h.stamp h.code items h.count k
  unfolding sum_tagged tags
  sums_back k l u =
      let z : suc (k - 1) ≡ k = omega arith in
      ap (λ (s : List ℕ). sum_of_tag K.tag k (slot s (k - 1))) (tags_are ∙ sym (append-nil tags))
      ∙ ap (sum_of_tag K.tag k) (slot-list_of _ (family_of c).tags [] (λ i b. tag_of-length K.tag B.tag.long i _) (k - 1) (omega arith)
      ∙ ap (λ (i : ℕ). tag_of K.tag i (tag_sum K h.stamp c items n i)) z)
      ∙ sum_of_tag-tag_of K.tag B.tag k (tag_sum K h.stamp c items n k) (sum_is_block k)

  -- and so are those of all rows
  pub rows_back : (i : ℕ) → 1 ≤ i → i ≤ (family_of h.code).rows → sum_expanded K (tag_file K h items) i ≡ row_sum (family_of h.code) (hashes K h.stamp items) h.count i
  unfolding sum_expanded tag_sum head_of
  rows_back i l u =
      let F = family_of c in
      ap (λ (x : Head). expanded (family_of x.code) (sum_tagged K (tag_file K h items)) i) head_is
      ∙ expanded_ext F (lawful c fit_code) (sum_tagged K (tag_file K h items)) (λ k. row_sum F (hashes K h.stamp items) n (F.row_of_tag k)) sums_back i l u
      ∙ expanded-row_sum F (lawful c fit_code) (hashes K h.stamp items) (hashes-long K B.item.long h.stamp items) n fit_count i l u
