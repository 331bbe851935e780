-- Vacant places (document 02, 2.5), for a reader who wants to know what they are good for: a vacant place counts as no item, and those at the
-- end change no tag; Replace withdraws an item and adds one, each as tagging afresh does, and an item withdrawn and added again gives the old
-- bytes; an item against a vacant place is a change.
use Rattle.std.specs.Prelude.{◌≡◌, ◌&&◌, ◌++◌, ◌≤◌, ◌<◌, if◌then◌else◌}
use Rattle.fips197.proofs.Kit.{refl, sym, ap, ◌∙◌, subst, Bool, true, false, not, List, [], ℕ, suc, arith, eqb, length, take, drop, take_at, eqb-true, not-true, not-false}
use Rattle.blocks.specs.Block.{Bytes, same, zeros}
use Rattle.blocks.proofs.Xor.{same_true}
use Rattle.blocks.proofs.Slots.{list_of_ext}
use Rattle.cipher.specs.Cmac.{cmac}
use Rattle.incidence.specs.Family.{Family}
use Rattle.incidence.specs.Sum.{sum_over, row_sum}
use Rattle.incidence.proofs.Booleans.{and_right, not_passed}
use Rattle.incidence.proofs.Sums.{sum_ext, sum_without, sum_front}
use Rattle.sizes.specs.Sizes.{family_of}
use Rattle.stamp.specs.declared.Stamp.{Stamp}
use Rattle.stamp.specs.Front.{stamp_fits}
use Rattle.files.specs.Refusals.{none}
use Rattle.files.specs.declared.tagfile.Head.{Head}
use Rattle.files.specs.TagFile.{newest_tag_file, head_for, file_size, tags_in, count_fits}
use Rattle.keyed.specs.Keyed.{vacant, item_hash, tag_of}
use Rattle.keyed.proofs.KeyedLaws.{empty_vacant, hash_vacant}
use Rattle.tagging.specs.declared.Keys.{Keys}
use Rattle.tagging.specs.Tagging.{keys_in, hashes, tag_sum, tag_file}
use Rattle.tagging.proofs.Writing.{file-length}
use Rattle.checks.specs.Refused.{replace_refusal}
use Rattle.scheme.specs.Calls.{replaced_item, replace_writes}
use Rattle.scheme.specs.Claim.{changed}
use Rattle.tagging.proofs.Summing.{hashes-long}
use Rattle.scheme.proofs.Unaltered.{KeyBlocks, key_blocks, tags_are}
use Rattle.scheme.proofs.Guarantees.{replaced_there, replace_passes, replace_afresh}

-- ---- no item

module _ (K : Keys) (long : length K.item ≡ 16) (st : Stamp) (items : ℕ → List ℕ) where
  zero_hash : (j : ℕ) → vacant st.version (items j) ≡ true → hashes K st items j ≡ zeros 16
  unfolding hashes item_hash
  zero_hash j e = hash_vacant (cmac K.item) st j (items j) e

  -- "the trade counts a vacant place as no card": a row's sum is that of its places which are not vacant
  pub filled_alone : (F : Family) (n i : ℕ)
      → row_sum F (hashes K st items) n i ≡ sum_over (λ j. F.on i j && not (vacant st.version (items j))) (hashes K st items) n
  unfolding row_sum
  filled_alone F n i =
      sum_without (F.on i) (λ j. not (vacant st.version (items j))) (hashes K st items) n (hashes-long K long st items)
      (λ j l u e. zero_hash j (not-false (vacant st.version (items j)) e))

  -- where those above m are vacant, it is that of the first m
  pub end_alone : (F : Family) (m n i : ℕ) → m ≤ n → ((j : ℕ) → m < j → j ≤ n → vacant st.version (items j) ≡ true)
      → row_sum F (hashes K st items) n i ≡ row_sum F (hashes K st items) m i
  unfolding row_sum
  end_alone F m n i l e = sum_front (F.on i) (hashes K st items) m n (hashes-long K long st items) l (λ j a b. zero_hash j (e j a b))

-- ---- items replaced

-- the old item put back
replaced_back : (items : ℕ → List ℕ) (j : ℕ) (new : List ℕ) → replaced_item (replaced_item items j new) j (items j) ≡ items
unfolding replaced_item
replaced_back items j new = λ x i. go i (eqb i j) refl x
  where
    go : (i : ℕ) (t : Bool) → eqb i j ≡ t → (if t then items j else (if t then new else items i)) ≡ items i
    go i true e = ap items (sym (eqb-true i j e))
    go i false e = refl

-- an unaltered file of items
module _ (keys : List ℕ) (b : Bytes keys) (k48 : length keys ≡ 48) (h : Head) (stamped : stamp_fits newest_tag_file h.stamp ≡ true)
    (fit : count_fits h.code h.count ≡ true) (items : ℕ → List ℕ) (bytes : (i : ℕ) → 1 ≤ i → i ≤ h.count → Bytes (items i)) where
  -- Vacant places at the end add nothing: where those above m are vacant, the tags are those of the first m.
  pub end_tags : (m : ℕ) → count_fits h.code m ≡ true → m ≤ h.count → ((j : ℕ) → m < j → j ≤ h.count → vacant h.stamp.version (items j) ≡ true)
      → tags_in (tag_file (keys_in keys) h items) ≡ tags_in (tag_file (keys_in keys) (head_for h.stamp h.code m) items)
  unfolding tag_sum
  end_tags m fit' l e =
      let K = keys_in keys in
      let B = key_blocks keys b k48 in
      let F = family_of h.code in
      tags_are K B h stamped fit items bytes
      ∙ list_of_ext _ _ F.tags (λ k u. ap (tag_of K.tag (suc k)) (end_alone K B.item.long h.stamp items F m h.count (F.row_of_tag (suc k)) l e))
      ∙ sym (tags_are K B (head_for h.stamp h.code m) stamped fit' items (λ j a c. bytes j a (omega arith)))

  -- and a number among theirs
  module _ (j : ℕ) (low : 1 ≤ j) (high : j ≤ h.count) where
    -- "withdraw a card (new length 0)": Replace is tagging afresh with no bytes in place j, in any version.
    pub withdraws : (out : List ℕ) → replace_refusal keys (tag_file (keys_in keys) h items) j (items j) [] (length out) ≡ none
        → replace_writes keys (tag_file (keys_in keys) h items) j (items j) [] out ≡ tag_file (keys_in keys) h (replaced_item items j []) ++ drop (file_size h) out
    withdraws out e = replace_afresh keys b k48 h stamped fit items bytes j low high [] out e

    -- From version 3 on the sums of its tags are those of the other items alone.
    pub withdrawn : 3 ≤ h.stamp.version → (k : ℕ)
        → tag_sum (keys_in keys) h.stamp h.code (replaced_item items j []) h.count k
        ≡ sum_over (λ i. (family_of h.code).on ((family_of h.code).row_of_tag k) i && not (eqb i j)) (hashes (keys_in keys) h.stamp items) h.count
    unfolding tag_sum row_sum hashes replaced_item
    withdrawn v k =
        let K = keys_in keys in
        let F = family_of h.code in
        let st = h.stamp in
        sum_without (F.on (F.row_of_tag k)) (λ i. not (eqb i j)) (hashes K st (replaced_item items j [])) h.count
        (hashes-long K (key_blocks keys b k48).item.long st (replaced_item items j []))
        (λ i l u e. zero_hash K (key_blocks keys b k48).item.long st (replaced_item items j []) i
        (ap (λ (t : Bool). vacant st.version (if t then [] else items i)) (not-false (eqb i j) e) ∙ empty_vacant st.version v))
        ∙ sum_ext _ _ (hashes K st (replaced_item items j [])) (hashes K st items) h.count (λ i l u. refl)
        (λ i l u e. ap (λ (t : Bool). item_hash K.item st i (if t then [] else items i)) (not-true (eqb i j) (and_right (F.on (F.row_of_tag k) i) _ e)))

    -- "or add one (old length 0)": where place j has no bytes, Replace is tagging afresh with the item added, in any version.
    pub adds : (new out : List ℕ) → items j ≡ [] → replace_refusal keys (tag_file (keys_in keys) h items) j [] new (length out) ≡ none
        → replace_writes keys (tag_file (keys_in keys) h items) j [] new out ≡ tag_file (keys_in keys) h (replaced_item items j new) ++ drop (file_size h) out
    adds new out e =
        subst (λ (old : List ℕ). replace_refusal keys (tag_file (keys_in keys) h items) j old new (length out) ≡ none
        → replace_writes keys (tag_file (keys_in keys) h items) j old new out ≡ tag_file (keys_in keys) h (replaced_item items j new) ++ drop (file_size h) out) e
        (replace_afresh keys b k48 h stamped fit items bytes j low high new out)

    -- An item withdrawn and added again gives the old bytes.
    pub withdrawn_added : (out again : List ℕ) → length (items j) ≤ 1024 → file_size h ≤ length out → file_size h ≤ length again
        → replace_writes keys (take (file_size h) (replace_writes keys (tag_file (keys_in keys) h items) j (items j) [] out)) j [] (items j) again
        ≡ tag_file (keys_in keys) h items ++ drop (file_size h) again
    unfolding tag_file replaced_item
    withdrawn_added out again short room room' =
        ap (λ (f : List ℕ). replace_writes keys f j [] (items j) again)
        (ap (take (file_size h)) (withdraws out (replace_passes keys b k48 h stamped fit items bytes j low high [] (items j) (length out) short (omega arith) room))
        ∙ take_at (tag_file K h gone) (drop (file_size h) out) (file_size h) (file-length K h _ B.tag.long B.seal.long))
        ∙ subst (λ (old : List ℕ). replace_writes keys (tag_file K h gone) j old (items j) again ≡ tag_file K h (replaced_item gone j (items j)) ++ drop (file_size h) again)
        (replaced_there items j [])
        (replace_afresh keys b k48 h stamped fit gone gone_bytes j low high (items j) again
        (replace_passes keys b k48 h stamped fit gone gone_bytes j low high (items j) (gone j) (length again) gone_short short room'))
        ∙ ap (λ (x : ℕ → List ℕ). tag_file K h x ++ drop (file_size h) again) (replaced_back items j [])
      where
        K : Keys
        K = keys_in keys

        B : KeyBlocks (keys_in keys)
        B = key_blocks keys b k48

        gone : ℕ → List ℕ
        gone = replaced_item items j []

        gone_short : length (replaced_item items j [] j) ≤ 1024
        gone_short = let e = ap length (replaced_there items j []) in omega arith

        gone_bytes : (i : ℕ) → 1 ≤ i → i ≤ h.count → Bytes (replaced_item items j [] i)
        gone_bytes i l u = go (eqb i j)
          where
            go : (t : Bool) → Bytes (if t then [] else items i)
            go true = tt
            go false = bytes i l u

-- ---- demand 3

-- "filled against vacant counted as a change": two items of different lengths are
pub length-changed : (old new : ℕ → List ℕ) (j : ℕ) → (length (old j) ≡ length (new j) → ⊥) → changed old new j ≡ true
unfolding changed
length-changed old new j d = ap not (not_passed (same (old j) (new j)) (λ e. d (ap length (same_true (old j) (new j) e))))
