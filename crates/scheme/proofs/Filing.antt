-- From sums to files and back: what the calls write, and the sums that a file gives.
use Rattle.std.specs.Prelude.{◌≡◌, ◌++◌, ◌-◌, ◌*◌, ◌≤◌, ◌<◌, if◌then◌else◌}
use Rattle.fips197.proofs.Kit.{refl, sym, ap, ap₂, ◌∙◌, subst, Bool, true, false, List, ℕ, suc, arith, length, take, drop, length-append, length-take, length-drop, take_at, drop_at}
use Rattle.blocks.specs.Block.{◌⊕◌, slot, list_of, same}
use Rattle.cipher.specs.Aes.{encipher, decipher}
use Rattle.blocks.proofs.Xor.{same_true, same_eq}
use Rattle.blocks.proofs.Slots.{slot-length, list_of-length, list_of_ext, slot-list_of}
use Rattle.sizes.specs.Sizes.{family_of}
use Rattle.stamp.specs.declared.Stamp.{Stamp}
use Rattle.stamp.specs.Front.{version_of, stamp_of}
use Rattle.files.specs.declared.tagfile.Head.{Head}
use Rattle.files.specs.Message.{item_count, item}
use Rattle.files.specs.TagFile.{file_size, code_of, head_of, tags_in, Formed}
use Rattle.keyed.specs.Keyed.{item_hash, tag_of, sum_of_tag, tags_by, sums_by}
use Rattle.keyed.proofs.KeyedLaws.{sum_of_tag-length}
use Rattle.sums.specs.Adding.{sum_in, Holds, Added}
use Rattle.tagging.specs.declared.Keys.{Keys}
use Rattle.tagging.specs.Tagging.{keys_in, tag_sum, file_of, tag_file}
use Rattle.tagging.proofs.Writing.{tags-length, file-same}
use Rattle.scheme.specs.Calls.{stamp_in, tags_for, sum_tagged, tag_difference, replaced_sum}

-- ---- Tag

-- a file written from sums that hold those of the items is the items' tag file
pub tag_file_made : (k K : Keys) (h H : Head) (items : ℕ → List ℕ) (before sums out o : List ℕ) → k ≡ K → h ≡ H
    → Holds (family_of h.code).tags (tag_sum k h.stamp h.code items H.count) before sums
    → o ≡ file_of k h (sum_in sums) ++ drop (file_size h) out → o ≡ tag_file K H items ++ drop (file_size H) out
unfolding tag_file
tag_file_made k K h H items before sums out o ek eh S e =
    e ∙ ap (λ (f : List ℕ). f ++ drop (file_size h) out) (file-same k h (sum_in sums) (tag_sum k h.stamp h.code items H.count) S.sums)
    ∙ (λ i. file_of (ek i) (eh i) (tag_sum (ek i) (eh i).stamp (eh i).code items H.count) ++ drop (file_size (eh i)) out)

-- ---- the sums of a file's tags

-- a file that is not refused has all of them
pub tags-long : (f : List ℕ) → Formed f → length (tags_in f) ≡ 16 * (family_of (code_of f)).tags
unfolding tags_in file_size head_of stamp_of
tags-long f F = simp (length-take, length-drop) (omega (arith, F.size, F.long))

-- what the code writes for the tags' sums
pub sums_read : (key f tags before after : List ℕ) (t : ℕ) → length key ≡ 16 → tags ≡ tags_in f → t ≡ (family_of (code_of f)).tags
    → 16 * t ≤ length before → after ≡ sums_by (encipher key) (decipher key) tags t ++ drop (16 * t) before
    → Holds (family_of (code_of f)).tags (λ k. sum_of_tag key k (slot (tags_in f) (k - 1))) before after
unfolding sums_by sum_of_tag sum_in
sums_read key f tags before after t hk eg et fits e =
    record {
      size = ap length e ∙ simp (length-append, length-drop) (omega (arith, long));
      sums = λ k l u. ap (λ (x : List ℕ). slot x (k - 1)) e
          ∙ slot-list_of value t (drop (16 * t) before) blocks (k - 1) (omega arith)
          ∙ (let z : suc (k - 1) ≡ k = omega arith in ap₂ (λ (i : ℕ) (s : List ℕ). sum_of_tag key i (slot s (k - 1))) z eg);
      rest = ap₂ drop (ap (λ (m : ℕ). 16 * m) (sym et)) e ∙ drop_at (list_of value t) (drop (16 * t) before) (16 * t) long
          ∙ ap (λ (m : ℕ). drop (16 * m) before) et;
    }
  where
    value : ℕ → List ℕ
    value = λ k. sum_of_tag key (suc k) (slot tags k)

    blocks : (k : ℕ) → k < t → length (value k) ≡ 16
    blocks k l = sum_of_tag-length key hk k (slot tags k)

    long : length (list_of value t) ≡ 16 * t
    long = list_of-length value t blocks

-- ---- Report

-- the message's sums added to those had back from the tags
pub differences-made : (keys : Keys) (s f before tagged after : List ℕ) (st : Stamp) (c : ℕ) → st ≡ stamp_in (version_of f) s → c ≡ code_of f
    → Holds (family_of (code_of f)).tags (sum_tagged keys f) before tagged
    → Holds (family_of c).tags (λ k. sum_in tagged k ⊕ tag_sum keys st c (item s) (item_count s) k) tagged after
    → Holds (family_of (code_of f)).tags (tag_difference keys s f) before after
unfolding tag_difference
differences-made keys s f before tagged after st c es ec T A =
    let H = subst (λ (x : ℕ). Holds (family_of x).tags (λ k. sum_in tagged k ⊕ tag_sum keys st x (item s) (item_count s) k) tagged after) ec A in
    record {
      size = H.size ∙ T.size;
      sums = λ k l u. H.sums k l u ∙ ap₂ (λ (x : List ℕ) (y : Stamp). x ⊕ tag_sum keys y (code_of f) (item s) (item_count s) k) (T.sums k l u) es;
      rest = H.rest ∙ T.rest;
    }

-- ---- Replace

module _ (k K : Keys) (f : List ℕ) (h : Head) (j : ℕ) (old new z s0 s1 s2 out o : List ℕ) (ek : k ≡ K) (eh : h ≡ head_of f)
    (H : Holds (family_of (code_of f)).tags (sum_tagged k f) z s0)
    (A : Added (λ t. (family_of h.code).on ((family_of h.code).row_of_tag t) j) (family_of h.code).tags (item_hash k.item h.stamp j old) s0 s1)
    (B : Added (λ t. (family_of h.code).on ((family_of h.code).row_of_tag t) j) (family_of h.code).tags (item_hash k.item h.stamp j new) s1 s2) where
  both : Head → ℕ → List ℕ
  both x t =
      if (family_of x.code).on ((family_of x.code).row_of_tag t) j
      then (sum_tagged k f t ⊕ item_hash k.item x.stamp j old) ⊕ item_hash k.item x.stamp j new
      else sum_tagged k f t

  -- the two hashes are added to the same rows
  twice : (b : Bool) (x p q : List ℕ) → (if b then (if b then x ⊕ p else x) ⊕ q else (if b then x ⊕ p else x)) ≡ (if b then (x ⊕ p) ⊕ q else x)
  twice true x p q = refl
  twice false x p q = refl

  sums_both : (t : ℕ) → 1 ≤ t → t ≤ (family_of h.code).tags → sum_in s2 t ≡ both h t
  unfolding both head_of
  sums_both t l u =
      let e = ap (λ (x : Head). (family_of x.code).tags) eh in
      let on = (family_of h.code).on ((family_of h.code).row_of_tag t) j in
      let old-hash = item_hash k.item h.stamp j old in
      let new-hash = item_hash k.item h.stamp j new in
      B.sums t l u
      ∙ ap (λ (x : List ℕ). if on then x ⊕ new-hash else x) (A.sums t l u ∙ ap (λ (x : List ℕ). if on then x ⊕ old-hash else x) (H.sums t l (omega (arith, e))))
      ∙ twice on (sum_tagged k f t) old-hash new-hash

  pub replaced_made : o ≡ file_of k h (sum_in s2) ++ drop (file_size h) out → o ≡ file_of K (head_of f) (replaced_sum K f j old new) ++ drop (file_size (head_of f)) out
  unfolding replaced_sum both head_of
  replaced_made e =
      e
      ∙ ap (λ (x : List ℕ). x ++ drop (file_size h) out) (file-same k h (sum_in s2) (both h) sums_both)
      ∙ ap (λ (x : Head). file_of k x (both x) ++ drop (file_size x) out) eh
      ∙ ap (λ (x : Keys). file_of x (head_of f) (replaced_sum x f j old new) ++ drop (file_size (head_of f)) out) ek

-- ---- Verify

pub same_is : (t : Bool) (a b : List ℕ) → (t ≡ true → a ≡ b) → (a ≡ b → t ≡ true) → t ≡ same a b
same_is true a b f g = sym (same_eq a b (f refl))
same_is false a b f g = go (same a b) refl
  where
    go : (u : Bool) → same a b ≡ u → false ≡ same a b
    go true e = g (same_true a b e) ∙ sym e
    go false e = sym e

pub written_long : (key sums y tags : List ℕ) (t : ℕ) → length key ≡ 16 → 16 * t ≤ length y → tags ≡ tags_by (encipher key) sums t ++ drop (16 * t) y → length tags ≡ length y
written_long key sums y tags t hk h e = ap length e ∙ simp (length-append, length-drop) (omega (arith, tags-length key sums t hk))

-- the tags written are the message's
pub tags_written : (k K : Keys) (s f z sums y tags : List ℕ) (st : Stamp) (c t end : ℕ) → length k.tag ≡ 16 → k ≡ K → st ≡ stamp_in (version_of f) s → c ≡ code_of f
    → t ≡ (family_of c).tags → end ≡ 16 * t → Holds (family_of c).tags (tag_sum k st c (item s) (item_count s)) z sums
    → tags ≡ tags_by (encipher k.tag) sums t ++ drop (16 * t) y → take (end - 0) tags ≡ tags_for K (version_of f) (code_of f) s
unfolding tags_for tags_by tag_of sum_in
tags_written k K s f z sums y tags st c t end hk ek es ec et ee H e =
    let w : end - 0 ≡ 16 * t = omega arith in
    ap₂ take w e ∙ take_at (tags_by (encipher k.tag) sums t) (drop (16 * t) y) (16 * t) (tags-length k.tag sums t hk)
    ∙ ap (list_of (λ i. tag_of k.tag (suc i) (slot sums i))) et
    ∙ list_of_ext _ _ (family_of c).tags (λ i l. ap (tag_of k.tag (suc i)) (let x : i ≡ suc i - 1 = omega arith in ap (slot sums) x ∙ H.sums (suc i) (omega arith) l))
    ∙ (λ m. list_of (λ i. tag_of (ek m).tag (suc i) (tag_sum (ek m) (es m) (ec m) (item s) (item_count s) (suc i))) (family_of (ec m)).tags)

-- ---- the keys of a bundle

pub tag_key_long : (k : Keys) (s : List ℕ) → k ≡ keys_in s → length s ≡ 48 → length k.tag ≡ 16
unfolding keys_in
tag_key_long k s e h = ap (λ (x : Keys). length x.tag) e ∙ slot-length s 1 (omega arith)

pub item_key_long : (k : Keys) (s : List ℕ) → k ≡ keys_in s → length s ≡ 48 → length k.item ≡ 16
unfolding keys_in
item_key_long k s e h = ap (λ (x : Keys). length x.item) e ∙ slot-length s 0 (omega arith)
