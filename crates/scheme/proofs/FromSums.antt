-- A tag file made of sums, whichever blocks they are: what it says, that it is accepted, and that its tags give the sums back. And each file
-- that is accepted is one, of the sums that its tags give back.
use Rattle.std.specs.Prelude.{◌≡◌, ◌++◌, ◌+◌, ◌-◌, ◌*◌, ◌≤◌, ◌<◌}
use Rattle.fips197.proofs.Kit.{refl, sym, ap, ap₂, ◌∙◌, subst, true, List, [], append-nil, ℕ, zero, suc, arith, length, take, drop, take-add, take_all}
use Rattle.blocks.specs.Block.{Bytes, Block, slot, list_of}
use Rattle.blocks.proofs.Xor.{append-bytes, take-bytes, drop-bytes}
use Rattle.blocks.proofs.Slots.{slot-length, list_of-length, list_of_ext, slot-list_of}
use Rattle.sizes.specs.Sizes.{family_of}
use Rattle.stamp.specs.Front.{stamp_fits, version_of}
use Rattle.files.specs.Refusals.{none}
use Rattle.files.specs.declared.tagfile.Head.{Head}
use Rattle.files.specs.TagFile.{newest_tag_file, tags_at, body, sealed, code_of, head_of, tags_in, count_fits, refuse6, refuse20, Formed, Written}
use Rattle.files.proofs.Accepted.{accepted_written, head_back, tags_back, written_accepted}
use Rattle.keyed.specs.Keyed.{tag_of, sum_of_tag}
use Rattle.keyed.proofs.KeyedLaws.{tag_of-block, tag_of-length, sum_of_tag-block, sum_of_tag-tag_of, tag_of-sum_of_tag}
use Rattle.tagging.specs.declared.Keys.{Keys}
use Rattle.tagging.specs.Tagging.{file_of}
use Rattle.scheme.specs.Calls.{sum_tagged}
use Rattle.scheme.proofs.Filing.{tags-long}
use Rattle.scheme.proofs.Unaltered.{KeyBlocks}

-- ---- blocks

slot-block : (s : List ℕ) (k : ℕ) → Bytes s → 16 * suc k ≤ length s → Block (slot s k)
unfolding slot
slot-block s k b h = record { long = slot-length s k (omega arith); bytes = take-bytes 16 (drop (16 * k) s) (drop-bytes (16 * k) s b) }

-- lists of blocks are bytes
list_of-bytes : (f : ℕ → List ℕ) (n : ℕ) → ((k : ℕ) → k < n → Bytes (f k)) → Bytes (list_of f n)
unfolding list_of
list_of-bytes f zero h = tt
list_of-bytes f (suc n) h = append-bytes (list_of f n) (f n) (list_of-bytes f n (λ k l. h k (omega arith))) (h n (omega arith))

-- the blocks of a list, one after another
slots_front : (s : List ℕ) (n : ℕ) → list_of (slot s) n ≡ take (16 * n) s
unfolding list_of slot
slots_front s zero = refl
slots_front s (suc n) =
    let e : 16 * n + 16 ≡ 16 * suc n = omega arith in
    ap (λ (x : List ℕ). x ++ take 16 (drop (16 * n) s)) (slots_front s n) ∙ sym (take-add (16 * n) 16 s) ∙ ap (λ (m : ℕ). take m s) e

-- ---- a file of sums

-- what a file can be made of: a head that a file can say, and a block for each of its tags
pub record Layable (h : Head) (sum : ℕ → List ℕ) : Type 0 where
  pub stamped : stamp_fits newest_tag_file h.stamp ≡ true
  pub fits : count_fits h.code h.count ≡ true
  pub blocks : (k : ℕ) → 1 ≤ k → k ≤ (family_of h.code).tags → Block (sum k)

module _ (K : Keys) (B : KeyBlocks K) (h : Head) (sum : ℕ → List ℕ) (L : Layable h sum) where
  abbrev n : ℕ
  n = (family_of h.code).tags

  tags : List ℕ
  tags = list_of (λ k. tag_of K.tag (suc k) (sum (suc k))) n

  tags-length : length tags ≡ 16 * (family_of h.code).tags
  unfolding tags
  tags-length = list_of-length _ n (λ k l. tag_of-length K.tag B.tag.long k _)

  -- it says what it was laid out for
  pub head-said : head_of (file_of K h sum) ≡ h
  unfolding file_of tags
  head-said = head_back K.seal B.seal.long h tags L.stamped L.fits tags-length

  pub tags_laid : tags_in (file_of K h sum) ≡ list_of (λ k. tag_of K.tag (suc k) (sum (suc k))) (family_of h.code).tags
  unfolding file_of tags
  tags_laid = tags_back K.seal B.seal.long h tags L.stamped L.fits tags-length

  written : Written K.seal (file_of K h sum)
  unfolding file_of tags
  written = record {
    head = h;
    tags = tags;
    stamped = L.stamped;
    fits = L.fits;
    long = tags-length;
    bytes = list_of-bytes _ n (λ k l. (tag_of-block K.tag B.tag (suc k) _ (L.blocks (suc k) (omega arith) l)).bytes);
    so = refl;
  }

  -- neither 6 nor 20
  pub laid_accepted : (refuse6 (file_of K h sum) ≡ none) × (refuse20 K.seal (file_of K h sum) ≡ none)
  laid_accepted = written_accepted K.seal (file_of K h sum) B.seal.long written

  -- its tags give the sums back
  pub sums_had : (k : ℕ) → 1 ≤ k → k ≤ (family_of h.code).tags → sum_tagged K (file_of K h sum) k ≡ sum k
  unfolding sum_tagged tags
  sums_had k l u =
      let z : suc (k - 1) ≡ k = omega arith in
      ap (λ (s : List ℕ). sum_of_tag K.tag k (slot s (k - 1))) (tags_laid ∙ sym (append-nil tags))
      ∙ ap (sum_of_tag K.tag k) (slot-list_of _ n [] (λ i b. tag_of-length K.tag B.tag.long i _) (k - 1) (omega arith)
      ∙ ap (λ (i : ℕ). tag_of K.tag i (sum i)) z)
      ∙ sum_of_tag-tag_of K.tag B.tag k (sum k) (L.blocks k l u)

-- ---- a file that is accepted

module _ (K : Keys) (B : KeyBlocks K) (f : List ℕ) (b : Bytes f) (F : Formed f) (z : (refuse20 K.seal f).number ≡ 0) where
  W : Written K.seal f
  W = accepted_written f b F K.seal z

  head_own : head_of f ≡ W.head
  head_own = ap head_of W.so ∙ head_back K.seal B.seal.long W.head W.tags W.stamped W.fits W.long

  tags_own : tags_in f ≡ W.tags
  tags_own = ap tags_in W.so ∙ tags_back K.seal B.seal.long W.head W.tags W.stamped W.fits W.long

  tag_block : (k : ℕ) → suc k ≤ (family_of (code_of f)).tags → Block (slot (tags_in f) k)
  unfolding tags_in
  tag_block k l =
      slot-block (tags_in f) k (take-bytes (length f - (tags_at (version_of f) + 16)) (drop (tags_at (version_of f)) f) (drop-bytes (tags_at (version_of f)) f b)) (omega (arith, tags-long f F))

  -- its head, and the sums that its tags give back
  pub own_layable : Layable (head_of f) (sum_tagged K f)
  unfolding head_of sum_tagged
  own_layable = record {
    stamped = subst (λ (x : Head). stamp_fits newest_tag_file x.stamp ≡ true) (sym head_own) W.stamped;
    fits = F.fits;
    blocks = λ k l u. sum_of_tag-block K.tag B.tag k (slot (tags_in f) (k - 1)) (tag_block (k - 1) (omega arith));
  }

  -- make the file
  pub own_sums : f ≡ file_of K (head_of f) (sum_tagged K f)
  unfolding file_of head_of sum_tagged
  own_sums =
      let t = 16 * (family_of (code_of f)).tags in
      W.so
      ∙ ap₂ (λ (h : Head) (s : List ℕ). sealed K.seal (body h s)) (sym head_own)
      (sym tags_own ∙ sym (take_all t (tags_in f) (omega (arith, tags-long f F))) ∙ sym (slots_front (tags_in f) (family_of (code_of f)).tags)
      ∙ list_of_ext _ _ (family_of (code_of f)).tags (λ k l. let e : k ≡ suc k - 1 = omega arith in
      sym (tag_of-sum_of_tag K.tag B.tag (suc k) (slot (tags_in f) k) (tag_block k l)) ∙ ap (λ (i : ℕ). tag_of K.tag (suc k) (sum_of_tag K.tag (suc k) (slot (tags_in f) i))) e))
