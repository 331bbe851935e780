-- Replace on a tag file of sums: what it refuses, and that what it writes is the file of the sums with both hashes added. And how these sums
-- combine: by XOR, which commutes and undoes itself.
use Rattle.std.specs.Prelude.{◌≡◌, ◌∷◌, ◌++◌, ◌≤◌, if◌then◌else◌}
use Rattle.fips197.proofs.Kit.{refl, sym, ap, ap₂, ◌∙◌, Bool, true, false, List, [], ℕ, length, drop, eq-eqb, le-leb}
use Rattle.blocks.specs.Block.{Bytes, Block, ◌⊕◌}
use Rattle.blocks.proofs.Xor.{⊕_assoc, ⊕_comm, ⊕-block, block_cancel}
use Rattle.incidence.proofs.Booleans.{and_both}
use Rattle.sizes.specs.Sizes.{family_of}
use Rattle.files.specs.Refusals.{none, passes, first}
use Rattle.files.specs.Message.{refuse8}
use Rattle.files.specs.declared.tagfile.Head.{Head}
use Rattle.files.specs.TagFile.{file_size, count_of, head_of, refuse6, refuse20}
use Rattle.files.specs.Arguments.{refuse1, refuse7, refuse9}
use Rattle.files.proofs.Passing.{first_later, first-none, first_past, rest-passes, unless_true}
use Rattle.keyed.specs.Keyed.{item_hash}
use Rattle.keyed.proofs.KeyedLaws.{item_hash-block}
use Rattle.tagging.specs.declared.Keys.{Keys}
use Rattle.tagging.specs.Tagging.{keys_in, file_of}
use Rattle.tagging.proofs.Writing.{file-same}
use Rattle.checks.specs.Refused.{replace_refusal}
use Rattle.scheme.specs.Calls.{sum_tagged, replaced_sum, replace_writes}
use Rattle.scheme.specs.Replacements.{both_added}
use Rattle.scheme.proofs.Unaltered.{KeyBlocks}
use Rattle.scheme.proofs.FromSums.{Layable, head-said, sums_had}

-- ---- what is refused

-- a file that is accepted, a number among its items, items that are short enough, and room
pub replace_not_refused : (keys f : List ℕ) → length keys ≡ 48 → refuse6 f ≡ none → refuse20 (keys_in keys).seal f ≡ none → (j : ℕ) → 1 ≤ j → j ≤ count_of f
    → (old new : List ℕ) (room : ℕ) → length old ≤ 1024 → length new ≤ 1024 → file_size (head_of f) ≤ room → replace_refusal keys f j old new room ≡ none
unfolding replace_refusal refuse1 refuse8 refuse9 refuse7
replace_not_refused keys f k48 a e j low high old new room lo ln r =
    first_later (refuse1 (length keys)) _ (unless_true _ 1 0 (eq-eqb (length keys) 48 k48))
    ∙ first_later (refuse6 f) _ a ∙ first_later (refuse20 (keys_in keys).seal f) _ e
    ∙ first_later (refuse8 (count_of f) j) _ (unless_true _ 8 0 (and_both (le-leb 1 j low) (le-leb j (count_of f) high)))
    ∙ first_later (refuse9 (length old) 1) _ (unless_true _ 9 1 (le-leb (length old) 1024 lo))
    ∙ first_later (refuse9 (length new) 2) _ (unless_true _ 9 2 (le-leb (length new) 1024 ln))
    ∙ first-none (refuse7 (file_size (head_of f)) room) (unless_true _ 7 0 (le-leb (file_size (head_of f)) room r))

-- a call that is not refused would be refused in another buffer for its length alone; and the file's seal is right
module _ (keys f : List ℕ) (j : ℕ) (old new : List ℕ) (room : ℕ) (z : (replace_refusal keys f j old new room).number ≡ 0) where
  pub room_alone : (other : ℕ) → replace_refusal keys f j old new other ≡ first (refuse7 (file_size (head_of f)) other ∷ [])
  unfolding replace_refusal
  room_alone other =
      let a = rest-passes _ _ z in
      let b = rest-passes _ _ a.1 in
      let c = rest-passes _ _ b.1 in
      let d = rest-passes _ _ c.1 in
      let e = rest-passes _ _ d.1 in
      let g = rest-passes _ _ e.1 in
      first_past _ _ a.0 ∙ first_past _ _ b.0 ∙ first_past _ _ c.0 ∙ first_past _ _ d.0 ∙ first_past _ _ e.0 ∙ first_past _ _ g.0

  pub seal_right : (refuse20 (keys_in keys).seal f).number ≡ 0
  unfolding replace_refusal
  seal_right = (rest-passes _ _ (rest-passes _ _ (rest-passes _ _ z).1).1).0

-- ---- what is written

-- the sums that a call writes are those of the file's tags, with both hashes added
pub replaced_both : (K : Keys) (f : List ℕ) (j : ℕ) (old new : List ℕ) → replaced_sum K f j old new ≡ both_added K (head_of f) j old new (sum_tagged K f)
unfolding replaced_sum both_added head_of
replaced_both K f j old new = refl

module _ (K : Keys) (B : KeyBlocks K) (h : Head) (sum : ℕ → List ℕ) (L : Layable h sum) where
  abbrev f : List ℕ
  f = file_of K h sum

  -- the file is one of the sums with both hashes added: its own sums are those that it was made of
  sums_added : (j : ℕ) (old new : List ℕ) → file_of K (head_of (file_of K h sum)) (replaced_sum K (file_of K h sum) j old new) ≡ file_of K h (both_added K h j old new sum)
  unfolding both_added
  sums_added j old new =
      ap (file_of K (head_of f)) (replaced_both K f j old new)
      ∙ ap (λ (x : Head). file_of K x (both_added K x j old new (sum_tagged K f))) (head-said K B h sum L)
      ∙ file-same K h _ _
      (λ k l u. ap (λ (s : List ℕ). if (family_of h.code).on ((family_of h.code).row_of_tag k) j
      then (s ⊕ item_hash K.item h.stamp j old) ⊕ item_hash K.item h.stamp j new else s)
      (sums_had K B h sum L k l u))

  -- which can be laid out too
  pub added_layable : (j : ℕ) (old new : List ℕ) → Bytes old → Bytes new → Layable h (both_added K h j old new sum)
  unfolding both_added
  added_layable j old new o n = record {
    stamped = L.stamped;
    fits = L.fits;
    blocks = λ k l u. go ((family_of h.code).on ((family_of h.code).row_of_tag k) j) (sum k) (L.blocks k l u);
  }
    where
      go : (t : Bool) (s : List ℕ) → Block s → Block (if t then (s ⊕ item_hash K.item h.stamp j old) ⊕ item_hash K.item h.stamp j new else s)
      go true s b =
          ⊕-block _ _ (⊕-block _ _ b (item_hash-block K.item B.item h.stamp j old o)) (item_hash-block K.item B.item h.stamp j new n)
      go false s b = b

-- what Replace writes on a file of sums: in the words of its contract, with the sums that the file was made of
pub replaced_of_sums : (keys : List ℕ) (B : KeyBlocks (keys_in keys)) (h : Head) (sum : ℕ → List ℕ) (L : Layable h sum) (j : ℕ) (old new out : List ℕ)
    → replace_writes keys (file_of (keys_in keys) h sum) j old new out
    ≡ (if passes (replace_refusal keys (file_of (keys_in keys) h sum) j old new (length out))
    then file_of (keys_in keys) h (both_added (keys_in keys) h j old new sum) ++ drop (file_size h) out else out)
unfolding replace_writes
replaced_of_sums keys B h sum L j old new out =
    let K = keys_in keys in
    let f = file_of K h sum in
    ap₂ (λ (x : List ℕ) (y : Head). if passes (replace_refusal keys f j old new (length out)) then x ++ drop (file_size y) out else out)
    (sums_added K B h sum L j old new) (head-said K B h sum L)

-- ---- how the sums combine

-- both hashes where a row holds the item, of one replacement and of another behind it, for any rows
added : Bool → List ℕ → List ℕ → List ℕ → List ℕ
added t p q s = if t then (s ⊕ p) ⊕ q else s

-- by p and q, then by q and r: by p and r
added_onward : (t : Bool) (p q r s : List ℕ) → Block p → Block q → Block s → added t q r (added t p q s) ≡ added t p r s
unfolding added
added_onward true p q r s bp bq bs = ap (λ (x : List ℕ). x ⊕ r) (block_cancel (s ⊕ p) q (⊕-block s p bs bp) bq)
added_onward false p q r s bp bq bs = refl

-- by p and p: nothing
added_same : (t : Bool) (p s : List ℕ) → Block p → Block s → added t p p s ≡ s
unfolding added
added_same true p s bp bs = block_cancel s p bs bp
added_same false p s bp bs = refl

-- two in either order
xor_past : (s p q x : List ℕ) → ((s ⊕ p) ⊕ q) ⊕ x ≡ ((s ⊕ x) ⊕ p) ⊕ q
xor_past s p q x = ap (λ (y : List ℕ). y ⊕ x) (⊕_assoc s p q) ∙ turn s (p ⊕ q) x ∙ sym (⊕_assoc (s ⊕ x) p q)
  where
    turn : (a b c : List ℕ) → (a ⊕ b) ⊕ c ≡ (a ⊕ c) ⊕ b
    turn a b c = ⊕_assoc a b c ∙ ap (λ (y : List ℕ). a ⊕ y) (⊕_comm b c) ∙ sym (⊕_assoc a c b)

added_swap : (t u : Bool) (p q x y s : List ℕ) → added u x y (added t p q s) ≡ added t p q (added u x y s)
unfolding added
added_swap true true p q x y s = ap (λ (z : List ℕ). z ⊕ y) (xor_past s p q x) ∙ xor_past (s ⊕ x) p q y
added_swap true false p q x y s = refl
added_swap false true p q x y s = refl
added_swap false false p q x y s = refl

module _ (K : Keys) (B : KeyBlocks K) (h : Head) (sum : ℕ → List ℕ) (k : ℕ) (b : Block (sum k)) where
  hash_block : (j : ℕ) (item : List ℕ) → Bytes item → Block (item_hash K.item h.stamp j item)
  hash_block = item_hash-block K.item B.item h.stamp

  pub sums-onward : (j : ℕ) (old new next : List ℕ) → Bytes old → Bytes new → both_added K h j new next (both_added K h j old new sum) k ≡ both_added K h j old next sum k
  unfolding both_added added
  sums-onward j old new next o n =
      added_onward ((family_of h.code).on ((family_of h.code).row_of_tag k) j) _ _ (item_hash K.item h.stamp j next) (sum k) (hash_block j old o) (hash_block j new n) b

  pub sums_same : (j : ℕ) (old : List ℕ) → Bytes old → both_added K h j old old sum k ≡ sum k
  unfolding both_added added
  sums_same j old o = added_same ((family_of h.code).on ((family_of h.code).row_of_tag k) j) _ (sum k) (hash_block j old o) b

pub sums_swap : (K : Keys) (h : Head) (sum : ℕ → List ℕ) (k j i : ℕ) (old new before after : List ℕ)
    → both_added K h i before after (both_added K h j old new sum) k ≡ both_added K h j old new (both_added K h i before after sum) k
unfolding both_added added
sums_swap K h sum k j i old new before after =
    added_swap ((family_of h.code).on ((family_of h.code).row_of_tag k) j) ((family_of h.code).on ((family_of h.code).row_of_tag k) i) _ _ _ _ (sum k)
