-- What the hash of a vacant place is, and of any other; hashes, masks and tags are blocks; a tag gives its sum back, and a sum its tag; what
-- a key made ready or expanded gives is what the key gives; and the walks over many blocks.
use Rattle.std.specs.Prelude.{◌≡◌, ◌&&◌, ◌++◌, ◌+◌, ◌*◌, ◌%◌, ◌≤◌, ◌<◌, if◌then◌else◌}
use Rattle.fips197.proofs.Kit.{refl, sym, ap, ◌∙◌, Bool, true, false, and-false, List, [], ℕ, zero, suc, arith, eqb, leb, length, take, drop, length-append, length-take, length-drop, ne_eqb, le-leb, lt-leb}
use Rattle.blocks.specs.Block.{Bytes, Block, ◌⊕◌, zeros, slot, list_of}
use Rattle.blocks.specs.Number.{big_endian}
use Rattle.cipher.specs.Aes.{key_expansion, cipher, inv_cipher, encipher, decipher}
use Rattle.cipher.specs.Cmac.{cmac, mac_with, ready}
use Rattle.cipher.specs.declared.cmac.MacKey.{MacKey}
use Rattle.blocks.proofs.Xor.{⊕-length, ⊕-block, ⊕_comm, block_cancel, zeros-block, append-bytes}
use Rattle.blocks.proofs.Numbers.{big_endian-length, big_endian-bytes, big_endian_pair}
use Rattle.blocks.proofs.Doubling.{double-block}
use Rattle.blocks.proofs.Slots.{Front, slot-length, place-next, second_walk}
use Rattle.cipher.proofs.Laws.{with_length, inv_with_length, encipher-block, decipher-block, encipher-length, decipher-length, decipher-encipher, encipher-decipher, cmac-block, cmac-length, mac_ready}
use Rattle.stamp.specs.declared.Stamp.{Stamp}
use Rattle.keyed.specs.Keyed.{vacant, item_hash, item_hash_by, doubled, mask_by, tag_by, tag_of, sum_by, sum_of_tag, tags_by, sums_by}

-- ---- vacant places

-- from version 3 on the empty item is one
pub empty_vacant : (v : ℕ) → 3 ≤ v → vacant v [] ≡ true
unfolding vacant
empty_vacant v l = ap (λ (t : Bool). t && true) (le-leb 3 v l)

-- and no other item is
pub filled : (v : ℕ) (item : List ℕ) → 1 ≤ length item → vacant v item ≡ false
unfolding vacant
filled v item l = ap (λ (t : Bool). leb 3 v && t) (ne_eqb (length item) 0 (λ e. omega arith)) ∙ and-false (leb 3 v)

-- before version 3 "Length 0 is a card like any other": none is
pub none-vacant : (v : ℕ) (item : List ℕ) → v < 3 → vacant v item ≡ false
unfolding vacant
none-vacant v item l = ap (λ (t : Bool). t && eqb (length item) 0) (lt-leb 3 v l)

-- a vacant place adds 16 zero bytes, by any MAC
pub hash_vacant : (mac : List ℕ → List ℕ) (st : Stamp) (j : ℕ) (item : List ℕ) → vacant st.version item ≡ true → item_hash_by mac st j item ≡ zeros 16
unfolding item_hash_by
hash_vacant mac st j item e = ap (λ (t : Bool). if t then zeros 16 else mac ((big_endian 4 st.number ++ big_endian 4 j) ++ item)) e

-- and any other item its code
pub hash_filled : (mac : List ℕ → List ℕ) (st : Stamp) (j : ℕ) (item : List ℕ) → vacant st.version item ≡ false
    → item_hash_by mac st j item ≡ mac ((big_endian 4 st.number ++ big_endian 4 j) ++ item)
unfolding item_hash_by
hash_filled mac st j item e = ap (λ (t : Bool). if t then zeros 16 else mac ((big_endian 4 st.number ++ big_endian 4 j) ++ item)) e

-- what a code is the MAC of: two numbers of 4 bytes, and the item
pub numbered_length : (a b : ℕ) (item : List ℕ) → length ((big_endian 4 a ++ big_endian 4 b) ++ item) ≡ 8 + length item
numbered_length a b item =
    let e : length (big_endian 4 a) ≡ 4 = big_endian-length 4 a in
    let f : length (big_endian 4 b) ≡ 4 = big_endian-length 4 b in
    length-append (big_endian 4 a ++ big_endian 4 b) item ∙ ap (λ (n : ℕ). n + length item) (length-append (big_endian 4 a) (big_endian 4 b) ∙ omega arith)

-- ---- what is handed over for a key

-- a key made ready
pub hash_ready : (key : List ℕ) (k : MacKey) (st : Stamp) (j : ℕ) (item : List ℕ) → k ≡ ready key → item_hash_by (mac_with k) st j item ≡ item_hash key st j item
unfolding item_hash_by item_hash
hash_ready key k st j item e =
    ap (λ (h : List ℕ). if vacant st.version item then zeros 16 else h) (mac_ready key k ((big_endian 4 st.number ++ big_endian 4 j) ++ item) e)

pub hashes-ready : (key : List ℕ) (k : MacKey) (st : Stamp) (items : ℕ → List ℕ) → k ≡ ready key
    → ◌≡◌ {A = ℕ → List ℕ} (λ j. item_hash_by (mac_with k) st j (items j)) (λ j. item_hash key st j (items j))
hashes-ready key k st items e = λ i j. hash_ready key k st j (items j) e i

-- an expanded key, in what is written before the rest of a buffer
pub tags-expanded : (key w s out rest : List ℕ) (n : ℕ) → w ≡ key_expansion key → out ≡ tags_by (cipher w) s n ++ rest → out ≡ tags_by (encipher key) s n ++ rest
unfolding encipher
tags-expanded key w s out rest n e o = o ∙ ap (λ (v : List ℕ). tags_by (cipher v) s n ++ rest) e

pub sums-expanded : (key w s out rest : List ℕ) (n : ℕ) → w ≡ key_expansion key → out ≡ sums_by (cipher w) (inv_cipher w) s n ++ rest
    → out ≡ sums_by (encipher key) (decipher key) s n ++ rest
unfolding encipher decipher
sums-expanded key w s out rest n e o = o ∙ ap (λ (v : List ℕ). sums_by (cipher v) (inv_cipher v) s n ++ rest) e

-- ---- hashes

-- "Version 1 counts as number 0, with the same codes as before": CMAC "of j as 8 big-endian bytes followed by the card"; so has every
-- version with number 0, of what is no vacant place
pub first-version : (key : List ℕ) (st : Stamp) (j : ℕ) (item : List ℕ) → vacant st.version item ≡ false → st.number ≡ 0 → j < 4294967296
    → item_hash key st j item ≡ cmac key (big_endian 8 j ++ item)
unfolding item_hash
first-version key st j item f e l =
    let z : 0 * 4294967296 + j % 4294967296 ≡ j = omega arith in
    hash_filled (cmac key) st j item f
    ∙ ap (λ (t : List ℕ). cmac key (t ++ item))
    (ap (λ (n : ℕ). big_endian 4 n ++ big_endian 4 j) e ∙ sym (big_endian_pair 0 j) ∙ ap (big_endian 8) z)

-- under one number, what is vacant in neither of two versions has the same code in both
pub same_code : (key : List ℕ) (st st' : Stamp) (j : ℕ) (item : List ℕ) → vacant st.version item ≡ false → vacant st'.version item ≡ false
    → st.number ≡ st'.number → item_hash key st j item ≡ item_hash key st' j item
unfolding item_hash
same_code key st st' j item f f' e =
    hash_filled (cmac key) st j item f
    ∙ ap (λ (n : ℕ). cmac key ((big_endian 4 n ++ big_endian 4 j) ++ item)) e
    ∙ sym (hash_filled (cmac key) st' j item f')

-- a hash has 16 bytes, whatever the item
pub item_hash-length : (key : List ℕ) → length key ≡ 16 → (st : Stamp) (j : ℕ) (item : List ℕ) → length (item_hash key st j item) ≡ 16
unfolding item_hash item_hash_by
item_hash-length key h st j item = go (vacant st.version item)
  where
    go : (t : Bool) → length (if t then zeros 16 else cmac key ((big_endian 4 st.number ++ big_endian 4 j) ++ item)) ≡ 16
    go true = refl
    go false = cmac-length key h _

-- ---- blocks

module _ (key : List ℕ) (hk : Block key) where
  pub item_hash-block : (st : Stamp) (j : ℕ) (item : List ℕ) → Bytes item → Block (item_hash key st j item)
  unfolding item_hash item_hash_by
  item_hash-block st j item h = go (vacant st.version item)
    where
      a : List ℕ
      a = big_endian 4 st.number

      b : List ℕ
      b = big_endian 4 j

      go : (t : Bool) → Block (if t then zeros 16 else cmac key ((a ++ b) ++ item))
      go true = zeros-block
      go false =
          cmac-block key hk ((a ++ b) ++ item)
          (append-bytes (a ++ b) item (append-bytes a b (big_endian-bytes 4 st.number) (big_endian-bytes 4 j)) h)

  mask_block : (i : ℕ) → Block (mask_by (encipher key) i)
  unfolding mask_by doubled
  mask_block zero = encipher-block key hk (zeros 16) zeros-block
  mask_block (suc i) = double-block _

  pub tag_of-block : (i : ℕ) (sum : List ℕ) → Block sum → Block (tag_of key i sum)
  unfolding tag_of tag_by
  tag_of-block i sum h = ⊕-block _ _ (mask_block i) (encipher-block key hk _ (⊕-block _ _ (mask_block i) h))

  pub sum_of_tag-block : (i : ℕ) (tag : List ℕ) → Block tag → Block (sum_of_tag key i tag)
  unfolding sum_of_tag sum_by
  sum_of_tag-block i tag h = ⊕-block _ _ (mask_block i) (decipher-block key hk _ (⊕-block _ _ (mask_block i) h))

  -- ---- a tag and its sum

  -- a mask that is added twice is gone
  twice : (i : ℕ) (b : List ℕ) → Block b → mask_by (encipher key) i ⊕ (mask_by (encipher key) i ⊕ b) ≡ b
  twice i b h =
      let m = mask_by (encipher key) i in
      ⊕_comm m (m ⊕ b) ∙ ap (λ (t : List ℕ). t ⊕ m) (⊕_comm m b) ∙ block_cancel b m h (mask_block i)

  -- "The sum is had back from a tag by the deciphering."
  pub sum_of_tag-tag_of : (i : ℕ) (sum : List ℕ) → Block sum → sum_of_tag key i (tag_of key i sum) ≡ sum
  unfolding sum_of_tag sum_by tag_of tag_by
  sum_of_tag-tag_of i sum h =
      let m = mask_by (encipher key) i in
      let b = ⊕-block m sum (mask_block i) h in
      ap (λ (t : List ℕ). m ⊕ decipher key t) (twice i (encipher key (m ⊕ sum)) (encipher-block key hk _ b))
      ∙ ap (λ (t : List ℕ). m ⊕ t) (decipher-encipher key hk (m ⊕ sum) b)
      ∙ twice i sum h

  pub tag_of-sum_of_tag : (i : ℕ) (tag : List ℕ) → Block tag → tag_of key i (sum_of_tag key i tag) ≡ tag
  unfolding sum_of_tag sum_by tag_of tag_by
  tag_of-sum_of_tag i tag h =
      let m = mask_by (encipher key) i in
      let b = ⊕-block m tag (mask_block i) h in
      ap (λ (t : List ℕ). m ⊕ encipher key t) (twice i (decipher key (m ⊕ tag)) (decipher-block key hk _ b))
      ∙ ap (λ (t : List ℕ). m ⊕ t) (encipher-decipher key hk (m ⊕ tag) b)
      ∙ twice i tag h

-- 16 bytes, whatever is doubled, and whatever is masked
masked_length : (m : List ℕ) (i : ℕ) (b : List ℕ) → length b ≡ 16 → length (doubled m (suc i) ⊕ b) ≡ 16
unfolding doubled
masked_length m i b h =
    let l = (double-block (doubled m i)).long in
    ⊕-length (doubled m (suc i)) b (omega arith) ∙ l

-- 16 bytes, whatever the sum or tag
module _ (key : List ℕ) (hk : length key ≡ 16) (i : ℕ) where
  pub tag_of-length : (sum : List ℕ) → length (tag_of key (suc i) sum) ≡ 16
  unfolding tag_of tag_by mask_by
  tag_of-length sum = masked_length _ i _ (encipher-length key hk _)

  pub sum_of_tag-length : (tag : List ℕ) → length (sum_of_tag key (suc i) tag) ≡ 16
  unfolding sum_of_tag sum_by mask_by
  sum_of_tag-length tag = masked_length _ i _ (decipher-length key hk _)

-- ---- many in a row

-- a turn of the walk that adds the masks
pub masks_next : (z o : List ℕ) (k : ℕ) (out m out' : List ℕ) → Front (λ i. doubled z (suc i) ⊕ slot o i) o k out → 16 * (k + 1) ≤ length o
    → m ≡ doubled z (suc k) → out' ≡ take (16 * k) out ++ ((take 16 (drop (16 * k) out) ⊕ m) ++ drop (16 * k + 16) out)
    → Front (λ i. doubled z (suc i) ⊕ slot o i) o (k + 1) out'
masks_next z o k out m out' F h em e =
    let b = take 16 (drop (16 * k) out) in
    let s = F.size in
    let lb : length b ≡ 16 = simp (length-take, length-drop) (omega arith) in
    let er : b ⊕ m ≡ doubled z (suc k) ⊕ b = ⊕_comm b m ∙ ap (λ (t : List ℕ). t ⊕ b) em in
    place-next (λ i t. doubled z (suc i) ⊕ t) o k out b (b ⊕ m) out' F h refl er (ap length er ∙ masked_length z k b lb) e

-- copied, masked, through f and masked again
pub masked_twice : (z s o a x y r : List ℕ) (n : ℕ) (f : List ℕ → List ℕ) → 16 * n ≤ length s → ((b : List ℕ) → length (f b) ≡ 16)
    → a ≡ list_of (slot s) n ++ drop (16 * n) o → x ≡ list_of (λ k. doubled z (suc k) ⊕ slot a k) n ++ drop (16 * n) a
    → y ≡ list_of (λ k. f (slot x k)) n ++ drop (16 * n) x → r ≡ list_of (λ k. doubled z (suc k) ⊕ slot y k) n ++ drop (16 * n) y
    → r ≡ list_of (λ k. doubled z (suc k) ⊕ f (doubled z (suc k) ⊕ slot s k)) n ++ drop (16 * n) o
masked_twice z s o a x y r n f room h ea ex ey er =
    let add : ℕ → List ℕ → List ℕ = λ k b. doubled z (suc k) ⊕ b in
    let long : (k : ℕ) → k < n → length (slot s k) ≡ 16 = λ k l. slot-length s k (omega arith) in
    let x' = second_walk (slot s) add n o a x long ea ex in
    let y' = second_walk (λ k. add k (slot s k)) (λ k. f) n o x y (λ k l. masked_length z k (slot s k) (long k l)) x' ey in
    second_walk (λ k. f (add k (slot s k))) add n o y r (λ k l. h (add k (slot s k))) y' er

-- with the mask before the first that a schedule gives
module _ (w s o a x y r : List ℕ) (n : ℕ) (hw : length w ≡ 176) (room : 16 * n ≤ length s) (z : List ℕ) (ez : z ≡ mask_by (cipher w) 0)
    (ea : a ≡ list_of (slot s) n ++ drop (16 * n) o) (ex : x ≡ list_of (λ k. doubled z (suc k) ⊕ slot a k) n ++ drop (16 * n) a)
    (er : r ≡ list_of (λ k. doubled z (suc k) ⊕ slot y k) n ++ drop (16 * n) y) where
  pub tags-code : y ≡ list_of (λ k. cipher w (slot x k)) n ++ drop (16 * n) x → r ≡ tags_by (cipher w) s n ++ drop (16 * n) o
  unfolding tags_by tag_by mask_by doubled
  tags-code ey =
      masked_twice z s o a x y r n (cipher w) room (with_length w hw) ea ex ey er
      ∙ ap (λ (v : List ℕ). list_of (λ k. doubled v (suc k) ⊕ cipher w (doubled v (suc k) ⊕ slot s k)) n ++ drop (16 * n) o) ez

  pub sums-code : y ≡ list_of (λ k. inv_cipher w (slot x k)) n ++ drop (16 * n) x → r ≡ sums_by (cipher w) (inv_cipher w) s n ++ drop (16 * n) o
  unfolding sums_by sum_by mask_by doubled
  sums-code ey =
      masked_twice z s o a x y r n (inv_cipher w) room (inv_with_length w hw) ea ex ey er
      ∙ ap (λ (v : List ℕ). list_of (λ k. doubled v (suc k) ⊕ inv_cipher w (doubled v (suc k) ⊕ slot s k)) n ++ drop (16 * n) o) ez
