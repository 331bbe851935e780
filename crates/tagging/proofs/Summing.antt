-- A walk over items adds each value to the sums of its rows: after k items, the sums are those of the first k.
use Rattle.std.specs.Prelude.{◌≡◌, ◌∷◌, ◌++◌, ◌+◌, ◌-◌, ◌*◌, ◌≤◌, ◌<◌, if◌then◌else◌}
use Rattle.fips197.proofs.Kit.{refl, sym, ap, ap₂, ◌∙◌, subst, Bool, true, false, List, ℕ, zero, suc, arith, add-one, length, take, drop, length-take, take-add, take-append-drop}
use Rattle.blocks.specs.Block.{◌⊕◌, zeros, slot, list_of}
use Rattle.blocks.proofs.Xor.{⊕_comm, ⊕_assoc, ⊕-zeros}
use Rattle.cipher.specs.Cmac.{mac_with, ready}
use Rattle.cipher.specs.declared.cmac.MacKey.{MacKey}
use Rattle.incidence.specs.Family.{Family}
use Rattle.incidence.specs.Sum.{sum_over, row_sum}
use Rattle.incidence.proofs.Sums.{Values, sum_length}
use Rattle.sizes.specs.Sizes.{family_of}
use Rattle.stamp.specs.declared.Stamp.{Stamp}
use Rattle.files.specs.Refusals.{Refusal}
use Rattle.files.specs.Refusals.{none}
use Rattle.files.specs.Message.{number16, item_count, behind, item_start, item_size, item, refuse5}
use Rattle.files.proofs.Messages.{Fits, item-fits}
use Rattle.keyed.specs.Keyed.{item_hash, item_hash_by}
use Rattle.keyed.proofs.KeyedLaws.{hash_ready, hashes-ready, item_hash-length}
use Rattle.sums.specs.Adding.{sum_in, Holds, Added}
use Rattle.tagging.specs.declared.Keys.{Keys}
use Rattle.tagging.specs.Tagging.{keys_in, hashes, tag_sum}

-- ---- arrays of zeros

drop-zeros : (k m : ℕ) → drop k (zeros m) ≡ zeros (m - k)
drop-zeros zero m = let e : m ≡ m - 0 = omega arith in ap zeros e
drop-zeros (suc k) zero = let e : 0 ≡ 0 - suc k = omega arith in ap zeros e
drop-zeros (suc k) (suc m) = let e : m - k ≡ suc m - suc k = omega arith in drop-zeros k m ∙ ap zeros e

take-zeros : (k m : ℕ) → k ≤ m → take k (zeros m) ≡ zeros k
take-zeros zero m h = refl
take-zeros (suc k) zero h = absurd (omega arith)
take-zeros (suc k) (suc m) h = ap (λ (l : List ℕ). 0 ∷ l) (take-zeros k m (omega arith))

pub zero_sums : (m k : ℕ) → 1 ≤ k → 16 * k ≤ m → sum_in (zeros m) k ≡ zeros 16
unfolding sum_in slot
zero_sums m k l h = ap (take 16) (drop-zeros (16 * (k - 1)) m) ∙ take-zeros 16 (m - 16 * (k - 1)) (omega arith)

-- ---- the walk

-- the sums with those of the first k items added
abbrev pub Summed : Family → (ℕ → List ℕ) → ℕ → List ℕ → List ℕ → Type 0
Summed F value k before after = Holds F.tags (λ t. sum_in before t ⊕ row_sum F value k (F.row_of_tag t)) before after

module _ (F : Family) (value : ℕ → List ℕ) where
  pub summed_first : (s : List ℕ) (k : ℕ) → k ≡ 0 → Summed F value k s s
  unfolding row_sum sum_over sum_in slot
  summed_first s k e = subst (λ (m : ℕ). Summed F value m s s) (sym e) first
    where
      first : Summed F value 0 s s
      first = record { size = refl; sums = λ t l u. sym (⊕-zeros (sum_in s t) 16 (simp length-take (omega arith))); rest = refl }

  pub summed_next : (before s s' v : List ℕ) (k j : ℕ) → j ≡ k + 1 → v ≡ value j → Summed F value k before s
      → Added (λ t. F.on (F.row_of_tag t) j) F.tags v s s' → Summed F value j before s'
  unfolding row_sum sum_over
  summed_next before s s' v k j ej ev H A = record {
    size = A.size ∙ H.size;
    sums = λ t l u. A.sums t l u ∙ ap₂ (λ (x w : List ℕ). if F.on (F.row_of_tag t) j then x ⊕ w else x) (H.sums t l u) ev
        ∙ grouped (F.on (F.row_of_tag t) j) (sum_in before t) (row_sum F value k (F.row_of_tag t)) (value j)
        ∙ ap (λ (x : List ℕ). sum_in before t ⊕ x) (more t);
    rest = A.rest ∙ H.rest;
  }
    where
      grouped : (b : Bool) (x y z : List ℕ) → (if b then (x ⊕ y) ⊕ z else x ⊕ y) ≡ x ⊕ (if b then y ⊕ z else y)
      grouped true x y z = ⊕_assoc x y z
      grouped false x y z = refl

      more : (t : ℕ)
          → (if F.on (F.row_of_tag t) j then row_sum F value k (F.row_of_tag t) ⊕ value j else row_sum F value k (F.row_of_tag t)) ≡ row_sum F value j (F.row_of_tag t)
      more t =
          subst (λ (m : ℕ). (if F.on (F.row_of_tag t) m then row_sum F value k (F.row_of_tag t) ⊕ value m else row_sum F value k (F.row_of_tag t)) ≡ row_sum F value m (F.row_of_tag t)) (sym (ej ∙ add-one k)) refl

-- with the hashes that a key made ready gives, all of them by now
pub summed_ready : (F : Family) (key : List ℕ) (k : MacKey) (st : Stamp) (items : ℕ → List ℕ) (i m : ℕ) (before s : List ℕ) → k ≡ ready key → i ≡ m
    → Summed F (λ j. item_hash_by (mac_with k) st j (items j)) i before s → Summed F (λ j. item_hash key st j (items j)) m before s
summed_ready F key k st items i m before s ek e H =
    subst (λ (x : ℕ). Summed F (λ j. item_hash key st j (items j)) x before s) e
    (subst (λ (v : ℕ → List ℕ). Summed F v i before s) (hashes-ready key k st items ek) H)

-- added to zeros, they are the sums
module _ (n : ℕ) (f : ℕ → List ℕ) (before s : List ℕ) (z : (t : ℕ) → 1 ≤ t → t ≤ n → sum_in before t ≡ zeros 16) (l : (t : ℕ) → length (f t) ≡ 16) where
  alone : (t : ℕ) → 1 ≤ t → t ≤ n → sum_in before t ⊕ f t ≡ f t
  alone t a b = ap (λ (x : List ℕ). x ⊕ f t) (z t a b) ∙ ⊕_comm (zeros 16) (f t) ∙ ⊕-zeros (f t) 16 (omega (arith, l t))

  pub summed_zeros : Holds n (λ t. sum_in before t ⊕ f t) before s → Holds n f before s
  summed_zeros H = record { size = H.size; sums = λ t a b. H.sums t a b ∙ alone t a b; rest = H.rest }

  pub zeros_summed : Holds n f before s → Holds n (λ t. sum_in before t ⊕ f t) before s
  zeros_summed H = record { size = H.size; sums = λ t a b. H.sums t a b ∙ sym (alone t a b); rest = H.rest }

-- a hash has 16 bytes, whatever the item, and so has a sum
pub hashes-long : (K : Keys) → length K.item ≡ 16 → (st : Stamp) (items : ℕ → List ℕ) → Values (hashes K st items)
unfolding hashes
hashes-long K h st items j = item_hash-length K.item h st j (items j)

pub tag_sum-length : (keys : Keys) (st : Stamp) (c : ℕ) (items : ℕ → List ℕ) (n : ℕ) → length keys.item ≡ 16 → (k : ℕ) → length (tag_sum keys st c items n k) ≡ 16
unfolding tag_sum row_sum
tag_sum-length keys st c items n h k = sum_length ((family_of c).on ((family_of c).row_of_tag k)) (hashes keys st items) n (hashes-long keys h st items)

-- ---- the bytes of an item as the walk meets them

pub item_here : (s : List ℕ) (k j at e : ℕ) → at ≡ behind s k → j ≡ k + 1 → e ≡ at + 2 + number16 s at → take (e - (at + 2)) (drop (at + 2) s) ≡ item s j
unfolding item item_size item_start
item_here s k j at e ea ej ee =
    let d : e - (at + 2) ≡ number16 s at = omega arith in
    let p : k ≡ j - 1 = omega arith in
    let b = ea ∙ ap (behind s) p in
    ap (λ (m : ℕ). take m (drop (at + 2) s)) d ∙ ap (λ (a : ℕ). take (number16 s a) (drop (a + 2) s)) b

-- ---- an array is known by its sums

pub holds_is : (n : ℕ) (sum : ℕ → List ℕ) (before after : List ℕ) → Holds n sum before after → 16 * n ≤ length before
    → after ≡ list_of (λ k. sum (suc k)) n ++ drop (16 * n) before
unfolding list_of sum_in slot
holds_is n sum before after H fits = sym (take-append-drop (16 * n) after) ∙ ap₂ ◌++◌ (front n (omega arith)) H.rest
  where
    front : (m : ℕ) → m ≤ n → take (16 * m) after ≡ list_of (λ k. sum (suc k)) m
    front zero h = refl
    front (suc m) h =
        let e : 16 * suc m ≡ 16 * m + 16 = omega arith in
        let z : suc m - 1 ≡ m = omega arith in
        ap (λ (x : ℕ). take x after) e ∙ take-add (16 * m) 16 after
        ∙ ap₂ ◌++◌ (front m (omega arith)) (ap (λ (x : ℕ). take 16 (drop (16 * x) after)) (sym z) ∙ H.sums (suc m) (omega arith) h)

-- ---- as the code has them

pub added_as : (p : ℕ → Bool) (n : ℕ) (v w before after : List ℕ) → v ≡ w → Added p n v before after → Added p n w before after
added_as p n v w before after e A = subst (λ (x : List ℕ). Added p n x before after) e A

pub added_ready : (c j : ℕ) (key : List ℕ) (k : MacKey) (st' st : Stamp) (item before after : List ℕ) → k ≡ ready key → st' ≡ st
    → Added (λ t. (family_of c).on ((family_of c).row_of_tag t) j) (family_of c).tags (item_hash_by (mac_with k) st' j item) before after
    → Added (λ t. (family_of c).on ((family_of c).row_of_tag t) j) (family_of c).tags (item_hash key st j item) before after
added_ready c j key k st' st item before after e es A =
    added_as (λ t. (family_of c).on ((family_of c).row_of_tag t) j) (family_of c).tags _ _ before after
    (ap (λ (x : Stamp). item_hash_by (mac_with k) x j item) es ∙ hash_ready key k st j item e) A

pub keys_made : (s a b d : List ℕ) → a ≡ slot s 0 → b ≡ slot s 1 → d ≡ slot s 2 → ◌≡◌ {A = Keys} (record { item = a; tag = b; seal = d }) (keys_in s)
unfolding keys_in
keys_made s a b d ea eb ed = λ i. record { item = ea i; tag = eb i; seal = ed i }

-- ---- the next item of a file that is not refused

module _ (s : List ℕ) (whole : refuse5 s ≡ none) (n at k : ℕ) (en : n ≡ item_count s) (ea : at ≡ behind s k) (less : k < n) where
  pub fits_here : Fits s at
  fits_here = subst (Fits s) (sym ea) (item-fits s k (ap (λ (r : Refusal). r.number) whole) (omega arith))
