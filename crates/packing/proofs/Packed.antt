-- The file of a list of items: it grows by one item with each append, it is not refused, and it holds the items in order.
use Rattle.std.specs.Prelude.{◌≡◌, ◌∷◌, ◌++◌, ◌+◌, ◌-◌, ◌^◌, ◌≤◌, ◌<◌}
use Rattle.fips197.proofs.Kit.{refl, sym, ap, ap₂, ◌∙◌, true, List, [], append_assoc, append-nil, ℕ, zero, suc, add-one, arith, ltb, leb, leb-true, ltb-true, length, get_or, take, drop, length-append, take-append-drop, take_all, take-suc, split_at, take_at, drop_at, drop-drop, le-leb, eq-eqb}
use Rattle.blocks.specs.Number.{number, big_endian}
use Rattle.blocks.proofs.Numbers.{big_endian-length, number-big_endian}
use Rattle.incidence.specs.Count.{inside}
use Rattle.incidence.proofs.Booleans.{and_left, and_right}
use Rattle.stamp.specs.declared.Stamp.{Stamp}
use Rattle.stamp.specs.Front.{number_size, front, front_size, stamp_fits, version_of, stamp_of}
use Rattle.stamp.proofs.Fronts.{front_length, letters_back, version_back, stamp_back}
use Rattle.files.specs.Refusals.{none}
use Rattle.files.specs.Message.{number16, message_letters, newest_message, items_at, item_count, behind, item_start, item_size, item, refuse3, item_fits, refuse_items, refuse5}
use Rattle.files.proofs.Passing.{unless_true}
use Rattle.files.proofs.Messages.{header_right, fits_else, items_more, items_end}
use Rattle.packing.specs.Packing.{field, fields, message_of, appended}

-- ---- fields

pub field-length : (x : List ℕ) → length (field x) ≡ 2 + length x
unfolding field
field-length x = simp (length-append, big_endian-length)

pub fields-append : (a b : List (List ℕ)) → fields (a ++ b) ≡ fields a ++ fields b
unfolding fields
fields-append [] b = refl
fields-append (x ∷ a) b = ap (λ (t : List ℕ). field x ++ t) (fields-append a b) ∙ sym (append_assoc (field x) (fields a) (fields b))

-- those of the first k are no longer than all
fields_part : (items : List (List ℕ)) (k : ℕ) → length (fields (take k items)) ≤ length (fields items)
fields_part items k =
    let e = ap fields (sym (take-append-drop k items)) ∙ fields-append (take k items) (drop k items) in
    let l = ap length e ∙ length-append (fields (take k items)) (fields (drop k items)) in
    omega arith

-- one more behind
fields_snoc : (items : List (List ℕ)) (x : List ℕ) → fields (items ++ (x ∷ [])) ≡ fields items ++ field x
unfolding fields
fields_snoc items x = fields-append items (x ∷ []) ∙ ap (λ (t : List ℕ). fields items ++ t) (append-nil (field x))

-- each takes two bytes at least
fields-low : (items : List (List ℕ)) → length items + length items ≤ length (fields items)
unfolding fields
fields-low [] = omega arith
fields-low (x ∷ items) = omega (arith, length-append (field x) (fields items), field-length x, fields-low items)

-- the number of two bytes that stand behind a
number_at : (a rest : List ℕ) (at n : ℕ) → length a ≡ at → n < 65536 → number16 (a ++ (big_endian 2 n ++ rest)) at ≡ n
unfolding number16
number_at a rest at n h l =
    ap (λ (t : List ℕ). number (take 2 t)) (drop_at a (big_endian 2 n ++ rest) at h)
    ∙ ap number (take_at (big_endian 2 n) rest 2 (big_endian-length 2 n))
    ∙ number-big_endian 2 n (omega arith)

-- ---- the file, by its length

module _ (st : Stamp) where
  pub letters-long : length (front message_letters st) ≡ front_size st.version
  unfolding message_letters
  letters-long = front_length message_letters st refl

  pub message-length : (items : List (List ℕ)) → length (message_of st items) ≡ items_at st.version + length (fields items)
  unfolding message_of items_at
  message-length items =
      let a = letters-long in
      let b = big_endian-length 2 (length items) in
      simp length-append (omega arith)

  letters_are : (items : List (List ℕ)) → take 3 (message_of st items) ≡ message_letters
  unfolding message_of message_letters
  letters_are items = letters_back message_letters st (big_endian 2 (length items) ++ fields items) refl

  pub message_snoc : (items : List (List ℕ)) (x : List ℕ) → length (message_of st (items ++ (x ∷ []))) ≡ length (message_of st items) + 2 + length x
  message_snoc items x =
      let a = message-length items in
      let b = message-length (items ++ (x ∷ [])) in
      let d = ap length (fields_snoc items x) ∙ length-append (fields items) (field x) in
      omega (arith, field-length x)

  pub message_more : (a b : List (List ℕ)) → length (message_of st a) ≤ length (message_of st (a ++ b))
  message_more a b =
      let d = ap length (fields-append a b) ∙ length-append (fields a) (fields b) in
      omega (arith, message-length a, message-length (a ++ b))

  -- a file that is not too long has a count of 2 bytes
  pub few : (items : List (List ℕ)) → length (message_of st items) ≤ 65536 → length items < 65535
  unfolding items_at front_size
  few items h = omega (arith, message-length items, fields-low items)

-- ---- a version that there is, and a number that it has bytes for

module _ (st : Stamp) (F : stamp_fits newest_message st ≡ true) where
  version-inside : inside newest_message st.version ≡ true
  unfolding stamp_fits
  version-inside = and_left (inside newest_message st.version) (ltb st.number (256 ^ number_size st.version)) F

  version_small : st.version < 65536
  unfolding newest_message
  version_small = let l = leb-true st.version 2 (and_right (leb 1 st.version) (leb st.version 2) version-inside) in omega arith

  number_small : st.number < 256 ^ number_size st.version
  unfolding stamp_fits
  number_small = ltb-true st.number (256 ^ number_size st.version) (and_right (inside newest_message st.version) _ F)

  -- what the file says
  pub version_is : (items : List (List ℕ)) → version_of (message_of st items) ≡ st.version
  unfolding message_of message_letters
  version_is items = version_back message_letters st (big_endian 2 (length items) ++ fields items) refl version_small

  pub stamp_is : (items : List (List ℕ)) → stamp_of (message_of st items) ≡ st
  unfolding message_of message_letters
  stamp_is items = stamp_back message_letters st (big_endian 2 (length items) ++ fields items) refl version_small number_small

  pub count_of : (items : List (List ℕ)) → length items < 65536 → item_count (message_of st items) ≡ length items
  unfolding item_count message_of
  count_of items h =
      ap (λ (v : ℕ). number16 (message_of st items) (front_size v)) (version_is items)
      ∙ number_at (front message_letters st) (fields items) (front_size st.version) (length items) (letters-long st) h

  -- An append gives the file of one item more.
  pub appends : (items : List (List ℕ)) (x : List ℕ) → length items < 65535 → appended (message_of st items) x ≡ message_of st (items ++ (x ∷ []))
  unfolding appended message_of items_at
  appends items x h =
      let s = message_of st items in
      let f = front message_letters st in
      let n = big_endian 2 (length items) in
      let at = front_size st.version in
      let d = sym (drop-drop 2 at s) ∙ ap (drop 2) (drop_at f (n ++ fields items) at (letters-long st)) ∙ drop_at n (fields items) 2 (big_endian-length 2 (length items)) in
      ap (λ (v : ℕ). (take (front_size v) s ++ big_endian 2 (item_count s + 1)) ++ (drop (front_size v + 2) s ++ field x)) (version_is items)
      ∙ ap₂ (λ (a b : List ℕ). (a ++ big_endian 2 (item_count s + 1)) ++ (b ++ field x)) (take_at f (n ++ fields items) at (letters-long st)) d
      ∙ ap (λ (k : ℕ). (f ++ big_endian 2 (k + 1)) ++ (fields items ++ field x)) (count_of items (omega arith))
      ∙ ap₂ (λ (k : ℕ) (t : List ℕ). (f ++ big_endian 2 k) ++ t) (sym (length-append items (x ∷ []))) (sym (fields_snoc items x))
      ∙ append_assoc f (big_endian 2 (length (items ++ (x ∷ [])))) (fields (items ++ (x ∷ [])))

-- ---- the file of items that fit one

-- "A card has 0 to 1,024 bytes, a shelf at most 65,536", of a version that there is, with a number that it has bytes for
pub record Packable (st : Stamp) (items : List (List ℕ)) : Type 0 where
  pub stamped : stamp_fits newest_message st ≡ true
  pub each : (k : ℕ) → k < length items → length (get_or items k []) ≤ 1024
  pub whole : length (message_of st items) ≤ 65536

module _ (st : Stamp) (items : List (List ℕ)) (P : Packable st items) where
  s : List ℕ
  s = message_of st items

  -- where the first item's length stands
  start : ℕ
  start = items_at st.version

  -- item k + 1, all before its length, and all behind it
  nth : ℕ → List ℕ
  nth k = get_or items k []

  ahead : ℕ → List ℕ
  ahead k = front message_letters st ++ (big_endian 2 (length items) ++ fields (take k items))

  rest : ℕ → List ℕ
  rest k = fields (drop (suc k) items)

  ahead_length : (k : ℕ) → length (ahead k) ≡ start + length (fields (take k items))
  unfolding ahead start items_at
  ahead_length k =
      let a = letters-long st in
      let b = big_endian-length 2 (length items) in
      simp length-append (omega arith)

  parts : (k : ℕ) → k < length items → s ≡ ahead k ++ (field (nth k) ++ rest k)
  unfolding s message_of ahead nth rest fields
  parts k h =
      ap (λ (t : List ℕ). front message_letters st ++ (big_endian 2 (length items) ++ t)) (ap fields (split_at items k [] h) ∙ fields-append (take k items) (nth k ∷ drop (suc k) items))
      ∙ simp append_assoc

  module _ (k : ℕ) (h : k < length items) (at : ℕ) (e : at ≡ start + length (fields (take k items))) where
    -- the length of item k + 1 stands there
    size-at : number16 s at ≡ length (nth k)
    unfolding field nth
    size-at =
        let l = P.each k h in
        ap (λ (t : List ℕ). number16 t at) (parts k h ∙ ap (λ (t : List ℕ). ahead k ++ t) (append_assoc (big_endian 2 (length (nth k))) (nth k) (rest k)))
        ∙ number_at (ahead k) (nth k ++ rest k) at (length (nth k)) (ahead_length k ∙ sym e) (omega arith)

    -- the item behind it
    head : List ℕ
    head = ahead k ++ big_endian 2 (length (nth k))

    head-length : length head ≡ at + 2
    unfolding head
    head-length =
        let z = big_endian-length 2 (length (nth k)) in
        length-append (ahead k) (big_endian 2 (length (nth k))) ∙ omega (arith, ahead_length k)

    item-at : take (length (nth k)) (drop (at + 2) s) ≡ nth k
    unfolding field head
    item-at =
        let split : s ≡ head ++ (nth k ++ rest k) = parts k h ∙ simp append_assoc in
        ap (λ (t : List ℕ). take (length (nth k)) (drop (at + 2) t)) split
        ∙ ap (take (length (nth k))) (drop_at head (nth k ++ rest k) (at + 2) head-length)
        ∙ take_at (nth k) (rest k) (length (nth k)) refl

    -- and the place behind that
    next-at : at + 2 + length (nth k) ≡ start + length (fields (take (suc k) items))
    unfolding nth
    next-at =
        let t = ap fields (take-suc items k [] h) ∙ fields_snoc (take k items) (nth k) in
        let l = ap length t ∙ length-append (fields (take k items)) (field (nth k)) in
        omega (arith, field-length (nth k))

  places : (k : ℕ) → k ≤ length items → behind s k ≡ start + length (fields (take k items))
  unfolding behind fields start s
  places zero h = ap items_at (version_is st P.stamped items) ∙ omega arith
  places (suc k) h =
      let e = places k (omega arith) in
      ap (λ (n : ℕ). behind s k + 2 + n) (size-at k (omega arith) (behind s k) e) ∙ next-at k (omega arith) (behind s k) e

  places_end : behind s (length items) ≡ length s
  unfolding s start
  places_end =
      places (length items) (omega arith)
      ∙ ap (λ (l : List (List ℕ)). start + length (fields l)) (take_all (length items) items (omega arith))
      ∙ sym (message-length st items)

  -- item k + 1 lies in the file
  fits_here : (k : ℕ) → k < length items → item_fits s (behind s k) ≡ true
  unfolding s nth start
  fits_here k h =
      let e = places k (omega arith) in
      let z = size-at k h (behind s k) e in
      let n = next-at k h (behind s k) e in
      let l = P.each k h in
      let m = message-length st items in
      let b = fields_part items (suc k) in
      let small : number16 s (behind s k) ≤ 1024 = omega arith in
      let room : behind s k + 2 + number16 s (behind s k) ≤ length s = omega arith in
      sym (fits_else s (behind s k) (omega arith) small) ∙ le-leb _ _ room

  all_fit : (k : ℕ) → k ≤ length items → refuse_items s k ≡ none
  unfolding refuse_items
  all_fit zero h = refl
  all_fit (suc k) h =
      ap (refuse_items s) (sym (add-one k))
      ∙ items_more s k (behind s k) true (all_fit k (omega arith)) refl (sym (fits_here k (omega arith))) refl

  -- The file of items that fit one is not refused, and says its version and number and how many items there are.
  pub accepted : (refuse3 (message_of st items) ≡ none) × (refuse5 (message_of st items) ≡ none)
      × (item_count (message_of st items) ≡ length items) × (stamp_of (message_of st items) ≡ st)
  unfolding s
  accepted =
      let F = P.stamped in
      let v = version_is st F items in
      let m = message-length st items in
      let n = few st items P.whole in
      let c = count_of st F items (omega arith) in
      let l : items_at (version_of (message_of st items)) ≤ length (message_of st items) = rw v (omega arith) in (
        header_right (message_of st items) l P.whole (letters_are st items) (ap (inside newest_message) v ∙ version-inside st F),
        sym (items_end (message_of st items) (length items) _ (length items) (all_fit (length items) (omega arith)) refl (sym c) refl)
            ∙ unless_true _ 5 (length items + 1) (eq-eqb _ _ places_end),
        c,
        stamp_is st F items,
      )

  -- Item j of the file is the j-th of the items.
  pub holds : (j : ℕ) → 1 ≤ j → j ≤ length items → item (message_of st items) j ≡ get_or items (j - 1) []
  unfolding item item_start item_size s nth
  holds j low high =
      let k = j - 1 in
      let h : k < length items = omega arith in
      let at = behind (message_of st items) k in
      let e = places k (omega arith) in
      ap (λ (n : ℕ). take n (drop (at + 2) (message_of st items))) (size-at k h at e) ∙ item-at k h at e
