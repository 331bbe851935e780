-- What a begin that passes tells of stamp and room, and an append of file and item, and what each test of the code settles.
use Rattle.std.specs.Prelude.{◌≡◌, ◌&&◌, ◌∷◌, ◌+◌, ◌-◌, ◌^◌, ◌≤◌, ◌<◌}
use Rattle.fips197.proofs.Kit.{refl, sym, ap, ap₂, ◌∙◌, Bool, true, false, and-true, List, [], ℕ, zero, suc, arith, eqb, leb, ltb, ne_eqb, le-ltb, lt-ltb, length, take, length-take, leb-true, leb-false, le-leb, lt-leb, ltb-true}
use Rattle.incidence.specs.Count.{inside}
use Rattle.stamp.specs.declared.Stamp.{Stamp}
use Rattle.stamp.specs.Front.{stamp_fits, version_of}
use Rattle.stamp.proofs.Fronts.{size-first, size_later}
use Rattle.files.specs.Refusals.{Refusal}
use Rattle.files.specs.Refusals.{refusal, unless}
use Rattle.files.specs.Message.{newest_message, items_at, item_count, refuse3}
use Rattle.files.specs.Arguments.{refuse7, refuse9}
use Rattle.files.proofs.Passing.{rest-passes, unless_false, unless-passes, number_along}
use Rattle.files.proofs.Messages.{headed}
use Rattle.packing.specs.Packing.{begin_file_refusal, append_refusal}

-- ---- 3, of a stamp

-- version 1 has no bytes for a number, and so 0 alone; each later one has four
pub fits-first : (st : Stamp) → st.version ≡ 1 → eqb st.number 0 ≡ stamp_fits newest_message st
unfolding stamp_fits newest_message
fits-first st e =
    zero_only st.number
    ∙ ap₂ (λ (v k : ℕ). inside 2 v && ltb st.number (256 ^ k)) (sym e) (sym (size-first st.version e))
  where
    zero_only : (n : ℕ) → eqb n 0 ≡ ltb n 1
    zero_only zero = refl
    zero_only (suc n) = let l : 1 ≤ suc n = omega arith in ne_eqb (suc n) 0 (λ z. omega arith) ∙ sym (le-ltb (suc n) 1 l)

pub fits_later : (st : Stamp) → (st.version ≡ 1 → ⊥) → st.number < 256 ^ 4 → inside newest_message st.version ≡ stamp_fits newest_message st
unfolding stamp_fits
fits_later st e l =
    let i = inside newest_message st.version in
    sym (ap (λ (t : Bool). i && t) (ap (λ (k : ℕ). ltb st.number (256 ^ k)) (size_later st.version e) ∙ lt-ltb st.number (256 ^ 4) l) ∙ and-true i)

-- ---- 7

module _ (room n long : ℕ) where
  pub room_short : room < n → refusal 7 0 ≡ refuse7 (n + 2 + long) room
  unfolding refuse7
  room_short h = let l : room < n + 2 + long = omega arith in sym (unless_false _ 7 0 (lt-leb (n + 2 + long) room l))

  -- room for the item behind the first n bytes is room for both
  pub room_rest : n ≤ room → refuse7 (2 + long) (room - n) ≡ refuse7 (n + 2 + long) room
  unfolding refuse7
  room_rest h = ap (λ (t : Bool). unless t 7 0) (go (leb (2 + long) (room - n)) refl)
    where
      go : (t : Bool) → leb (2 + long) (room - n) ≡ t → leb (2 + long) (room - n) ≡ leb (n + 2 + long) room
      go true e =
          let l = leb-true (2 + long) (room - n) e in
          let k : n + 2 + long ≤ room = omega arith in e ∙ sym (le-leb (n + 2 + long) room k)
      go false e =
          let l = leb-false (2 + long) (room - n) e in
          let k : room < n + 2 + long = omega arith in e ∙ sym (lt-leb (n + 2 + long) room k)

pub room_tells : (size room : ℕ) (r : Refusal) → r ≡ refuse7 size room → r.number ≡ 0 → size ≤ room
unfolding refuse7
room_tells size room r e h = leb-true size room (unless-passes _ 7 0 (omega arith) (number_along r _ e h))

-- ---- what a begin that passes tells

pub begins_tell : (st : Stamp) (room : ℕ) (r : Refusal) → r ≡ begin_file_refusal st room → r.number ≡ 0
    → (stamp_fits newest_message st ≡ true) × (items_at st.version ≤ room)
unfolding begin_file_refusal
begins_tell st room r e h =
    let fits = stamp_fits newest_message st in
    let size = items_at st.version in
    let a = rest-passes (unless fits 3 0) (refuse7 size room ∷ []) (number_along r _ e h) in
    let b = rest-passes (refuse7 size room) [] a.1 in
    (unless-passes fits 3 0 (omega arith) a.0, room_tells size room _ refl b.0)

-- ---- what an append that passes tells

pub record Appendable (file : List ℕ) (n : ℕ) (item : List ℕ) : Type 0 where
  pub short : length item ≤ 1024
  pub room : n + 2 + length item ≤ length file
  pub low : items_at (version_of (take n file)) ≤ n
  pub size : n + 2 + length item ≤ 65536
  pub more : item_count (take n file) < 65535

pub appendable : (file : List ℕ) (n : ℕ) (item : List ℕ) (r : Refusal) → r ≡ append_refusal file n item → r.number ≡ 0 → Appendable file n item
unfolding append_refusal refuse7 refuse9
appendable file n item r e h =
    let size = n + 2 + length item in
    let long = leb (length item) 1024 in
    let room = leb size (length file) in
    let whole = leb size 65536 in
    let more = ltb (item_count (take n file)) 65535 in
    let a = rest-passes (unless long 9 0) (unless room 7 0 ∷ refuse3 (take n file) ∷ unless whole 3 0 ∷ unless more 3 0 ∷ []) (number_along r _ e h) in
    let b = rest-passes (unless room 7 0) (refuse3 (take n file) ∷ unless whole 3 0 ∷ unless more 3 0 ∷ []) a.1 in
    let d = rest-passes (refuse3 (take n file)) (unless whole 3 0 ∷ unless more 3 0 ∷ []) b.1 in
    let f = rest-passes (unless whole 3 0) (unless more 3 0 ∷ []) d.1 in
    let g = rest-passes (unless more 3 0) [] f.1 in
    let l = (headed (take n file) d.0).0 in
    record {
      short = leb-true (length item) 1024 (unless-passes long 9 0 (omega arith) a.0);
      room = leb-true size (length file) (unless-passes room 7 0 (omega arith) b.0);
      low = omega (arith, length-take n file);
      size = leb-true size 65536 (unless-passes whole 3 0 (omega arith) f.0);
      more = ltb-true (item_count (take n file)) 65535 (unless-passes more 3 0 (omega arith) g.0);
    }
