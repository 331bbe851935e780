-- A run: `begin` and then appends, one after another, each behind the file so far. Where none is refused, the front of the buffer is the file
-- of the items; and none is refused where the items fit one file and the buffer has room for it.
use Rattle.std.specs.Prelude.{◌≡◌, ◌⊎◌, ◌∷◌, ◌++◌, ◌+◌, ◌≤◌, ◌<◌}
use Rattle.fips197.proofs.Kit.{refl, sym, ap, ap₂, ◌∙◌, subst, true, inl, inr, List, [], append_assoc, append-nil, ℕ, suc, le_of_suc-le-suc, eq-or-lt_of_le, arith, length, get_or, take, drop, length-append, length-drop, List·getD-append, take_at, drop_at, drop-drop, get_or-append_seam, le-leb, lt-ltb}
use Rattle.stamp.specs.declared.Stamp.{Stamp}
use Rattle.stamp.specs.Front.{stamp_fits}
use Rattle.stamp.proofs.Fronts.{front-most}
use Rattle.files.specs.Refusals.{none, first}
use Rattle.files.specs.Message.{newest_message, items_at, item_count, refuse3}
use Rattle.files.specs.Arguments.{refuse7, refuse9}
use Rattle.files.proofs.Passing.{unless_true, given}
use Rattle.packing.specs.Packing.{fields, message_of, appended, begin_file_refusal, begin_file_writes, append_refusal, append_writes, append_all}
use Rattle.packing.proofs.Refusing.{begins_tell, appendable}
use Rattle.packing.proofs.Packed.{message-length, message_more, message_snoc, few, appends, Packable, accepted}

-- none of the appends of these items, one after another behind the first n bytes of the buffer, is refused
abbrev pub NoneRefused : List ℕ → ℕ → List (List ℕ) → Type 0
NoneRefused file n [] = Unit {0}
NoneRefused file n (x ∷ rest) = (append_refusal file n x ≡ none) × NoneRefused (append_writes file n x) (n + 2 + length x) rest

-- the lent buffer, out before the run, has the file of these items in front, and nothing behind it moved
pub record InFront (st : Stamp) (out : List ℕ) (items : List (List ℕ)) (file : List ℕ) : Type 0 where
  pub so : file ≡ message_of st items ++ drop (length (message_of st items)) out
  pub room : length (message_of st items) ≤ length out
  pub packable : Packable st items

-- one item more that has at most 1,024 bytes
each_snoc : (items : List (List ℕ)) (x : List ℕ) → ((k : ℕ) → k < length items → length (get_or items k []) ≤ 1024) → length x ≤ 1024
    → (k : ℕ) → k < length (items ++ (x ∷ [])) → length (get_or (items ++ (x ∷ [])) k []) ≤ 1024
each_snoc items x f h k l =
    let m : k < suc (length items) = omega (arith, length-append items (x ∷ [])) in go (eq-or-lt_of_le (le_of_suc-le-suc m))
  where
    go : (k ≡ length items) ⊎ (k < length items) → length (get_or (items ++ (x ∷ [])) k []) ≤ 1024
    go (inl q) =
        let e = ap length (ap (λ (i : ℕ). get_or (items ++ (x ∷ [])) i []) q ∙ get_or-append_seam items x [] []) in omega arith
    go (inr q) =
        let e = ap length (List·getD-append items (x ∷ []) [] k q) in
        let l = f k q in omega arith

module _ (st : Stamp) (out : List ℕ) (items : List (List ℕ)) (file : List ℕ) (H : InFront st out items file) (n : ℕ) (e : n ≡ length (message_of st items)) where
  -- what an append finds in the buffer
  front : take n file ≡ message_of st items
  front = ap (take n) H.so ∙ take_at (message_of st items) _ n (sym e)

  behind-front : (k : ℕ) → drop (n + k) file ≡ drop (n + k) out
  behind-front k =
      sym (drop-drop k n file)
      ∙ ap (drop k) (ap (drop n) H.so ∙ drop_at (message_of st items) _ n (sym e) ∙ ap (λ (i : ℕ). drop i out) (sym e))
      ∙ drop-drop k n out

  file-length : length file ≡ length out
  file-length =
      ap length H.so ∙ length-append (message_of st items) _
      ∙ ap (λ (k : ℕ). length (message_of st items) + k) (length-drop (length (message_of st items)) out)
      ∙ omega (arith, H.room)

  module _ (x : List ℕ) (p : append_refusal file n x ≡ none) where
    long : length (message_of st (items ++ (x ∷ []))) ≡ n + 2 + length x
    long = message_snoc st items x ∙ ap (λ (k : ℕ). k + 2 + length x) (sym e)

    step : InFront st out (items ++ (x ∷ [])) (append_writes file n x)
    unfolding append_writes
    step =
        let a = appendable file n x none (sym p) refl in
        let b = few st items H.packable.whole in
        let q : n + (2 + length x) ≡ n + 2 + length x = omega arith in
        let r : n + 2 + length x ≡ length (message_of st (items ++ (x ∷ []))) = sym long in
        record {
          so = sym (given none (append_refusal file n x) (sym p) (appended (take n file) x ++ drop (n + 2 + length x) file) file refl)
              ∙ ap₂ ◌++◌ (ap (λ (t : List ℕ). appended t x) front ∙ appends st H.packable.stamped items x b)
              (ap (λ (k : ℕ). drop k file) (sym q) ∙ behind-front (2 + length x) ∙ ap (λ (k : ℕ). drop k out) (q ∙ r));
          room = omega (arith, file-length, a.room);
          packable = record { stamped = H.packable.stamped; each = each_snoc items x H.packable.each a.short; whole = omega (arith, a.size) };
        }

run : (st : Stamp) (out : List ℕ) (rest done : List (List ℕ)) (file : List ℕ) (n : ℕ) → n ≡ length (message_of st done) → InFront st out done file
    → NoneRefused file n rest → InFront st out (done ++ rest) (append_all file n rest)
unfolding append_all
run st out [] done file n e H R = subst (λ (l : List (List ℕ)). InFront st out l file) (sym (append-nil done)) H
run st out (x ∷ rest) done file n e H R =
    subst (λ (l : List (List ℕ)). InFront st out l (append_all (append_writes file n x) (n + 2 + length x) rest)) (append_assoc done (x ∷ []) rest)
    (run st out rest (done ++ (x ∷ [])) (append_writes file n x) (n + 2 + length x) (sym (long st out done file H n e x R.0)) (step st out done file H n e x R.0) R.1)

-- ---- begin

module _ (st : Stamp) (out : List ℕ) where
  -- where the items start, the file without items ends
  start : items_at st.version ≡ length (message_of st [])
  unfolding fields
  start = omega (arith, message-length st [])

  -- not refused where the stamp fits and there is room
  begins : stamp_fits newest_message st ≡ true → items_at st.version ≤ length out → begin_file_refusal st (length out) ≡ none
  unfolding begin_file_refusal refuse7 first
  begins f h =
      let e₁ = unless_true _ 3 0 f in
      let e₂ = unless_true _ 7 0 (le-leb (items_at st.version) (length out) h) in
      λ i. first (e₁ i ∷ e₂ i ∷ [])

  -- then the file without items is in front
  started : begin_file_refusal st (length out) ≡ none → InFront st out [] (begin_file_writes st out)
  unfolding begin_file_writes items_at
  started b =
      let t = begins_tell st (length out) none (sym b) refl in
      let e = start in
      let w = message_of st [] ++ drop (items_at st.version) out in
      record {
        so = sym (given none (begin_file_refusal st (length out)) (sym b) w out refl) ∙ ap (λ (k : ℕ). message_of st [] ++ drop k out) e;
        room = omega (arith, t.1);
        packable = record { stamped = t.0; each = λ k l. absurd (omega arith); whole = omega (arith, front-most st.version) };
      }

-- After `begin` and appends none of which is refused, the front of the buffer is the file of the items, nothing behind it moved, and the
-- items fit one file: by `accepted` and `holds` it is a message file of that version and number that holds them.
pub packs : (st : Stamp) (out : List ℕ) (items : List (List ℕ)) → begin_file_refusal st (length out) ≡ none
    → NoneRefused (begin_file_writes st out) (items_at st.version) items
    → InFront st out items (append_all (begin_file_writes st out) (items_at st.version) items)
packs st out items b R = run st out items [] (begin_file_writes st out) (items_at st.version) (start st out) (started st out b) R

-- ---- what is not refused

module _ (st : Stamp) (out : List ℕ) where
  -- an item that fits, behind a file that holds the items so far
  passes-item : (items : List (List ℕ)) (file : List ℕ) → InFront st out items file → (n : ℕ) → n ≡ length (message_of st items)
      → (x : List ℕ) → length x ≤ 1024 → n + 2 + length x ≤ length out → n + 2 + length x ≤ 65536 → append_refusal file n x ≡ none
  unfolding append_refusal refuse7 refuse9 first
  passes-item items file H n e x short room whole =
      let a = accepted st items H.packable in
      let f = front st out items file H n e in
      let l = file-length st out items file H n e in
      let c : item_count (take n file) ≡ length items = ap item_count f ∙ a.2 in
      let m : item_count (take n file) < 65535 = omega (arith, few st items H.packable.whole) in
      let r : n + 2 + length x ≤ length file = omega arith in
      let e₁ = unless_true _ 9 0 (le-leb (length x) 1024 short) in
      let e₂ = unless_true _ 7 0 (le-leb (n + 2 + length x) (length file) r) in
      let e₃ = ap refuse3 f ∙ a.0 in
      let e₄ = unless_true _ 3 0 (le-leb (n + 2 + length x) 65536 whole) in
      let e₅ = unless_true _ 3 0 (lt-ltb (item_count (take n file)) 65535 m) in
      λ i. first (e₁ i ∷ e₂ i ∷ e₃ i ∷ e₄ i ∷ e₅ i ∷ [])

  all_pass : (rest done : List (List ℕ)) (file : List ℕ) (n : ℕ) → n ≡ length (message_of st done) → InFront st out done file
      → Packable st (done ++ rest) → length (message_of st (done ++ rest)) ≤ length out → NoneRefused file n rest
  all_pass [] done file n e H P room = tt
  all_pass (x ∷ rest) done file n e H P room =
      let z = append_assoc done (x ∷ []) rest in
      let next = done ++ (x ∷ []) in
      let l = message_snoc st done x in
      let m = message_more st next rest in
      let q = ap (λ (l : List (List ℕ)). length (message_of st l)) z in
      let w = P.whole in
      let k : length done < length (done ++ (x ∷ rest)) = omega (arith, length-append done (x ∷ rest)) in
      let s = ap length (get_or-append_seam done x rest []) in
      let short : length x ≤ 1024 = omega (arith, P.each (length done) k) in
      let p = passes-item done file H n e x short (omega arith) (omega arith) in (
        p,
        all_pass rest next (append_writes file n x) (n + 2 + length x) (sym (long st out done file H n e x p)) (step st out done file H n e x p)
            (subst (Packable st) (sym z) P) (omega arith),
      )

  -- Where the stamp fits, the items fit one file and the buffer has room for it, neither `begin` nor any of the appends is refused.
  pub runs : (items : List (List ℕ)) → Packable st items → length (message_of st items) ≤ length out
      → (begin_file_refusal st (length out) ≡ none) × NoneRefused (begin_file_writes st out) (items_at st.version) items
  runs items P room =
      let b = begins st out P.stamped (omega (arith, message-length st items)) in
      (b, all_pass items [] (begin_file_writes st out) (items_at st.version) (start st out) (started st out b) P room)
