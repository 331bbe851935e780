-- Demand 2: a tag file is accepted under a seal key exactly when its bytes are what the writer lays out and seals for some version, number, size
-- code, count and tags.
use Rattle.std.specs.Prelude.{◌≡◌, ◌&&◌, ◌∷◌, ◌++◌, ◌+◌, ◌-◌, ◌*◌, ◌≤◌, ◌<◌}
use Rattle.fips197.proofs.Kit.{refl, sym, ap, ap₂, ◌∙◌, true, List, [], append_assoc, ℕ, zero, suc, add-one, arith, eqb, leb, length, get_or, get_or-drop, take, drop, length-append, length-take, length-drop, take-append-drop, take-add, drop-cons, take-take, take_at, drop_at, drop-drop, take-nil, leb-true, eqb-true, eq-eqb, ltb-true, lt-ltb}
use Rattle.blocks.specs.Block.{Bytes, same}
use Rattle.blocks.specs.Number.{number, big_endian}
use Rattle.cipher.specs.Cmac.{cmac}
use Rattle.blocks.proofs.Xor.{same_true, same_eq, take-bytes, drop-bytes}
use Rattle.blocks.proofs.Numbers.{big_endian-length, big_endian-number, number-big_endian}
use Rattle.cipher.proofs.Laws.{cmac-length}
use Rattle.incidence.specs.Count.{inside}
use Rattle.incidence.proofs.Counting.{inside-high}
use Rattle.sizes.specs.Sizes.{known, family_of}
use Rattle.sizes.proofs.Laws.{items_few}
use Rattle.files.specs.declared.tagfile.Head.{Head}
use Rattle.files.specs.Refusals.{none}
use Rattle.files.specs.Message.{number16}
use Rattle.stamp.specs.Front.{front, front_size, stamp_fits, version_of, stamp_of, begins_as}
use Rattle.stamp.proofs.Fronts.{front_is, number_fits, front_length, letters_back, version_back, stamp_back, begins_as_so, begins_as_yes}
use Rattle.files.specs.TagFile.{tag_letters, newest_tag_file, header, tags_at, body, sealed, file_size, code_of, count_of, head_of, tags_in, body_of, mac_of, count_fits, refuse6, refuse20, Formed, Written}
use Rattle.incidence.proofs.Booleans.{and_left, and_right, and_both}
use Rattle.files.proofs.Passing.{unless_true, unless-passes, Plain, plain_unless}
use Rattle.files.proofs.TagFiles.{header-length}

-- what is behind k elements of the first n
drop-take : (k n : ℕ) (l : List ℕ) → drop k (take n l) ≡ take (n - k) (drop k l)
drop-take zero n l = let e : n ≡ n - 0 = omega arith in ap (λ (m : ℕ). take m l) e
drop-take (suc k) zero l = let e : 0 ≡ 0 - suc k = omega arith in ap (λ (m : ℕ). take m (drop (suc k) l)) e
drop-take (suc k) (suc n) [] = sym (take-nil (suc n - suc k))
drop-take (suc k) (suc n) (x ∷ l) = let e : n - k ≡ suc n - suc k = omega arith in drop-take k n l ∙ ap (λ (m : ℕ). take m (drop k l)) e

-- ---- accepted, so laid out and sealed

pub formed : (s : List ℕ) → (refuse6 s).number ≡ 0 → Formed s
unfolding refuse6
formed s h =
    let a = begins_as tag_letters newest_tag_file (tags_at (version_of s) + 16) s in
    let c = count_fits (code_of s) (count_of s) in
    let d = eqb (length s) (file_size (head_of s)) in
    let t = unless-passes (a && (c && d)) 6 0 (omega arith) h in
    let B = begins_as_so tag_letters newest_tag_file s (tags_at (version_of s) + 16) (and_left a (c && d) t) in
    let r = and_right a (c && d) t in
    record {
      long = B.long;
      letters = B.letters_are;
      version = B.version;
      fits = and_left c d r;
      size = eqb-true (length s) (file_size (head_of s)) (and_right c d r);
    }

module _ (s : List ℕ) (h : Bytes s) (F : Formed s) where
  -- all before the tags
  head_is : take (tags_at (version_of s)) s ≡ header (head_of s)
  unfolding header head_of code_of count_of number16 tags_at
  head_is =
      let l = F.long in
      let at = front_size (version_of s) in
      let two : length (take 2 (drop (at + 1) s)) ≡ 2 = simp (length-take, length-drop) (omega arith) in
      let n = big_endian-number (take 2 (drop (at + 1) s)) (take-bytes 2 (drop (at + 1) s) (drop-bytes (at + 1) s h)) in
      take-add at 3 s
      ∙ ap₂ ◌++◌ (front_is s h (omega arith) ∙ ap (λ (t : List ℕ). front t (stamp_of s)) F.letters)
      (ap (take 3) (drop-cons s at 0 (omega arith)) ∙ ap (λ (k : ℕ). get_or s at 0 ∷ take 2 (drop k s)) (sym (add-one at))
      ∙ ap (λ (t : List ℕ). get_or s at 0 ∷ t) (sym n ∙ ap (λ (k : ℕ). big_endian k (number (take 2 (drop (at + 1) s)))) two))

  -- all before the MAC
  whole-body : body_of s ≡ body (head_of s) (tags_in s)
  unfolding body_of body tags_in
  whole-body =
      let l = F.long in
      let at = tags_at (version_of s) in
      let e : length s - 16 - at ≡ length s - (at + 16) = omega arith in
      sym (take-append-drop at (take (length s - 16) s))
      ∙ ap₂ ◌++◌ (take-take at (length s - 16) s (omega arith) ∙ head_is)
      (drop-take at (length s - 16) s ∙ ap (λ (k : ℕ). take k (drop at s)) e)

  pub accepted_written : (key : List ℕ) → (refuse20 key s).number ≡ 0 → Written key s
  unfolding refuse20 sealed mac_of body_of tags_in file_size head_of stamp_fits stamp_of tags_at
  accepted_written key q =
      let l = F.long in
      let z = F.size in
      let m = same_true (mac_of s) (cmac key (body_of s)) (unless-passes (same (mac_of s) (cmac key (body_of s))) 20 0 (omega arith) q) in
      record {
        head = head_of s;
        tags = tags_in s;
        stamped = and_both F.version (lt-ltb _ _ (number_fits s h (omega arith)));
        fits = F.fits;
        long = simp (length-take, length-drop) (omega arith);
        bytes = take-bytes (length s - (tags_at (version_of s) + 16)) (drop (tags_at (version_of s)) s) (drop-bytes (tags_at (version_of s)) s h);
        so = sym (take-append-drop (length s - 16) s) ∙ ap₂ ◌++◌ whole-body (m ∙ ap (cmac key) whole-body);
      }

-- ---- laid out and sealed, so accepted

module _ (key : List ℕ) (h : Head) (tags : List ℕ) (stamped : stamp_fits newest_tag_file h.stamp ≡ true) where
  abbrev file : List ℕ
  file = sealed key (body h tags)

  abbrev v : ℕ
  v = h.stamp.version

  -- what is behind letters, version and number
  rest : List ℕ
  rest = h.code ∷ (big_endian 2 h.count ++ (tags ++ cmac key (body h tags)))

  file_parts : file ≡ front tag_letters h.stamp ++ rest
  unfolding sealed body header rest
  file_parts = simp append_assoc

  -- the version is read back first, since the places of all else rest on it
  small : v < 65536
  unfolding stamp_fits newest_tag_file
  small = let l = inside-high newest_tag_file v (and_left (inside newest_tag_file v) _ stamped) in omega arith

  file-version : version_of file ≡ v
  unfolding tag_letters
  file-version = ap version_of file_parts ∙ version_back tag_letters h.stamp rest refl small

  pub stamp_is : stamp_of (sealed key (body h tags)) ≡ h.stamp
  unfolding tag_letters stamp_fits
  stamp_is =
      ap stamp_of file_parts
      ∙ stamp_back tag_letters h.stamp rest refl small (ltb-true _ _ (and_right (inside newest_tag_file v) _ stamped))

  file-rest : drop (front_size v) file ≡ rest
  unfolding tag_letters
  file-rest = ap (drop (front_size v)) file_parts ∙ drop_at (front tag_letters h.stamp) rest (front_size v) (front_length tag_letters h.stamp refl)

  pub code_is : code_of (sealed key (body h tags)) ≡ h.code
  unfolding code_of rest
  code_is =
      let e : front_size v + 0 ≡ front_size v = omega arith in
      ap (λ (k : ℕ). get_or file (front_size k) 0) file-version ∙ ap (λ (k : ℕ). get_or file k 0) (sym e) ∙ sym (get_or-drop (front_size v) file 0 0)
      ∙ ap (λ (t : List ℕ). get_or t 0 0) file-rest

module _ (key : List ℕ) (hk : length key ≡ 16) (h : Head) (tags : List ℕ) (stamped : stamp_fits newest_tag_file h.stamp ≡ true)
    (fit : count_fits h.code h.count ≡ true) (long : length tags ≡ 16 * (family_of h.code).tags) where
  abbrev f : List ℕ
  f = sealed key (body h tags)

  abbrev w : ℕ
  w = h.stamp.version

  body-length : length (body h tags) ≡ tags_at w + 16 * (family_of h.code).tags
  unfolding body
  body-length = length-append (header h) tags ∙ ap₂ ◌+◌ (header-length h) long

  file-length : length f ≡ file_size h
  unfolding sealed file_size
  file-length =
      let b = body-length in
      let m = cmac-length key hk (body h tags) in
      length-append (body h tags) (cmac key (body h tags)) ∙ omega arith

  -- what was laid out is read back
  count_is : count_of f ≡ h.count
  unfolding count_of number16 rest count_fits
  count_is =
      let n = h.count in
      let m = (family_of h.code).items in
      let u : n ≤ m = leb-true n m (and_right (leb 1 n) (leb n m) (and_right (known h.code) (leb 1 n && leb n m) fit)) in
      let l = items_few h.code in
      ap (λ (k : ℕ). number (take 2 (drop (front_size k + 1) f))) (file-version key h tags stamped)
      ∙ ap (λ (t : List ℕ). number (take 2 t)) (sym (drop-drop 1 (front_size w) f) ∙ ap (drop 1) (file-rest key h tags stamped))
      ∙ ap number (take_at (big_endian 2 n) (tags ++ cmac key (body h tags)) 2 (big_endian-length 2 n))
      ∙ number-big_endian 2 n (omega arith)

  pub head_back : head_of (sealed key (body h tags)) ≡ h
  unfolding head_of
  head_back = λ i. record { stamp = stamp_is key h tags stamped i; code = code_is key h tags stamped i; count = count_is i }

  pub tags_back : tags_in (sealed key (body h tags)) ≡ tags
  unfolding tags_in sealed body file_size
  tags_back =
      let e : length f - (tags_at w + 16) ≡ 16 * (family_of h.code).tags = omega (arith, file-length) in
      ap (λ (k : ℕ). take (length f - (tags_at k + 16)) (drop (tags_at k) f)) (file-version key h tags stamped)
      ∙ ap₂ (λ (k : ℕ) (t : List ℕ). take k t) e
      (ap (drop (tags_at w)) (append_assoc (header h) tags (cmac key (body h tags))) ∙ drop_at (header h) (tags ++ cmac key (body h tags)) (tags_at w) (header-length h))
      ∙ take_at tags (cmac key (body h tags)) (16 * (family_of h.code).tags) long

  file_formed : refuse6 f ≡ none
  unfolding refuse6 file_size stamp_fits tag_letters
  file_formed =
      let e = file-version key h tags stamped in
      let l : tags_at (version_of f) + 16 ≤ length f = omega (arith, file-length, ap tags_at e) in
      unless_true _ 6 0
      (and_both (begins_as_yes tag_letters newest_tag_file f (tags_at (version_of f) + 16) l (ap (take 3) (file_parts key h tags stamped) ∙ letters_back tag_letters h.stamp (rest key h tags stamped) refl)
      ∙ ap (inside newest_tag_file) e ∙ and_left (inside newest_tag_file w) _ stamped)
      (and_both (ap₂ count_fits (code_is key h tags stamped) count_is ∙ fit) (eq-eqb (length f) (file_size (head_of f)) (file-length ∙ ap file_size (sym head_back)))))

  file-sealed : refuse20 key f ≡ none
  unfolding refuse20 sealed mac_of body_of file_size
  file-sealed =
      let b = body-length in
      let e = file-length in
      let k : length (body h tags) ≡ length f - 16 = omega arith in
      unless_true _ 20 0
      (same_eq (mac_of f) (cmac key (body_of f))
      (drop_at (body h tags) (cmac key (body h tags)) (length f - 16) k
      ∙ ap (cmac key) (sym (take_at (body h tags) (cmac key (body h tags)) (length f - 16) k))))

pub written_accepted : (key s : List ℕ) → length key ≡ 16 → Written key s
    → (refuse6 s ≡ none) × (refuse20 key s ≡ none)
written_accepted key s hk W = (
  ap refuse6 W.so ∙ file_formed key hk W.head W.tags W.stamped W.fits W.long,
  ap (refuse20 key) W.so ∙ file-sealed key hk W.head W.tags W.stamped W.fits W.long,
)

-- ---- what passes is none

pub plain6 : (s : List ℕ) → Plain (refuse6 s)
unfolding refuse6
plain6 s =
    plain_unless (begins_as tag_letters newest_tag_file (tags_at (version_of s) + 16) s && (count_fits (code_of s) (count_of s) && eqb (length s) (file_size (head_of s)))) 6 0 (omega arith)

pub plain20 : (key s : List ℕ) → Plain (refuse20 key s)
unfolding refuse20
plain20 key s = plain_unless (same (mac_of s) (cmac key (body_of s))) 20 0 (omega arith)
