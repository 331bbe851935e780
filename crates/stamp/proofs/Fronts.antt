-- Letters, version and number: what is laid out is read back, and what is read is what was laid out.
use Rattle.std.specs.Prelude.{◌≡◌, ◌&&◌, ◌∷◌, ◌++◌, ◌+◌, ◌^◌, ◌≤◌, ◌<◌, if◌then◌else◌}
use Rattle.fips197.proofs.Kit.{refl, sym, ap, ap₂, ◌∙◌, subst, Bool, true, false, List, [], append_assoc, append-nil, ℕ, suc, add-one, arith, eqb, eqb-true, eqb-false, leb, leb-true, le-leb, lt-leb, length, get_or, take, drop, drop-cons, length-append, length-take, length-drop, take-add, take_at, drop_at, drop-drop, eq-eqb, ne_eqb, ltb-true}
use Rattle.blocks.specs.Block.{Bytes, same}
use Rattle.blocks.specs.Number.{number_of, number, big_endian}
use Rattle.incidence.specs.Count.{inside}
use Rattle.incidence.proofs.Booleans.{and_left, and_right, and_false_l, and_false_r}
use Rattle.blocks.proofs.Xor.{same_true, same_eq, take-bytes, drop-bytes}
use Rattle.blocks.proofs.Loop.{front_kept, put_behind}
use Rattle.blocks.proofs.Numbers.{big_endian-length, number-big_endian, big_endian-number, number_below}
use Rattle.stamp.specs.declared.Stamp.{Stamp}
use Rattle.stamp.specs.Front.{number_size, front, front_size, stamp_fits, version_of, stamp_of, begins_as}

-- ---- sizes

pub size-first : (v : ℕ) → v ≡ 1 → number_size v ≡ 0
unfolding number_size
size-first v e = ap (λ (t : Bool). if t then 0 else 4) (eq-eqb v 1 e)

pub size_later : (v : ℕ) → (v ≡ 1 → ⊥) → number_size v ≡ 4
unfolding number_size
size_later v e = ap (λ (t : Bool). if t then 0 else 4) (ne_eqb v 1 e)

pub size-most : (v : ℕ) → number_size v ≤ 4
unfolding number_size
size-most v = go (eqb v 1)
  where
    go : (t : Bool) → (if t then 0 else 4) ≤ 4
    go true = omega arith
    go false = omega arith

pub front_low : (v : ℕ) → 5 ≤ front_size v
unfolding front_size
front_low v = omega arith

pub front-most : (v : ℕ) → front_size v ≤ 9
unfolding front_size
front-most v = omega (arith, size-most v)

pub front_length : (letters : List ℕ) (st : Stamp) → length letters ≡ 3 → length (front letters st) ≡ front_size st.version
unfolding front front_size
front_length letters st h =
    let a = big_endian-length 2 st.version in
    let b = big_endian-length (number_size st.version) st.number in
    simp length-append (omega arith)

-- ---- version 1

-- "Version 1 counts as number 0": what is read of such a file,
pub first-counts : (s : List ℕ) → version_of s ≡ 1 → (stamp_of s).number ≡ 0
unfolding stamp_of number number_of
first-counts s e = ap (λ (k : ℕ). number (take k (drop 5 s))) (size-first (version_of s) e)

-- and what a file can be written for.
pub first_fits : (newest : ℕ) (st : Stamp) → stamp_fits newest st ≡ true → st.version ≡ 1 → st.number ≡ 0
unfolding stamp_fits
first_fits newest st h e =
    let l = ltb-true _ _ (and_right (inside newest st.version) _ h) in
    let u = subst (λ (k : ℕ). st.number < 256 ^ k) (size-first st.version e) l in
    omega arith

-- ---- as the code reads and writes them

-- two bytes at a place, and four
pub two_at : (s : List ℕ) (at : ℕ) → at + 2 ≤ length s → get_or s at 0 ∷ get_or s (at + 1) 0 ∷ [] ≡ take 2 (drop at s)
two_at s at h =
    ap (λ (k : ℕ). get_or s at 0 ∷ get_or s k 0 ∷ []) (add-one at)
    ∙ sym (ap (take 2) (drop-cons s at 0 (omega arith) ∙ ap (λ (t : List ℕ). get_or s at 0 ∷ t) (drop-cons s (suc at) 0 (omega arith))))

pub four_at : (s : List ℕ) (at : ℕ) → at + 4 ≤ length s → get_or s at 0 ∷ get_or s (at + 1) 0 ∷ get_or s (at + 2) 0 ∷ get_or s (at + 3) 0 ∷ [] ≡ take 4 (drop at s)
four_at s at h =
    let e : at + 3 ≡ at + 2 + 1 = omega arith in
    ap (λ (k : ℕ). get_or s at 0 ∷ get_or s (at + 1) 0 ∷ get_or s (at + 2) 0 ∷ get_or s k 0 ∷ []) e
    ∙ ap₂ ◌++◌ (two_at s at (omega arith)) (two_at s (at + 2) (omega arith))
    ∙ sym (take-add 2 2 (drop at s) ∙ ap (λ (t : List ℕ). take 2 (drop at s) ++ take 2 t) (drop-drop 2 at s))

-- without a number, and with one
module _ (letters : List ℕ) (h : length letters ≡ 3) (st : Stamp) (o o1 : List ℕ) (e1 : o1 ≡ (letters ++ big_endian 2 st.version) ++ drop 5 o) where
  five : length (letters ++ big_endian 2 st.version) ≡ 5
  five = let a = big_endian-length 2 st.version in simp length-append (omega arith)

  pub put_length : 5 ≤ length o → length o1 ≡ length o
  put_length l = front_kept (letters ++ big_endian 2 st.version) o o1 5 five l e1

  pub front-first : st.version ≡ 1 → o1 ≡ front letters st ++ drop (front_size st.version) o
  unfolding front front_size big_endian
  front-first e =
      e1
      ∙ ap (λ (t : List ℕ). t ++ drop 5 o) (sym (append-nil (letters ++ big_endian 2 st.version)) ∙ append_assoc letters (big_endian 2 st.version) [])
      ∙ ap (λ (k : ℕ). (letters ++ (big_endian 2 st.version ++ big_endian k st.number)) ++ drop (5 + k) o) (sym (size-first st.version e))

  pub front_later : (st.version ≡ 1 → ⊥) → (o2 : List ℕ) → o2 ≡ take 5 o1 ++ (big_endian 4 st.number ++ drop 9 o1)
      → o2 ≡ front letters st ++ drop (front_size st.version) o
  unfolding front front_size
  front_later e o2 e2 =
      put_behind (letters ++ big_endian 2 st.version) (big_endian 4 st.number) o o1 o2 5 4 five e1 e2
      ∙ ap (λ (t : List ℕ). t ++ drop 9 o) (append_assoc letters (big_endian 2 st.version) (big_endian 4 st.number))
      ∙ ap (λ (k : ℕ). (letters ++ (big_endian 2 st.version ++ big_endian k st.number)) ++ drop (5 + k) o) (sym (size_later st.version e))

-- ---- laid out, so read back

module _ (letters : List ℕ) (st : Stamp) (rest : List ℕ) (h : length letters ≡ 3) where
  n : List ℕ
  n = big_endian (number_size st.version) st.number

  parts : front letters st ++ rest ≡ letters ++ (big_endian 2 st.version ++ (n ++ rest))
  unfolding front n
  parts = simp append_assoc

  pub letters_back : take 3 (front letters st ++ rest) ≡ letters
  letters_back = ap (take 3) parts ∙ take_at letters _ 3 h

  pub version_back : st.version < 65536 → version_of (front letters st ++ rest) ≡ st.version
  unfolding version_of
  version_back l =
      ap (λ (t : List ℕ). number (take 2 (drop 3 t))) parts
      ∙ ap (λ (t : List ℕ). number (take 2 t)) (drop_at letters _ 3 h)
      ∙ ap number (take_at (big_endian 2 st.version) _ 2 (big_endian-length 2 st.version))
      ∙ number-big_endian 2 st.version l

  pub stamp_back : st.version < 65536 → st.number < 256 ^ number_size st.version → stamp_of (front letters st ++ rest) ≡ st
  unfolding stamp_of n
  stamp_back l u =
      let v = version_back l in
      let a = big_endian-length 2 st.version in
      let five : length (letters ++ big_endian 2 st.version) ≡ 5 = simp length-append (omega arith) in
      let behind = ap (drop 5) (parts ∙ sym (append_assoc letters (big_endian 2 st.version) (n ++ rest))) ∙ drop_at (letters ++ big_endian 2 st.version) (n ++ rest) 5 five in
      let k : number (take (number_size (version_of (front letters st ++ rest))) (drop 5 (front letters st ++ rest))) ≡ st.number =
      ap₂ (λ (m : ℕ) (t : List ℕ). number (take (number_size m) t)) v behind
      ∙ ap number (take_at n rest (number_size st.version) (big_endian-length (number_size st.version) st.number))
      ∙ number-big_endian (number_size st.version) st.number u in
      λ i. record { version = v i; number = k i }

-- ---- read, so laid out

module _ (s : List ℕ) (h : Bytes s) (l : front_size (version_of s) ≤ length s) where
  bytes-at : (at k : ℕ) → at + k ≤ length s → take k (drop at s) ≡ big_endian k (number (take k (drop at s)))
  bytes-at at k u =
      let z : length (take k (drop at s)) ≡ k = simp (length-take, length-drop) (omega arith) in
      sym (big_endian-number (take k (drop at s)) (take-bytes k (drop at s) (drop-bytes at s h)))
      ∙ ap (λ (m : ℕ). big_endian m (number (take k (drop at s)))) z

  pub front_is : take (front_size (version_of s)) s ≡ front (take 3 s) (stamp_of s)
  unfolding front_size front stamp_of version_of
  front_is =
      let z = number_size (version_of s) in
      take-add 5 z s
      ∙ ap₂ ◌++◌ (take-add 3 2 s ∙ ap (λ (t : List ℕ). take 3 s ++ t) (bytes-at 3 2 (omega arith))) (bytes-at 5 z (omega arith))
      ∙ append_assoc (take 3 s) _ _

  -- the number is one that its bytes hold
  pub number_fits : (stamp_of s).number < 256 ^ number_size (version_of s)
  unfolding stamp_of front_size
  number_fits =
      let z = number_size (version_of s) in
      number_below (take z (drop 5 s)) (take-bytes z (drop 5 s) (drop-bytes 5 s h)) z (simp (length-take, length-drop) (omega arith))

  -- and has 4 bytes at most
  pub number_small : (stamp_of s).number < 4294967296
  number_small = go (eqb (version_of s) 1) refl
    where
      go : (t : Bool) → eqb (version_of s) 1 ≡ t → (stamp_of s).number < 4294967296
      go true e = let n = subst (λ (k : ℕ). (stamp_of s).number < 256 ^ k) (size-first (version_of s) (eqb-true _ _ e)) number_fits in omega arith
      go false e = subst (λ (k : ℕ). (stamp_of s).number < 256 ^ k) (size_later (version_of s) (eqb-false _ _ e)) number_fits

-- ---- a file begins so

pub different : (t : Bool) (a b : List ℕ) → (a ≡ b → t ≡ true) → t ≡ false → same a b ≡ false
different t a b f e = go (same a b) refl
  where
    go : (u : Bool) → same a b ≡ u → same a b ≡ false
    go true p = let q : t ≡ true = f (same_true a b p) in absurd (let z : ◌≡◌ {A = ℕ} 0 1 = cc in omega arith)
    go false p = p

module _ (letters : List ℕ) (newest : ℕ) (s : List ℕ) where
  pub record BeginsAs (least : ℕ) : Type 0 where
    pub long : least ≤ length s
    pub letters_are : take 3 s ≡ letters
    pub version : inside newest (version_of s) ≡ true

  pub begins_as_so : (least : ℕ) → begins_as letters newest least s ≡ true → BeginsAs least
  unfolding begins_as
  begins_as_so least h =
      let a = leb least (length s) in
      let b = same (take 3 s) letters in
      let l = and_left (a && b) (inside newest (version_of s)) h in
      record {
        long = leb-true least (length s) (and_left a b l);
        letters_are = same_true (take 3 s) letters (and_right a b l);
        version = and_right (a && b) (inside newest (version_of s)) h;
      }

  pub begins_as_yes : (least : ℕ) → least ≤ length s → take 3 s ≡ letters → begins_as letters newest least s ≡ inside newest (version_of s)
  unfolding begins_as
  begins_as_yes least l e =
      ap₂ (λ (a b : Bool). (a && b) && inside newest (version_of s)) (le-leb least (length s) l) (same_eq (take 3 s) letters e)

  pub begins_as_short : (least : ℕ) → length s < least → begins_as letters newest least s ≡ false
  unfolding begins_as
  begins_as_short least l = ap (λ (a : Bool). (a && same (take 3 s) letters) && inside newest (version_of s)) (lt-leb least (length s) l)

  pub begins_as_other : (least : ℕ) (t : Bool) → (take 3 s ≡ letters → t ≡ true) → t ≡ false → begins_as letters newest least s ≡ false
  unfolding begins_as
  begins_as_other least t f e =
      ap (λ (b : Bool). (leb least (length s) && b) && inside newest (version_of s)) (different t (take 3 s) letters f e)
      ∙ and_false_l _ (inside newest (version_of s)) (and_false_r (leb least (length s)) false refl)
