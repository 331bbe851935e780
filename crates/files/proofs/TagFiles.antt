-- The tag file: what each check of the code settles, and that what is accepted is what the writer lays out and seals.
use Rattle.std.specs.Prelude.{◌≡◌, ◌&&◌, ◌∷◌, ◌++◌, ◌+◌, ◌-◌, ◌≤◌}
use Rattle.fips197.proofs.Kit.{refl, sym, ap, ap₂, ◌∙◌, Bool, true, false, List, ℕ, arith, length, take, drop, length-append, length-drop, take_all}
use Rattle.blocks.specs.Block.{same}
use Rattle.blocks.specs.Number.{big_endian}
use Rattle.cipher.specs.Cmac.{cmac}
use Rattle.files.specs.Refusals.{unless}
use Rattle.blocks.proofs.Loop.{front_kept, put_behind}
use Rattle.blocks.proofs.Numbers.{big_endian-length}
use Rattle.stamp.specs.Front.{front, front_size}
use Rattle.stamp.proofs.Fronts.{front_length}
use Rattle.files.specs.declared.tagfile.Head.{Head}
use Rattle.files.specs.TagFile.{tag_letters, header, tags_at, mac_of, body_of, refuse20}
use Rattle.incidence.proofs.Booleans.{and_false_l}

-- ---- the bytes before the tags

pub header-length : (h : Head) → length (header h) ≡ tags_at h.stamp.version
unfolding header tags_at tag_letters
header-length h =
    let a = front_length tag_letters h.stamp refl in
    let b = big_endian-length 2 h.count in
    length-append (front tag_letters h.stamp) (h.code ∷ big_endian 2 h.count) ∙ omega arith

module _ (h : Head) (o o1 : List ℕ) (e1 : o1 ≡ front tag_letters h.stamp ++ drop (front_size h.stamp.version) o) where
  front_long : length (front tag_letters h.stamp) ≡ front_size h.stamp.version
  unfolding tag_letters
  front_long = front_length tag_letters h.stamp refl

  pub front_put : front_size h.stamp.version ≤ length o → length o1 ≡ length o
  front_put l = front_kept (front tag_letters h.stamp) o o1 (front_size h.stamp.version) front_long l e1

  pub header_put : (o2 : List ℕ)
      → o2 ≡ take (front_size h.stamp.version) o1 ++ ((h.code ∷ big_endian 2 h.count) ++ drop (front_size h.stamp.version + 3) o1)
      → o2 ≡ header h ++ drop (tags_at h.stamp.version) o
  unfolding header tags_at
  header_put o2 e2 = put_behind (front tag_letters h.stamp) (h.code ∷ big_endian 2 h.count) o o1 o2 (front_size h.stamp.version) 3 front_long e1 e2

-- ---- what is tested of the size code, the count and the length

pub both_left : (a b t : Bool) → a ≡ t → t ≡ false → t ≡ (a && b)
both_left a b t e h = h ∙ sym (and_false_l a b (e ∙ h))

pub both_right : (a b t : Bool) → a ≡ t → t ≡ true → b ≡ (a && b)
both_right a b t e h = sym (ap (λ (x : Bool). x && b) (e ∙ h))

-- ---- 20

module _ (key s mac a b : List ℕ) (end : ℕ) (t : Bool) (ee : end ≡ length s - 16) (eb : b ≡ take (end - 0) s) (em : mac ≡ cmac key b)
    (ea : a ≡ take 16 (drop end s)) (long : 16 ≤ length s) (et : t ≡ same a mac) where
  compared : t ≡ same (mac_of s) (cmac key (body_of s))
  unfolding mac_of body_of
  compared =
      let z : end - 0 ≡ length s - 16 = omega arith in
      et ∙ ap₂ same
      (ea ∙ ap (λ (n : ℕ). take 16 (drop n s)) ee ∙ take_all 16 (drop (length s - 16) s) (simp length-drop (omega arith)))
      (em ∙ ap (cmac key) (eb ∙ ap (λ (n : ℕ). take n s) z))

  pub mac_is : unless t 20 0 ≡ refuse20 key s
  unfolding refuse20
  mac_is = ap (λ (x : Bool). unless x 20 0) compared
