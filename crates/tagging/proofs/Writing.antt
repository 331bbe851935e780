-- Header, tags and MAC written one behind the other are the tag file.
use Rattle.std.specs.Prelude.{◌≡◌, ◌++◌, ◌+◌, ◌-◌, ◌*◌, ◌≤◌}
use Rattle.fips197.proofs.Kit.{sym, ap, ap₂, ◌∙◌, List, ℕ, suc, arith, length, take, drop, length-append, length-take, length-drop, take_at}
use Rattle.blocks.specs.Block.{slot, list_of}
use Rattle.cipher.specs.Aes.{encipher}
use Rattle.cipher.specs.Cmac.{cmac}
use Rattle.blocks.proofs.Loop.{front_kept, put_behind}
use Rattle.blocks.proofs.Slots.{list_of-length, list_of_ext}
use Rattle.cipher.proofs.Laws.{cmac-length}
use Rattle.sizes.specs.Sizes.{family_of}
use Rattle.files.specs.declared.tagfile.Head.{Head}
use Rattle.files.specs.TagFile.{header, tags_at, body, sealed, file_size}
use Rattle.files.proofs.TagFiles.{header-length}
use Rattle.keyed.specs.Keyed.{tag_of, tags_by}
use Rattle.keyed.proofs.KeyedLaws.{tag_of-length}
use Rattle.sums.specs.Adding.{sum_in}
use Rattle.tagging.specs.declared.Keys.{Keys}
use Rattle.tagging.specs.Tagging.{file_of}

pub tags-length : (key s : List ℕ) (t : ℕ) → length key ≡ 16 → length (tags_by (encipher key) s t) ≡ 16 * t
unfolding tags_by tag_of
tags-length key s t h = list_of-length (λ k. tag_of key (suc k) (slot s k)) t (λ k l. tag_of-length key h k (slot s k))

pub file-size : (h : Head) (at t : ℕ) → at ≡ tags_at h.stamp.version → t ≡ (family_of h.code).tags → file_size h ≡ at + 16 * t + 16
unfolding file_size
file-size h at t ea et = omega arith

-- what is written in its place leaves the length
pub headed_length : (h : Head) (o o1 : List ℕ) → tags_at h.stamp.version ≤ length o → o1 ≡ header h ++ drop (tags_at h.stamp.version) o → length o1 ≡ length o
headed_length h o o1 l e = front_kept (header h) o o1 (tags_at h.stamp.version) (header-length h) l e

pub back_length : (xs ys new : List ℕ) (a n : ℕ) → a + n ≤ length xs → length new ≡ n → ys ≡ take a xs ++ (new ++ drop (a + n) xs) → length ys ≡ length xs
back_length xs ys new a n h l e = ap length e ∙ simp (length-append, length-take, length-drop) (omega arith)

module _ (keys : Keys) (h : Head) (at t : ℕ) (sums o o1 o2 o3 : List ℕ) (hk : length keys.tag ≡ 16) (ea : at ≡ tags_at h.stamp.version) (et : t ≡ (family_of h.code).tags)
    (e1 : o1 ≡ header h ++ drop (tags_at h.stamp.version) o)
    (e2 : o2 ≡ take at o1 ++ (tags_by (encipher keys.tag) sums t ++ drop (at + 16 * t) o1))
    (e3 : o3 ≡ take (at + 16 * t) o2 ++ (cmac keys.seal (take (at + 16 * t) o2) ++ drop (at + 16 * t + 16) o2)) where
  head_at : o1 ≡ header h ++ drop at o
  head_at = e1 ∙ ap (λ (k : ℕ). header h ++ drop k o) (sym ea)

  long : length (header h) ≡ at
  long = header-length h ∙ sym ea

  two : o2 ≡ (header h ++ tags_by (encipher keys.tag) sums t) ++ drop (at + 16 * t) o
  two = put_behind (header h) (tags_by (encipher keys.tag) sums t) o o1 o2 at (16 * t) long head_at e2

  whole : length (header h ++ tags_by (encipher keys.tag) sums t) ≡ at + 16 * t
  whole = length-append (header h) (tags_by (encipher keys.tag) sums t) ∙ ap₂ ◌+◌ long (tags-length keys.tag sums t hk)

  tags_are : tags_by (encipher keys.tag) sums t ≡ list_of (λ k. tag_of keys.tag (suc k) (sum_in sums (suc k))) (family_of h.code).tags
  unfolding tags_by tag_of sum_in
  tags_are =
      ap (list_of (λ k. tag_of keys.tag (suc k) (slot sums k))) et
      ∙ list_of_ext _ _ (family_of h.code).tags (λ k l. let z : k ≡ suc k - 1 = omega arith in ap (λ (m : ℕ). tag_of keys.tag (suc k) (slot sums m)) z)

  pub file_written : o3 ≡ file_of keys h (sum_in sums) ++ drop (file_size h) o
  unfolding file_of sealed body
  file_written =
      let b = header h ++ tags_by (encipher keys.tag) sums t in
      let f = ap (take (at + 16 * t)) two ∙ take_at b (drop (at + 16 * t) o) (at + 16 * t) whole in
      put_behind b (cmac keys.seal (take (at + 16 * t) o2)) o o2 o3 (at + 16 * t) 16 whole two e3
      ∙ ap₂ (λ (p : List ℕ) (n : ℕ). (b ++ cmac keys.seal p) ++ drop n o) f (sym (file-size h at t ea et))
      ∙ ap (λ (s : List ℕ). ((header h ++ s) ++ cmac keys.seal (header h ++ s)) ++ drop (file_size h) o) tags_are

-- ---- files of equal sums

pub file-same : (keys : Keys) (h : Head) (a b : ℕ → List ℕ) → ((k : ℕ) → 1 ≤ k → k ≤ (family_of h.code).tags → a k ≡ b k) → file_of keys h a ≡ file_of keys h b
unfolding file_of
file-same keys h a b e =
    ap (λ (t : List ℕ). sealed keys.seal (body h t))
    (list_of_ext _ _ (family_of h.code).tags (λ k l. ap (tag_of keys.tag (suc k)) (e (suc k) (omega arith) (omega arith))))

pub file-length : (keys : Keys) (h : Head) (sum : ℕ → List ℕ) → length keys.tag ≡ 16 → length keys.seal ≡ 16 → length (file_of keys h sum) ≡ file_size h
unfolding file_of sealed body file_size
file-length keys h sum ht hs =
    let tags = list_of (λ k. tag_of keys.tag (suc k) (sum (suc k))) (family_of h.code).tags in
    let t = list_of-length (λ k. tag_of keys.tag (suc k) (sum (suc k))) (family_of h.code).tags (λ k l. tag_of-length keys.tag ht k (sum (suc k))) in
    let e = header-length h in
    let b = length-append (header h) tags in
    let m = cmac-length keys.seal hs (body h tags) in
    length-append (body h tags) (cmac keys.seal (body h tags)) ∙ omega (arith, t, e, b, m)
