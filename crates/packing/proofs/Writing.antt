-- Bytes put into a buffer: an item with its length behind a file whose count is raised, and the file without items.
use Rattle.std.specs.Prelude.{◌≡◌, ◌++◌, ◌+◌, ◌≤◌}
use Rattle.fips197.proofs.Kit.{sym, ap, ap₂, ◌∙◌, List, [], append_assoc, append-nil, ℕ, arith, length, take, drop, length-append, length-drop, take-append-drop, take_at, drop_at, take-append-le, drop-append-le, drop-drop, length-take-le}
use Rattle.blocks.specs.Number.{number, big_endian}
use Rattle.blocks.proofs.Loop.{front_kept, put_behind}
use Rattle.blocks.proofs.Numbers.{big_endian-length}
use Rattle.stamp.specs.declared.Stamp.{Stamp}
use Rattle.stamp.specs.Front.{front, front_size, version_of}
use Rattle.stamp.proofs.Fronts.{front_low}
use Rattle.files.specs.Message.{number16, message_letters, items_at, item_count}
use Rattle.packing.specs.Packing.{field, fields, message_of, appended}
use Rattle.packing.proofs.Packed.{letters-long}

-- ---- a part replaced

-- what stands between x and z is replaced
pub replaced : (x y z new : List ℕ) (at : ℕ) → length x ≡ at → length y ≡ length new
    → take at (x ++ (y ++ z)) ++ (new ++ drop (at + length new) (x ++ (y ++ z))) ≡ x ++ (new ++ z)
replaced x y z new at h k =
    ap₂ (λ (a b : List ℕ). a ++ (new ++ b)) (take_at x (y ++ z) at h)
    (sym (drop-drop (length new) at (x ++ (y ++ z))) ∙ ap (drop (length new)) (drop_at x (y ++ z) at h) ∙ drop_at y z (length new) k)

-- ---- an item behind a file

-- a number in the front of a longer list
pub number16-front : (s t : List ℕ) (at : ℕ) → at + 2 ≤ length s → number16 (s ++ t) at ≡ number16 s at
unfolding number16
number16-front s t at h =
    ap (λ (l : List ℕ). number (take 2 l)) (drop-append-le at s t (omega arith))
    ∙ ap number (take-append-le 2 (drop at s) t (simp length-drop (omega arith)))

-- a list from a place on, in two parts
parted : (a b : ℕ) (l : List ℕ) → drop a l ≡ take b (drop a l) ++ drop (a + b) l
parted a b l = sym (take-append-drop b (drop a l)) ∙ ap (λ (t : List ℕ). take b (drop a l) ++ t) (drop-drop b a l)

-- three puts, one after another: two bytes at a place, two at n, and the item behind them
module _ (p k m g i d raised long item : List ℕ) (at n : ℕ) (hp : length p ≡ at) (hm : at + 2 + length m ≡ n)
    (hk : length k ≡ length raised) (hr : length raised ≡ 2) (hg : length g ≡ length long) (hl : length long ≡ 2) (hi : length i ≡ length item) where
  file : List ℕ
  file = p ++ (k ++ (m ++ (g ++ (i ++ d))))

  ahead : length (p ++ (raised ++ m)) ≡ n
  ahead = simp length-append (omega arith)

  ahead_long : length ((p ++ (raised ++ m)) ++ long) ≡ n + 2
  ahead_long = simp length-append (omega arith)

  three_puts : (f₁ f₂ : List ℕ)
      → f₁ ≡ take at file ++ (raised ++ drop (at + length raised) file)
      → f₂ ≡ take n f₁ ++ (long ++ drop (n + length long) f₁)
      → take (n + 2) f₂ ++ (item ++ drop (n + 2 + length item) f₂) ≡ ((p ++ raised) ++ (m ++ (long ++ item))) ++ d
  unfolding file
  three_puts f₁ f₂ e₁ e₂ =
      let put : (List ℕ → ℕ → List ℕ → List ℕ) = λ f at new. take at f ++ (new ++ drop (at + length new) f) in
      let start = p ++ (raised ++ m) in
      let a : f₁ ≡ start ++ (g ++ (i ++ d)) = e₁ ∙ replaced p k (m ++ (g ++ (i ++ d))) raised at hp hk ∙ simp append_assoc in
      let b = e₂ ∙ ap (λ (f : List ℕ). put f n long) a ∙ replaced start g (i ++ d) long n ahead hg ∙ sym (append_assoc start long (i ++ d)) in
      ap (λ (f : List ℕ). put f (n + 2) item) b ∙ replaced (start ++ long) i d item (n + 2) ahead_long hi ∙ simp append_assoc

module _ (f : List ℕ) (n : ℕ) (item : List ℕ) (low : items_at (version_of (take n f)) ≤ n) (room : n + 2 + length item ≤ length f) where
  s : List ℕ
  s = take n f

  s_length : length s ≡ n
  unfolding s
  s_length = length-take-le n f (omega arith)

  -- where the count stands
  at : ℕ
  at = front_size (version_of s)

  at_low : 5 ≤ at
  unfolding at
  at_low = front_low (version_of s)

  at_high : at + 2 ≤ n
  unfolding at s items_at
  at_high = low

  -- a number of the file so far is one of the buffer
  number_read : (k : ℕ) → k + 2 ≤ n → number16 f k ≡ number16 s k
  unfolding s
  number_read k h =
      ap (λ (l : List ℕ). number16 l k) (sym (take-append-drop n f)) ∙ number16-front (take n f) (drop n f) k (omega (arith, s_length))

  -- the version and the count that the code reads, and where it reads them
  pub version_read : version_of f ≡ version_of (take n f)
  unfolding version_of number16 s
  version_read = number_read 3 (omega (arith, at_low, at_high))

  pub count_read : item_count f ≡ item_count (take n f)
  unfolding item_count s at
  count_read = ap (λ (v : ℕ). number16 f (front_size v)) version_read ∙ number_read at at_high

  pub count_at : items_at (version_of f) ≤ length f
  count_at = rw version_read (omega arith)

  pub version-at : 5 ≤ length f
  version-at = omega (arith, at_low, at_high)

  pub place_read : (v a : ℕ) → v ≡ version_of f → a ≡ front_size v → a ≡ front_size (version_of (take n f))
  place_read v a ev ea = ea ∙ ap front_size (ev ∙ version_read)

  pub place-high : (a : ℕ) → a ≡ front_size (version_of (take n f)) → a + 2 ≤ n
  unfolding at s
  place-high a e = omega (arith, at_high)

  -- what is kept and what is replaced
  six_parts : f ≡ take at s ++ (take 2 (drop at s) ++ (drop (at + 2) s ++ (take 2 (drop n f) ++ (take (length item) (drop (n + 2) f) ++ drop (n + 2 + length item) f))))
  unfolding s
  six_parts =
      sym (take-append-drop n f)
      ∙ ap₂ ◌++◌ (sym (take-append-drop at s) ∙ ap (λ (t : List ℕ). take at s ++ t) (parted at 2 s))
      (parted n 2 f ∙ ap (λ (t : List ℕ). take 2 (drop n f) ++ t) (parted (n + 2) (length item) f))
      ∙ simp append_assoc

  pub item_put : (f₁ f₂ f₃ raised long : List ℕ) (a : ℕ) → raised ≡ big_endian 2 (item_count (take n f) + 1) → long ≡ big_endian 2 (length item)
      → a ≡ front_size (version_of (take n f))
      → f₁ ≡ take a f ++ (raised ++ drop (a + length raised) f)
      → f₂ ≡ take n f₁ ++ (long ++ drop (n + length long) f₁)
      → f₃ ≡ take (n + 2) f₂ ++ (item ++ drop (n + 2 + length item) f₂)
      → f₃ ≡ appended (take n f) item ++ drop (n + 2 + length item) f
  unfolding appended field s file at items_at
  item_put f₁ f₂ f₃ raised long a er el ea e₁ e₂ e₃ =
      let z = s_length in
      let u = at_high in
      let hr : length raised ≡ 2 = ap length er ∙ big_endian-length 2 (item_count s + 1) in
      let hl : length long ≡ 2 = ap length el ∙ big_endian-length 2 (length item) in
      let p = take at s in
      let k = take 2 (drop at s) in
      let m = drop (at + 2) s in
      let g = take 2 (drop n f) in
      let i = take (length item) (drop (n + 2) f) in
      let d = drop (n + 2 + length item) f in
      e₃
      ∙ three_puts p k m g i d raised long item at n (length-take-le at s (omega arith)) (ap (λ (x : ℕ). at + 2 + x) (length-drop (at + 2) s) ∙ omega arith)
      (length-take-le 2 (drop at s) (simp length-drop (omega arith)) ∙ sym hr) hr
      (length-take-le 2 (drop n f) (simp length-drop (omega arith)) ∙ sym hl) hl
      (length-take-le (length item) (drop (n + 2) f) (simp length-drop (omega arith)))
      f₁ f₂ (e₁ ∙ ap₂ (λ (j : ℕ) (l : List ℕ). take j l ++ (raised ++ drop (j + length raised) l)) ea six_parts) e₂
      ∙ ap₂ (λ (x y : List ℕ). ((p ++ x) ++ (m ++ (y ++ item))) ++ d) er el

-- ---- the file without items

-- the count 0 behind letters, version and number
module _ (st : Stamp) (o o₁ : List ℕ) (e₁ : o₁ ≡ front message_letters st ++ drop (front_size st.version) o) where
  pub front_put : front_size st.version ≤ length o → length o₁ ≡ length o
  front_put l = front_kept (front message_letters st) o o₁ (front_size st.version) (letters-long st) l e₁

  pub empty_put : (o₂ count : List ℕ) (a : ℕ) → count ≡ big_endian 2 0 → a ≡ front_size st.version
      → o₂ ≡ take a o₁ ++ (count ++ drop (a + length count) o₁) → o₂ ≡ message_of st [] ++ drop (items_at st.version) o
  unfolding message_of fields items_at
  empty_put o₂ count a ec ea e₂ =
      let f = front message_letters st in
      let b = front_size st.version in
      let n = big_endian 2 0 in
      put_behind f n o o₁ o₂ b 2 (letters-long st) e₁
      (e₂ ∙ ap₂ (λ (j : ℕ) (c : List ℕ). take j o₁ ++ (c ++ drop (j + length c) o₁)) ea ec
      ∙ ap (λ (j : ℕ). take b o₁ ++ (n ++ drop (b + j) o₁)) (big_endian-length 2 0))
      ∙ ap (λ (t : List ℕ). (f ++ t) ++ drop (b + 2) o) (sym (append-nil n))
