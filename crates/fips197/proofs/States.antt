-- The steps of a round take blocks to blocks, and each undoes its inverse, both ways.
use Rattle.std.specs.Prelude.{◌≡◌, ◌∷◌, ◌++◌, ◌+◌, ◌-◌, ◌*◌, ◌/◌, ◌%◌, ◌≤◌, ◌<◌}
use Rattle.fips197.proofs.Kit.{refl, sym, ap, ap₂, ◌∙◌, List, [], map, ℕ, zero, suc, add-zero, arith, length, get_or, take, drop, length-map, length-take, length-drop, take-add, drop-drop, get_or-take, get_or-drop}
use Rattle.fips197.specs.Block.{Bytes, Block, tabulate}
use Rattle.fips197.specs.Aes.{cell, state, sbox, inv_sbox, sub_bytes, inv_sub_bytes, shift_rows, inv_shift_rows, columnwise, mixed, inv_mixed, mix_columns, inv_mix_columns}
use Rattle.fips197.proofs.Xor.{byte_at, map-bytes}
use Rattle.fips197.proofs.TableRules.{sbox_lt, inv_sbox_lt, inv_sbox_lem, sbox_inv}
use Rattle.fips197.proofs.Mixing.{mixed_lt, inv_mixed_lt, inv_mixed_lem, mixed_inv}

-- ---- tabulated lists

pub tabulate-bytes : (n : ℕ) (f : ℕ → ℕ) → ((i : ℕ) → f i < 256) → Bytes (tabulate n f)
tabulate-bytes zero f h = tt
tabulate-bytes (suc n) f h = (h 0, tabulate-bytes n (λ i. f (suc i)) (λ i. h (suc i)))

-- a list is its elements
elements : (s : List ℕ) → tabulate (length s) (λ i. get_or s i 0) ≡ s
elements [] = refl
elements (x ∷ xs) = ap (λ (t : List ℕ). x ∷ t) (elements xs)

pub elements_of : (n : ℕ) (s : List ℕ) → length s ≡ n → tabulate n (λ i. get_or s i 0) ≡ s
elements_of n s h = ap (λ (n : ℕ). tabulate n (λ i. get_or s i 0)) (sym h) ∙ elements s

-- the four bytes at a place, and the four words of a block
pub bytes-at : (s : List ℕ) (at : ℕ) → at + 4 ≤ length s
    → take 4 (drop at s) ≡ get_or s at 0 ∷ get_or s (at + 1) 0 ∷ get_or s (at + 2) 0 ∷ get_or s (at + 3) 0 ∷ []
bytes-at s at h =
    sym (elements_of 4 (take 4 (drop at s)) (simp (length-take, length-drop) (omega arith)))
    ∙ (λ j. one 0 (omega arith) j ∷ one 1 (omega arith) j ∷ one 2 (omega arith) j ∷ one 3 (omega arith) j ∷ [])
    ∙ ap (λ (k : ℕ). get_or s k 0 ∷ get_or s (at + 1) 0 ∷ get_or s (at + 2) 0 ∷ get_or s (at + 3) 0 ∷ []) (add-zero at)
  where
    one : (k : ℕ) → k < 4 → get_or (take 4 (drop at s)) k 0 ≡ get_or s (at + k) 0
    one k l = get_or-take 4 (drop at s) k 0 l ∙ get_or-drop at s k 0

pub words-at : (s : List ℕ) (at : ℕ)
    → take 16 (drop at s) ≡ take 4 (drop at s) ++ take 4 (drop (at + 4) s) ++ take 4 (drop (at + 8) s) ++ take 4 (drop (at + 12) s)
words-at s at =
    let z = drop at s in
    take-add 12 4 z
    ∙ ap (λ (t : List ℕ). t ++ take 4 (drop 12 z)) (take-add 8 4 z ∙ ap (λ (t : List ℕ). t ++ take 4 (drop 8 z)) (take-add 4 4 z))
    ∙ (λ i. take 4 z ++ take 4 (drop-drop 4 at s i) ++ take 4 (drop-drop 8 at s i) ++ take 4 (drop-drop 12 at s i))

-- a state of bytes is a block
state-block : (f : ℕ → ℕ → ℕ) → ((r c : ℕ) → f r c < 256) → Block (state f)
state-block f h = record { long = refl; bytes = tabulate-bytes 16 (λ i. f (i % 4) (i / 4)) (λ i. h (i % 4) (i / 4)) }

-- ---- blocks to blocks

pub sub_bytes-block : (s : List ℕ) → Block s → Block (sub_bytes s)
unfolding sub_bytes
sub_bytes-block s h = record { long = length-map s sbox ∙ h.long; bytes = map-bytes sbox sbox_lt s h.bytes }

pub inv_sub_bytes-block : (s : List ℕ) → Block s → Block (inv_sub_bytes s)
unfolding inv_sub_bytes
inv_sub_bytes-block s h = record { long = length-map s inv_sbox ∙ h.long; bytes = map-bytes inv_sbox inv_sbox_lt s h.bytes }

module _ (s : List ℕ) (h : Block s) where
  in_cell : (r c : ℕ) → cell s r c < 256
  in_cell r c = byte_at s h.bytes (r + 4 * c)

  pub shift_rows-block : Block (shift_rows s)
  shift_rows-block = state-block (λ r c. cell s r ((c + r) % 4)) (λ r c. in_cell r ((c + r) % 4))

  pub inv_shift_rows-block : Block (inv_shift_rows s)
  inv_shift_rows-block = state-block (λ r c. cell s r ((c + 4 - r) % 4)) (λ r c. in_cell r ((c + 4 - r) % 4))

  columnwise-block : (f : ℕ → ℕ → ℕ → ℕ → ℕ) → ((a b c d : ℕ) → a < 256 → b < 256 → c < 256 → d < 256 → f a b c d < 256) → Block (columnwise f s)
  unfolding columnwise
  columnwise-block f e =
      state-block (λ r c. f (cell s r c) (cell s ((r + 1) % 4) c) (cell s ((r + 2) % 4) c) (cell s ((r + 3) % 4) c))
      (λ r c. e (cell s r c) (cell s ((r + 1) % 4) c) (cell s ((r + 2) % 4) c) (cell s ((r + 3) % 4) c)
      (in_cell r c) (in_cell ((r + 1) % 4) c) (in_cell ((r + 2) % 4) c) (in_cell ((r + 3) % 4) c))

  pub mix_columns-block : Block (mix_columns s)
  unfolding mix_columns
  mix_columns-block = columnwise-block mixed mixed_lt

  pub inv_mix_columns-block : Block (inv_mix_columns s)
  unfolding inv_mix_columns
  inv_mix_columns-block = columnwise-block inv_mixed inv_mixed_lt

-- ---- each step and its inverse

map_undo : (f g : ℕ → ℕ) → ((x : ℕ) → x < 256 → g (f x) ≡ x) → (s : List ℕ) → Bytes s → map g (map f s) ≡ s
map_undo f g e [] h = refl
map_undo f g e (x ∷ xs) h = ap₂ ◌∷◌ (e x h.0) (map_undo f g e xs h.1)

-- where g undoes f on a column, it does on a state
columnwise_undo : (f g : ℕ → ℕ → ℕ → ℕ → ℕ) → ((a b c d : ℕ) → g (f a b c d) (f b c d a) (f c d a b) (f d a b c) ≡ a)
    → (s : List ℕ) → length s ≡ 16 → columnwise g (columnwise f s) ≡ s
unfolding columnwise
columnwise_undo f g e s h =
    let m : (a b c d : ℕ)
    → g (f (get_or s a 0) (get_or s b 0) (get_or s c 0) (get_or s d 0)) (f (get_or s b 0) (get_or s c 0) (get_or s d 0) (get_or s a 0))
    (f (get_or s c 0) (get_or s d 0) (get_or s a 0) (get_or s b 0)) (f (get_or s d 0) (get_or s a 0) (get_or s b 0) (get_or s c 0)) ≡ get_or s a 0
    = λ a b c d. e (get_or s a 0) (get_or s b 0) (get_or s c 0) (get_or s d 0) in
    (λ i. m 0 1 2 3 i ∷ m 1 2 3 0 i ∷ m 2 3 0 1 i ∷ m 3 0 1 2 i ∷
    m 4 5 6 7 i ∷ m 5 6 7 4 i ∷ m 6 7 4 5 i ∷ m 7 4 5 6 i ∷
    m 8 9 10 11 i ∷ m 9 10 11 8 i ∷ m 10 11 8 9 i ∷ m 11 8 9 10 i ∷
    m 12 13 14 15 i ∷ m 13 14 15 12 i ∷ m 14 15 12 13 i ∷ m 15 12 13 14 i ∷ [])
    ∙ elements_of 16 s h

module _ (s : List ℕ) (h : Block s) where
  pub inv_sub_bytes-sub_bytes : inv_sub_bytes (sub_bytes s) ≡ s
  unfolding sub_bytes inv_sub_bytes
  inv_sub_bytes-sub_bytes = map_undo sbox inv_sbox inv_sbox_lem s h.bytes

  pub sub_bytes-inv_sub_bytes : sub_bytes (inv_sub_bytes s) ≡ s
  unfolding sub_bytes inv_sub_bytes
  sub_bytes-inv_sub_bytes = map_undo inv_sbox sbox sbox_inv s h.bytes

  pub inv_shift_rows-shift_rows : inv_shift_rows (shift_rows s) ≡ s
  inv_shift_rows-shift_rows = elements_of 16 s h.long

  pub shift_rows-inv_shift_rows : shift_rows (inv_shift_rows s) ≡ s
  shift_rows-inv_shift_rows = elements_of 16 s h.long

  pub inv_mix_columns-mix_columns : inv_mix_columns (mix_columns s) ≡ s
  unfolding mix_columns inv_mix_columns
  inv_mix_columns-mix_columns = columnwise_undo mixed inv_mixed inv_mixed_lem s h.long

  pub mix_columns-inv_mix_columns : mix_columns (inv_mix_columns s) ≡ s
  unfolding mix_columns inv_mix_columns
  mix_columns-inv_mix_columns = columnwise_undo inv_mixed mixed mixed_inv s h.long
