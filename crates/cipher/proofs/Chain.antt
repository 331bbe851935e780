-- CMAC: padding, the last block, the chain over the message laid out, and the sizes.
use Rattle.std.specs.Prelude.{◌≡◌, ◌∷◌, ◌++◌, ◌+◌, ◌-◌, ◌*◌, ◌/◌, ◌≤◌, ◌<◌, if◌then◌else◌}
use Rattle.fips197.proofs.Kit.{refl, sym, ap, ap₂, ◌∙◌, Bool, true, false, List, [], ℕ, zero, suc, arith, eqb, length, get_or, set, take, drop, length-append, length-drop, length-take, length-replicate, get_or-replicate, get_or-append_seam, append_assoc, append_snoc, take-add, take_at, take-take, take_all, take-append-drop, ext_get_or, get_or-drop, drop_at, lt_of_le-ne, eq-eqb, ne_eqb, eqb-true, eqb-false}
use Rattle.blocks.specs.Block.{Bytes, Block, ◌⊕◌, zeros}
use Rattle.blocks.specs.Chain.{chain}
use Rattle.cipher.specs.Cmac.{subkey1, subkey2, block_count, padded, last_block, laid_out, mac_by}
use Rattle.blocks.proofs.Chaining.{chain_next, chain-front}
use Rattle.blocks.proofs.Loop.{part_turn}
use Rattle.blocks.proofs.Xor.{⊕-length, ⊕-block, zeros-block, zeros-bytes, take-bytes, drop-bytes, append-bytes}
use Rattle.blocks.proofs.Doubling.{double-block}

-- ---- padding

pub padded-length : (l : List ℕ) → length l < 16 → length (padded l) ≡ 16
unfolding padded
padded-length l h = length-append l (128 ∷ zeros (15 - length l)) ∙ simp length-replicate (omega arith)

pub padded_mark : (l : List ℕ) → get_or (padded l) (length l) 0 ≡ 128
unfolding padded
padded_mark l = get_or-append_seam l 128 (zeros (15 - length l)) 0

drop-zeros : (k n : ℕ) → drop k (zeros n) ≡ zeros (n - k)
drop-zeros k n = ext_get_or 0 _ _ (simp (length-drop, length-replicate)) (λ i h. at i h)
  where
    at : (i : ℕ) → i < length (drop k (zeros n)) → get_or (drop k (zeros n)) i 0 ≡ get_or (zeros (n - k)) i 0
    at i h =
        let b : i < n - k = omega (arith, simp (length-drop, length-replicate) at h) in
        get_or-drop k (zeros n) i 0 ∙ get_or-replicate n (k + i) 0 0 (omega arith) ∙ sym (get_or-replicate (n - k) i 0 0 b)

-- once the mark is written, what is left of the zeros is the padding
pub padded_end : (l : List ℕ) → length l < 16 → take (length l + 1) (padded l) ++ drop (length l + 1) (zeros 16) ≡ padded l
unfolding padded
padded_end l h =
    let e : 16 - (length l + 1) ≡ 15 - length l = omega arith in
    ap₂ ◌++◌
    (ap (take (length l + 1)) (sym (append_snoc l 128 (zeros (15 - length l))))
    ∙ take_at (l ++ (128 ∷ [])) (zeros (15 - length l)) (length l + 1) (length-append l (128 ∷ [])))
    (drop-zeros (length l + 1) 16 ∙ ap (λ (k : ℕ). zeros k) e)
    ∙ append_snoc l 128 (zeros (15 - length l))

-- the message in front of zeros, and the mark behind it
pub padded_set : (l : List ℕ) → length l < 16 → set (l ++ drop (length l) (zeros 16)) (length l) 128 ≡ padded l
unfolding padded
padded_set l h =
    let p : length (padded l) ≡ 16 = padded-length l h in
    part_turn (length l) (padded l) (zeros 16) _ 128 (front l) h (omega arith) (sym (padded_mark l)) ∙ padded_end l h
  where
    front : (l : List ℕ) → l ++ drop (length l) (zeros 16) ≡ take (length l) (padded l) ++ drop (length l) (zeros 16)
    front l = ap (λ (t : List ℕ). t ++ drop (length l) (zeros 16)) (sym (take_at l (128 ∷ zeros (15 - length l)) (length l) refl))

padded-block : (l : List ℕ) → Bytes l → length l < 16 → Block (padded l)
unfolding padded
padded-block l b h =
    record { long = padded-length l h; bytes = append-bytes l (128 ∷ zeros (15 - length l)) b (omega arith, zeros-bytes (15 - length l)) }

-- ---- the chain

before_last : (m : List ℕ) → block_count m - 1 ≡ (length m - 1) / 16
unfolding block_count
before_last m = omega arith

-- all blocks but the last
module _ (ciph : List ℕ → List ℕ) (m : List ℕ) (at : ℕ) (begins : at ≡ 16 * ((length m - 1) / 16)) where
  front_long : length (take at m) ≡ at
  front_long = simp length-take (omega arith)

  front-chain : chain ciph (zeros 16) (take at m) (length (take at m) / 16) ≡ chain ciph (zeros 16) m (block_count m - 1)
  front-chain =
      let p = before_last m in
      let q : length (take at m) / 16 ≡ block_count m - 1 = omega (arith, front_long) in
      ap (chain ciph (zeros 16) (take at m)) q
      ∙ sym (chain-front ciph (zeros 16) (take at m) (drop at m) (block_count m - 1) (omega (arith, front_long)))
      ∙ ap (λ (l : List ℕ). chain ciph (zeros 16) l (block_count m - 1)) (take-append-drop at m)

  -- with the last block the chain is the MAC
  pub mac_last : (k1 k2 : List ℕ) → ciph (chain ciph (zeros 16) (take at m) (length (take at m) / 16) ⊕ last_block k1 k2 (drop at m)) ≡ mac_by ciph k1 k2 m
  unfolding mac_by
  mac_last k1 k2 =
      let p = before_last m in
      let q : at ≡ (block_count m - 1) * 16 = omega arith in
      ap₂ (λ (y : List ℕ) (k : ℕ). ciph (y ⊕ last_block k1 k2 (drop k m))) front-chain q

-- the message laid out, where its last block begins
pub laid_at : (k1 k2 m : List ℕ) (at : ℕ) → at ≡ 16 * ((length m - 1) / 16) → laid_out k1 k2 m ≡ take at m ++ last_block k1 k2 (drop at m)
unfolding laid_out
laid_at k1 k2 m at e =
    let p = before_last m in
    let q : (block_count m - 1) * 16 ≡ at = omega arith in
    ap (λ (k : ℕ). take k m ++ last_block k1 k2 (drop k m)) q

-- the last block, whole or padded
module _ (k1 k2 l : List ℕ) where
  pub last-whole : length l ≡ 16 → l ⊕ k1 ≡ last_block k1 k2 l
  unfolding last_block
  last-whole h = ap (λ (t : Bool). if t then l ⊕ k1 else padded l ⊕ k2) (sym (eq-eqb (length l) 16 h))

  pub last-padded : (length l ≡ 16 → ⊥) → padded l ⊕ k2 ≡ last_block k1 k2 l
  unfolding last_block
  last-padded h = ap (λ (t : Bool). if t then l ⊕ k1 else padded l ⊕ k2) (sym (ne_eqb (length l) 16 h))

  pub last_block-length : length l ≤ 16 → length k1 ≡ 16 → length k2 ≡ 16 → length (last_block k1 k2 l) ≡ 16
  unfolding last_block
  last_block-length b h1 h2 = go (eqb (length l) 16) refl
    where
      go : (t : Bool) → eqb (length l) 16 ≡ t → length (if t then l ⊕ k1 else padded l ⊕ k2) ≡ 16
      go true e = let h = eqb-true (length l) 16 e in ⊕-length l k1 (omega arith) ∙ h
      go false e =
          let p = padded-length l (lt_of_le-ne b (eqb-false (length l) 16 e)) in
          ⊕-length (padded l) k2 (omega arith) ∙ p

-- the MAC is the chain over the message laid out
pub mac_laid_out : (ciph : List ℕ → List ℕ) (k1 k2 m : List ℕ) → length k1 ≡ 16 → length k2 ≡ 16
    → chain ciph (zeros 16) (laid_out k1 k2 m) (length (laid_out k1 k2 m) / 16) ≡ mac_by ciph k1 k2 m
mac_laid_out ciph k1 k2 m h1 h2 =
    let at = 16 * ((length m - 1) / 16) in
    let a = take at m in
    let l = last_block k1 k2 (drop at m) in
    let n = length a / 16 in
    let la : length a ≡ at = front_long ciph m at refl in
    let d : length (drop at m) ≡ length m - at = length-drop at m in
    let ll : length l ≡ 16 = last_block-length k1 k2 (drop at m) (omega arith) h1 h2 in
    let e : length (a ++ l) ≡ length a + length l = length-append a l in
    let q : length (a ++ l) / 16 ≡ n + 1 = omega arith in
    let b : length a ≡ 16 * n = omega arith in
    ap (λ (s : List ℕ). chain ciph (zeros 16) s (length s / 16)) (laid_at k1 k2 m at refl)
    ∙ ap (chain ciph (zeros 16) (a ++ l)) q
    ∙ sym (chain_next ciph (zeros 16) (a ++ l) n)
    ∙ ap₂ (λ (y z : List ℕ). ciph (y ⊕ z)) (chain-front ciph (zeros 16) a l n (omega arith)) (ap (take 16) (drop_at a l (16 * n) b) ∙ take_all 16 l (omega arith))
    ∙ mac_last ciph m at refl k1 k2

-- a message at the front of a buffer, whose last block is written where it stands
module _ (k1 k2 buf last : List ℕ) (n at : ℕ) (begins : at ≡ 16 * ((n - 1) / 16)) (room : at + 16 ≤ length buf)
    (so : last ≡ last_block k1 k2 (take (n - at) (drop at buf))) where
  behind : drop at (take n buf) ≡ take (n - at) (drop at buf)
  behind =
      let e : n ≡ at + (n - at) = omega arith in
      ap (λ (k : ℕ). drop at (take k buf)) e
      ∙ ap (drop at) (take-add at (n - at) buf)
      ∙ drop_at (take at buf) (take (n - at) (drop at buf)) at (simp length-take (omega arith))

  laid_front : take at buf ++ last ≡ laid_out k1 k2 (take n buf)
  laid_front =
      let l : length (take n buf) ≡ n = simp length-take (omega arith) in
      sym (laid_at k1 k2 (take n buf) at (begins ∙ ap (λ (k : ℕ). 16 * ((k - 1) / 16)) (sym l))
      ∙ ap₂ ◌++◌ (take-take at n buf (omega arith)) (ap (last_block k1 k2) behind ∙ sym so))

  module _ (after : List ℕ) (put : after ≡ take at buf ++ (last ++ drop (at + 16) buf)) where
    pub laid_in_place : after ≡ laid_out k1 k2 (take n buf) ++ drop (16 * ((n - 1) / 16) + 16) buf
    laid_in_place =
        put ∙ sym (append_assoc (take at buf) last (drop (at + 16) buf)) ∙ ap₂ (λ (l : List ℕ) (k : ℕ). l ++ drop (k + 16) buf) laid_front begins

    pub mac_in_place : (ciph : List ℕ → List ℕ) → length k1 ≡ 16 → length k2 ≡ 16
        → chain ciph (zeros 16) (take (at + 16 - 0) after) (length (take (at + 16 - 0) after) / 16) ≡ mac_by ciph k1 k2 (take n buf)
    mac_in_place ciph h1 h2 =
        let d : length (take (n - at) (drop at buf)) ≤ 16 = simp (length-take, length-drop) (omega arith) in
        let h : length last ≡ 16 = ap length so ∙ last_block-length k1 k2 (take (n - at) (drop at buf)) d h1 h2 in
        let f : length (take at buf) ≡ at = simp length-take (omega arith) in
        let e : length (take at buf ++ last) ≡ at + 16 - 0 = length-append (take at buf) last ∙ omega arith in
        ap (λ (s : List ℕ). chain ciph (zeros 16) s (length s / 16))
        (ap (take (at + 16 - 0)) (put ∙ sym (append_assoc (take at buf) last (drop (at + 16) buf)))
        ∙ take_at (take at buf ++ last) (drop (at + 16) buf) (at + 16 - 0) e ∙ laid_front)
        ∙ mac_laid_out ciph k1 k2 (take n buf) h1 h2

-- ---- sizes

last_block-block : (k1 k2 l : List ℕ) → Block k1 → Block k2 → Bytes l → length l ≤ 16 → Block (last_block k1 k2 l)
unfolding last_block
last_block-block k1 k2 l h1 h2 hl b = go (eqb (length l) 16) refl
  where
    go : (t : Bool) → eqb (length l) 16 ≡ t → Block (if t then l ⊕ k1 else padded l ⊕ k2)
    go true e = ⊕-block l k1 (record { long = eqb-true (length l) 16 e; bytes = hl }) h1
    go false e =
        let n : length l < 16 = lt_of_le-ne b (eqb-false (length l) 16 e) in
        ⊕-block (padded l) k2 (padded-block l hl n) h2

module _ (ciph : List ℕ → List ℕ) (kept : (s : List ℕ) → Block s → Block (ciph s)) where
  pub subkey1-block : Block (subkey1 ciph)
  unfolding subkey1
  subkey1-block = double-block (ciph (zeros 16))

  pub subkey2-block : Block (subkey2 ciph)
  unfolding subkey2
  subkey2-block = double-block (subkey1 ciph)

  module _ (m : List ℕ) (h : Bytes m) where
    chain_kept : (n : ℕ) → n * 16 ≤ length m → Block (chain ciph (zeros 16) m n)
    unfolding chain
    chain_kept zero l = zeros-block
    chain_kept (suc n) l =
        let s : suc n * 16 ≡ n * 16 + 16 = omega arith in
        kept _
        (⊕-block _ _ (chain_kept n (omega arith))
        (record { long = simp (length-take, length-drop) (omega arith); bytes = take-bytes 16 (drop (n * 16) m) (drop-bytes (n * 16) m h) }))

    pub mac_by-block : (k1 k2 : List ℕ) → Block k1 → Block k2 → Block (mac_by ciph k1 k2 m)
    unfolding mac_by
    mac_by-block k1 k2 h1 h2 =
        let n = block_count m - 1 in
        let p : n ≡ (length m - 1) / 16 = before_last m in
        let l = drop (n * 16) m in
        let d : length l ≡ length m - n * 16 = length-drop (n * 16) m in
        kept _ (⊕-block _ _ (chain_kept n (omega arith)) (last_block-block k1 k2 l h1 h2 (drop-bytes (n * 16) m h) (omega arith)))
