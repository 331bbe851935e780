-- The cipher and the inverse cipher undo each other with any schedule of blocks: an induction over the rounds, step by step.
use Rattle.std.specs.Prelude.{◌≡◌, ◌+◌, ◌-◌, ◌≤◌, ◌<◌}
use Rattle.fips197.proofs.Kit.{ap, ap₂, ◌∙◌, List, map, ℕ, zero, suc, not-suc-le-zero, arith, length}
use Rattle.fips197.specs.Block.{Block, ◌⊕◌}
use Rattle.fips197.specs.Aes.{inv_sbox, sub_bytes, inv_sub_bytes, shift_rows, inv_shift_rows, mix_columns, inv_mix_columns, round_key, rounds, cipher, inv_rounds, inv_cipher}
use Rattle.fips197.proofs.Xor.{⊕-length, ⊕-block, block_cancel}
use Rattle.fips197.proofs.States.{sub_bytes-block, inv_sub_bytes-block, shift_rows-block, inv_shift_rows-block, mix_columns-block, inv_mix_columns-block}
use Rattle.fips197.proofs.States.{inv_sub_bytes-sub_bytes, sub_bytes-inv_sub_bytes, inv_shift_rows-shift_rows, shift_rows-inv_shift_rows, inv_mix_columns-mix_columns, mix_columns-inv_mix_columns}

-- the two inner steps together
shifted_block : (s : List ℕ) → Block s → Block (shift_rows (sub_bytes s))
shifted_block s h = shift_rows-block (sub_bytes s) (sub_bytes-block s h)

unshifted_block : (s : List ℕ) → Block s → Block (inv_sub_bytes (inv_shift_rows s))
unshifted_block s h = inv_sub_bytes-block (inv_shift_rows s) (inv_shift_rows-block s h)

unshift_shift : (s : List ℕ) → Block s → inv_sub_bytes (inv_shift_rows (shift_rows (sub_bytes s))) ≡ s
unshift_shift s h = ap inv_sub_bytes (inv_shift_rows-shift_rows (sub_bytes s) (sub_bytes-block s h)) ∙ inv_sub_bytes-sub_bytes s h

shift_unshift : (s : List ℕ) → Block s → shift_rows (sub_bytes (inv_sub_bytes (inv_shift_rows s))) ≡ s
shift_unshift s h = ap shift_rows (sub_bytes-inv_sub_bytes (inv_shift_rows s) (inv_shift_rows-block s h)) ∙ shift_rows-inv_shift_rows s h

module _ (w : List ℕ) (hk : (n : ℕ) → n < 11 → Block (round_key w n)) where
  rounds-block : (n : ℕ) (s : List ℕ) → n < 10 → Block s → Block (rounds w n s)
  unfolding rounds
  rounds-block zero s l h = h
  rounds-block (suc n) s l h =
      ⊕-block _ _ (mix_columns-block _ (shifted_block _ (rounds-block n s (omega arith) h))) (hk (suc n) (omega arith))

  pub cipher-block : (s : List ℕ) → Block s → Block (cipher w s)
  unfolding cipher
  cipher-block s h =
      ⊕-block _ _ (shifted_block _ (rounds-block 9 _ (omega arith) (⊕-block _ _ h (hk 0 (omega arith))))) (hk 10 (omega arith))

  inv_rounds-block : (n : ℕ) (s : List ℕ) → n < 10 → Block s → Block (inv_rounds w n s)
  unfolding inv_rounds
  inv_rounds-block zero s l h = ⊕-block _ _ (unshifted_block s h) (hk 0 (omega arith))
  inv_rounds-block (suc n) s l h =
      inv_rounds-block n _ (omega arith) (inv_mix_columns-block _ (⊕-block _ _ (unshifted_block s h) (hk (suc n) (omega arith))))

  pub inv_cipher-block : (s : List ℕ) → Block s → Block (inv_cipher w s)
  unfolding inv_cipher
  inv_cipher-block s h = inv_rounds-block 9 _ (omega arith) (⊕-block _ _ h (hk 10 (omega arith)))

  -- n rounds, and back to the first round key
  back_from : (n : ℕ) (s : List ℕ) → n < 10 → Block s → inv_rounds w n (shift_rows (sub_bytes (rounds w n s))) ≡ s ⊕ round_key w 0
  unfolding inv_rounds rounds
  back_from zero s l h = ap (λ (t : List ℕ). t ⊕ round_key w 0) (unshift_shift s h)
  back_from (suc n) s l h =
      let m = shift_rows (sub_bytes (rounds w n s)) in
      let b : Block m = shifted_block _ (rounds-block n s (omega arith) h) in
      ap (inv_rounds w n)
      (ap (λ (t : List ℕ). inv_mix_columns (t ⊕ round_key w (suc n))) (unshift_shift (rounds w (suc n) s) (rounds-block (suc n) s l h))
      ∙ ap inv_mix_columns (block_cancel (mix_columns m) (round_key w (suc n)) (mix_columns-block m b) (hk (suc n) (omega arith)))
      ∙ inv_mix_columns-mix_columns m b)
      ∙ back_from n s (omega arith) h

  pub inv_cipher-cipher : (s : List ℕ) → Block s → inv_cipher w (cipher w s) ≡ s
  unfolding inv_cipher cipher
  inv_cipher-cipher s h =
      let b : Block (s ⊕ round_key w 0) = ⊕-block _ _ h (hk 0 (omega arith)) in
      ap (inv_rounds w 9) (block_cancel _ (round_key w 10) (shifted_block _ (rounds-block 9 _ (omega arith) b)) (hk 10 (omega arith)))
      ∙ back_from 9 _ (omega arith) b ∙ block_cancel s (round_key w 0) h (hk 0 (omega arith))

  -- the inverse rounds, and forth again
  forth_from : (n : ℕ) (s : List ℕ) → n < 10 → Block s → shift_rows (sub_bytes (rounds w n (inv_rounds w n s ⊕ round_key w 0))) ≡ s
  unfolding inv_rounds rounds
  forth_from zero s l h =
      ap (λ (t : List ℕ). shift_rows (sub_bytes t)) (block_cancel _ (round_key w 0) (unshifted_block s h) (hk 0 (omega arith))) ∙ shift_unshift s h
  forth_from (suc n) s l h =
      let u = inv_sub_bytes (inv_shift_rows s) ⊕ round_key w (suc n) in
      let b : Block u = ⊕-block _ _ (unshifted_block s h) (hk (suc n) (omega arith)) in
      ap (λ (t : List ℕ). shift_rows (sub_bytes (mix_columns t ⊕ round_key w (suc n)))) (forth_from n (inv_mix_columns u) (omega arith) (inv_mix_columns-block u b))
      ∙ ap (λ (t : List ℕ). shift_rows (sub_bytes (t ⊕ round_key w (suc n)))) (mix_columns-inv_mix_columns u b)
      ∙ ap (λ (t : List ℕ). shift_rows (sub_bytes t)) (block_cancel _ (round_key w (suc n)) (unshifted_block s h) (hk (suc n) (omega arith)))
      ∙ shift_unshift s h

  pub cipher-inv_cipher : (s : List ℕ) → Block s → cipher w (inv_cipher w s) ≡ s
  unfolding inv_cipher cipher
  cipher-inv_cipher s h =
      ap (λ (t : List ℕ). t ⊕ round_key w 10) (forth_from 9 (s ⊕ round_key w 10) (omega arith) (⊕-block _ _ h (hk 10 (omega arith))))
      ∙ block_cancel s (round_key w 10) h (hk 10 (omega arith))

-- ---- 16 bytes, whatever the input

pub cipher-length : (w s : List ℕ) → length (round_key w 10) ≡ 16 → length (cipher w s) ≡ 16
unfolding cipher
cipher-length w s h = ⊕-length (shift_rows (sub_bytes (rounds w 9 (s ⊕ round_key w 0)))) (round_key w 10) (omega arith)

inv_rounds-length : (w : List ℕ) (n : ℕ) (s : List ℕ) → length (round_key w 0) ≡ 16 → length (inv_rounds w n s) ≡ 16
unfolding inv_rounds inv_sub_bytes
inv_rounds-length w zero s h = ⊕-length (map inv_sbox (inv_shift_rows s)) (round_key w 0) (omega arith)
inv_rounds-length w (suc n) s h = inv_rounds-length w n _ h

pub inv_cipher-length : (w s : List ℕ) → length (round_key w 0) ≡ 16 → length (inv_cipher w s) ≡ 16
unfolding inv_cipher
inv_cipher-length w s h = inv_rounds-length w 9 _ h

-- ---- as the code turns

pub rounds_more : (w : List ℕ) (n : ℕ) (s t : List ℕ) → 1 ≤ n → t ≡ rounds w (n - 1) s
    → mix_columns (shift_rows (sub_bytes t)) ⊕ round_key w n ≡ rounds w (n + 1 - 1) s
unfolding rounds
rounds_more w zero s t h p = absurd (not-suc-le-zero h)
rounds_more w (suc n) s t h p =
    let a : suc n - 1 ≡ n = omega arith in
    let b : suc n ≡ suc n + 1 - 1 = omega arith in
    ap (λ (u : List ℕ). mix_columns (shift_rows (sub_bytes u)) ⊕ round_key w (suc n)) (p ∙ ap (λ (m : ℕ). rounds w m s) a)
    ∙ ap (λ (m : ℕ). rounds w m s) b

pub inv_rounds-less : (w : List ℕ) (n : ℕ) (s t : List ℕ) → 0 < n → t ≡ inv_mix_columns (inv_sub_bytes (inv_shift_rows s) ⊕ round_key w n)
    → inv_rounds w (n - 1) t ≡ inv_rounds w n s
unfolding inv_rounds
inv_rounds-less w zero s t h e = absurd (not-suc-le-zero h)
inv_rounds-less w (suc n) s t h e = let m : suc n - 1 ≡ n = omega arith in ap₂ (inv_rounds w) m e
