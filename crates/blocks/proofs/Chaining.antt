-- The chain over blocks: a turn, one block, and that what is behind the blocks does not matter.
use Rattle.std.specs.Prelude.{◌≡◌, ◌++◌, ◌+◌, ◌*◌, ◌/◌, ◌≤◌}
use Rattle.fips197.proofs.Kit.{refl, sym, ap, ap₂, ◌∙◌, List, ℕ, zero, suc, arith, add-one, length, take, drop, drop-append-le, take-append-le, take_all, length-drop}
use Rattle.blocks.specs.Block.{◌⊕◌, zeros}
use Rattle.blocks.specs.Chain.{chain}
use Rattle.blocks.proofs.Xor.{⊕_comm, ⊕-zeros}

module _ (ciph : List ℕ → List ℕ) (x : List ℕ) where
  -- a turn
  pub chain_next : (m : List ℕ) (n : ℕ) → ciph (chain ciph x m n ⊕ take 16 (drop (16 * n) m)) ≡ chain ciph x m (n + 1)
  unfolding chain
  chain_next m n =
      let e : 16 * n ≡ n * 16 = omega arith in
      ap (λ (k : ℕ). ciph (chain ciph x m n ⊕ take 16 (drop k m))) e ∙ ap (chain ciph x m) (sym (add-one n))

  -- what is behind the blocks
  pub chain-front : (a b : List ℕ) (n : ℕ) → 16 * n ≤ length a → chain ciph x (a ++ b) n ≡ chain ciph x a n
  unfolding chain
  chain-front a b zero h = refl
  chain-front a b (suc n) h =
      ap₂ (λ (y z : List ℕ). ciph (y ⊕ z)) (chain-front a b n (omega arith))
      (ap (take 16) (drop-append-le (n * 16) a b (omega arith)) ∙ take-append-le 16 (drop (n * 16) a) b (simp length-drop (omega arith)))

  -- one block
  pub chain-block : (b : List ℕ) → length b ≡ 16 → chain ciph x b (length b / 16) ≡ ciph (x ⊕ b)
  unfolding chain
  chain-block b h =
      let e : length b / 16 ≡ 1 = omega arith in
      ap (chain ciph x b) e ∙ ap (λ (z : List ℕ). ciph (x ⊕ z)) (take_all 16 b (omega arith))

-- one block from zeros is enciphered
pub chain_alone : (ciph : List ℕ → List ℕ) (b : List ℕ) → length b ≡ 16 → chain ciph (zeros 16) b (length b / 16) ≡ ciph b
chain_alone ciph b h = chain-block ciph (zeros 16) b h ∙ ap ciph (⊕_comm (zeros 16) b ∙ ⊕-zeros b 16 (omega arith))
