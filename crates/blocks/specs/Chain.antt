-- A chain over blocks, by a block cipher: SP 800-38B, section 6.2, steps 5 and 6. CMAC is such a chain, and the engine of tables computes
-- it. Assumes nothing.
use Rattle.std.specs.Prelude.{ℕ, zero, suc, ◌*◌, List, take, drop}
use Rattle.blocks.specs.Block.{◌⊕◌}

-- from x, over the first n blocks of m: "Let C_i = CIPH_K(C_i-1 ⊕ M_i)"
unfoldable pub chain : (List ℕ → List ℕ) → List ℕ → List ℕ → ℕ → List ℕ
chain ciph x m zero = x
chain ciph x m (suc n) = ciph (chain ciph x m n ⊕ take 16 (drop (n * 16) m))
