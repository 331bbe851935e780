-- Document 01, Bench cards: "Cases marked * are proved together as one table about the definitions." Assumes nothing.
use Rattle.std.specs.Prelude.{◌≡◌, [], ◌∷◌, ◌++◌}
use Rattle.blocks.specs.Block.{zeros}
use Rattle.cipher.specs.Aes.{sbox}
use Rattle.blocks.specs.Double.{double}
use Rattle.sizes.specs.Cases.{PlaneCases}

pub record Starred : Type 0 where
  -- the seven about planes and reports, from "Size 1: row 1 holds 2 3 5" to "Changed 1 2 3: only row 3 agrees"
  pub planes : PlaneCases
  -- "S-box of 53 is ed."
  pub sbox_of_53 : sbox 0x53 ≡ 0xed
  -- "80 and fifteen 00 doubles to fifteen 00 and 87."
  pub doubled-80 : double (0x80 ∷ zeros 15) ≡ zeros 15 ++ (0x87 ∷ [])
