-- Bytes, blocks of 16 bytes and XOR: the definitions of fips197's Block, passed on as they are; and blocks that are zero. Cited by the
-- contracts of this crate and of those above. Assumes nothing.
use Rattle.std.specs.Prelude.{ℕ, zero, suc, Bool, true, ◌&&◌, List}
pub use Rattle.fips197.specs.Block.{Bytes, Block, zeros}
unfoldable pub use Rattle.fips197.specs.Block.{◌⊕◌, slot, list_of, same}

-- whether the first n blocks of a list of blocks are zero
unfoldable pub all_zero : List ℕ → ℕ → Bool
all_zero s zero = true
all_zero s (suc n) = all_zero s n && same (slot s n) (zeros 16)
