-- The library's bytes, the highest first (Numbers).
use Rattle.fips197.proofs.Kit.{◌∙◌}
use Rattle.blocks.proofs.Numbers.{high_first}
use Rattle.blocks.proofs.block.to_be64.Goals as goal

pub returns : goal.returns
returns c = c.to_be_bytes.ensures ∙ high_first 8 c.args.n
