-- Both sides are 256 times what is before a byte, and the byte.
use Rattle.fips197.proofs.Kit.{◌∙◌, arith}
use Rattle.blocks.specs.Number.{number_of, number}
use Rattle.blocks.proofs.block.from_be32.Goals as goal

pub returns : goal.returns
unfolding number number_of
returns c = c.from_be_bytes.ensures ∙ omega arith
