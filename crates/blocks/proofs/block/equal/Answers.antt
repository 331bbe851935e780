-- Equality of arrays, element by element, is that of lists (Xor).
use Rattle.fips197.proofs.Kit.{◌∙◌}
use Rattle.blocks.proofs.Xor.{pointwise-same}
use Rattle.blocks.proofs.block.equal.Goals as goal

pub returns : goal.returns
returns c = c.eq.ensures ∙ pointwise-same _ _
