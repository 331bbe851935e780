-- Three blocks, one after another.
use Rattle.blocks.specs.Block.{slot}
use Rattle.tagging.proofs.Summing.{keys_made}
use Rattle.tagging.proofs.keys_in.Goals as goal

pub returns : goal.returns
unfolding slot
returns c = keys_made _ _ _ _ c.block_at.ensures c.block_at-2.ensures c.block_at-3.ensures
