-- Each turn writes one block; those before it stay (Slots).
use Rattle.fips197.proofs.Kit.{arith, rules}
use Rattle.blocks.specs.Block.{slot}
use Rattle.blocks.proofs.Slots.{front-first, front-next, front_done}
use Rattle.blocks.proofs.block.copy_blocks.Goals as goal

pub loop-k-init : goal.loop-k-init
loop-k-init c = front-first _ _

pub loop-k-preserved : goal.loop-k-preserved
unfolding slot
loop-k-preserved c =
    front-next (slot _) _ c.loop-k.k _ c.block_at.result _ c.loop-k.invariant (omega arith) c.block_at.ensures (search rules) c.put_at.ensures

pub returns : goal.returns
returns c = front_done _ _ c.loop-k.k _ _ c.loop-k.invariant (omega arith)
