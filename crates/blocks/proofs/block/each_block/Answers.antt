-- Each turn writes one block over the one that it is made of (Slots).
use Rattle.fips197.proofs.Kit.{arith, rules}
use Rattle.blocks.proofs.Slots.{front-first, place-next, front_done}
use Rattle.blocks.proofs.block.each_block.Goals as goal

pub loop-k-init : goal.loop-k-init
loop-k-init g c = λ h e. front-first _ _

pub loop-k-preserved : goal.loop-k-preserved
loop-k-preserved g c =
    λ h e. place-next (λ k. h) _ c.loop-k.k _ c.block_at.result c.f.result _ (c.loop-k.invariant h e) (omega arith)
    c.block_at.ensures (e _ _ c.f.ensures) (search rules) c.put_at.ensures

pub returns : goal.returns
returns g c = λ h e. front_done _ _ c.loop-k.k _ _ (c.loop-k.invariant h e) (omega arith)
