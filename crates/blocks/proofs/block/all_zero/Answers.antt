-- Each turn looks at one block; those before it are zero (Zeros).
use Rattle.fips197.proofs.Kit.{refl, sym, ◌∙◌}
use Rattle.blocks.specs.Block.{slot, all_zero}
use Rattle.blocks.proofs.Zeros.{zeros-next, zeros_stop}
use Rattle.blocks.proofs.block.all_zero.Goals as goal

pub loop-k-init : goal.loop-k-init
unfolding all_zero
loop-k-init c = refl

pub returns-then-not-is_zero : goal.returns-then-not-is_zero
unfolding slot
returns-then-not-is_zero c = sym (zeros_stop _ _ c.loop-k.k c.loop-k-test.true (sym c.is_zero.ensures ∙ c.if-not-is_zero.true))

pub loop-k-preserved : goal.loop-k-preserved
unfolding slot
loop-k-preserved c = zeros-next _ c.loop-k.k c.loop-k.invariant (sym c.is_zero.ensures ∙ c.if-not-is_zero.false)
