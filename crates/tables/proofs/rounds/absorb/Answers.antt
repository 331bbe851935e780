-- Each turn takes a block into the chain (blocks' Chaining).
use Rattle.fips197.proofs.Kit.{refl, ap, ap₂, ◌∙◌}
use Rattle.blocks.specs.Block.{◌⊕◌}
use Rattle.blocks.specs.Chain.{chain}
use Rattle.blocks.proofs.Chaining.{chain_next}
use Rattle.fips197.specs.Aes.{cipher}
use Rattle.fips197.specs.Words.{state_of}
use Rattle.tables.proofs.rounds.absorb.Goals as goal

pub loop-i-init : goal.loop-i-init
unfolding chain
loop-i-init c = refl

pub loop-i-preserved : goal.loop-i-preserved
loop-i-preserved c =
    let w = c.args.w.now in
    let y = c.load-y.result in
    c.cipher-y.ensures ∙ ap (cipher w) (c.add.ensures ∙ ap₂ ◌⊕◌ c.loop-i.invariant c.load_at.ensures)
    ∙ chain_next (cipher w) (state_of y.a y.b y.c y.d) c.args.s.now c.loop-i.i
