-- By its length (Chain).
use Rattle.fips197.proofs.Kit.{ap, ◌∙◌, List, ℕ, arith, take_all}
use Rattle.blocks.specs.Block.{◌⊕◌}
use Rattle.cipher.proofs.Chain.{last-whole, last-padded}
use Rattle.cipher.proofs.cmac.last_block.Goals as goal

pub returns-then-l-eq16 : goal.returns-then-l-eq16
returns-then-l-eq16 c =
    let t = c in
    let d = t.args in
    c.xor.ensures
    ∙ ap (λ (z : List ℕ). z ⊕ d.k1) (c.block_at.ensures ∙ take_all 16 d.l.now (omega (arith, t.if-l-eq16.true)))
    ∙ last-whole d.k1 d.k2 d.l.now t.if-l-eq16.true

pub returns : goal.returns
returns c =
    let t = c in
    let d = t.args in
    c.xor-2.ensures ∙ ap (λ (z : List ℕ). z ⊕ d.k2) c.padded.ensures ∙ last-padded d.k1 d.k2 d.l.now t.if-l-eq16.false
