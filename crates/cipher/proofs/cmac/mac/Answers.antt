-- The chain over all blocks but the last, and then the last (Chain).
use Rattle.std.specs.Prelude.{◌≡◌, ◌-◌, ◌/◌}
use Rattle.fips197.proofs.Kit.{ap, ap₂, ◌∙◌, List, ℕ, arith, length, take, drop, take_all, length-drop, rules}
use Rattle.blocks.specs.Block.{◌⊕◌, zeros}
use Rattle.blocks.specs.Chain.{chain}
use Rattle.blocks.proofs.Chaining.{chain-block}
use Rattle.cipher.specs.Aes.{cipher}
use Rattle.cipher.specs.Cmac.{last_block, mac_with}
use Rattle.cipher.proofs.Chain.{mac_last}
use Rattle.cipher.proofs.cmac.mac.Goals as goal

pub returns : goal.returns
unfolding mac_with
returns c =
    let l = c in
    let a = l in
    let d = a.args in
    let m = d.message.now in
    let k = d.key in
    let f = cipher k.schedule in
    let at = a.last_at-at.result in
    let e : at - 0 ≡ at = omega arith in
    let n : length (drop at m) ≡ length m - at = length-drop at m in
    let h : length l.last_block-last.result ≡ 16 = search rules in
    c.absorb.ensures
    ∙ chain-block f c.absorb-x.result l.last_block-last.result h
    ∙ ap₂ (λ (y z : List ℕ). f (y ⊕ z))
    (c.absorb-x.ensures ∙ ap (λ (j : ℕ). chain f (zeros 16) (take j m) (length (take j m) / 16)) e)
    (l.last_block-last.ensures ∙ ap (last_block k.k1 k.k2) (take_all (length m - at) (drop at m) (omega arith)))
    ∙ mac_last f m at a.last_at-at.ensures.0 k.k1 k.k2
