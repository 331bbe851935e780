-- Each turn writes one byte of the XOR (Loop).
use Rattle.std.specs.Prelude.{◌≡◌}
use Rattle.fips197.proofs.Kit.{sym, ap, ◌∙◌, ℕ, arith, length, get_or, bit_xor, rules}
use Rattle.blocks.proofs.Loop.{part_turn, part_read, part_done}
use Rattle.blocks.specs.Block.{◌⊕◌}
use Rattle.blocks.proofs.Xor.{⊕-length, ⊕-at}
use Rattle.blocks.proofs.block.xor.Goals as goal

pub loop-i-preserved : goal.loop-i-preserved
loop-i-preserved c =
    let a = c.args.a in
    let b = c.args.b in
    let h : length a ≡ 16 = search rules in
    let k : length b ≡ 16 = search rules in
    let l : length (a ⊕ b) ≡ length a = ⊕-length a b (omega arith) in
    let i = c.loop-i.i in
    part_turn i (a ⊕ b) a _ _ c.loop-i.invariant (omega arith) (omega arith)
    (ap (λ (x : ℕ). bit_xor x (get_or b i 0)) (part_read i (a ⊕ b) a _ c.loop-i.invariant (omega arith)) ∙ sym (⊕-at a b i (omega arith) (omega arith)))

pub returns : goal.returns
returns c =
    let a = c.args.a in
    let b = c.args.b in
    let h : length a ≡ 16 = search rules in
    let k : length b ≡ 16 = search rules in
    part_done 16 c.loop-i.i (a ⊕ b) a _ c.loop-i.invariant (omega arith) (⊕-length a b (omega arith) ∙ h) h
