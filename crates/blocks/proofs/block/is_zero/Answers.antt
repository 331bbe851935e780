-- The OR of the bytes passed and the bytes left decide (Zeros).
use Rattle.std.specs.Prelude.{◌≡◌}
use Rattle.fips197.proofs.Kit.{refl, sym, ◌∙◌, arith, length, take, drop, length-drop, length-take, get_or-take, get_or-drop}
use Rattle.blocks.proofs.Zeros.{zero_more, zero_end}
use Rattle.blocks.proofs.block.is_zero.Goals as goal

pub loop-i-init : goal.loop-i-init
loop-i-init c = refl

pub loop-i-preserved : goal.loop-i-preserved
loop-i-preserved c =
    let l = c in
    let s = l.args.s.now in
    let at = l.args.at in
    let i = l.loop-i.i in
    let n : length (take 16 (drop at s)) ≡ 16 = simp (length-take, length-drop) (omega arith) in
    l.loop-i.invariant
    ∙ zero_more (take 16 (drop at s)) 16 i l.loop-i.any _ (omega arith) (omega arith) (sym (get_or-take 16 (drop at s) i 0 (omega arith) ∙ get_or-drop at s i 0))

pub returns : goal.returns
returns c =
    let l = c in
    let s = l.args.s.now in
    let at = l.args.at in
    let n : length (take 16 (drop at s)) ≡ 16 = simp (length-take, length-drop) (omega arith) in
    sym (l.loop-i.invariant ∙ zero_end (take 16 (drop at s)) 16 l.loop-i.i l.loop-i.any (omega arith) (omega arith))
