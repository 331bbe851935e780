-- Each turn writes one shifted byte; the last takes the mark (Doubling).
use Rattle.std.specs.Prelude.{◌≡◌, ◌+◌, ◌*◌, ◌/◌, ◌%◌, ◌<◌}
use Rattle.fips197.proofs.Kit.{refl, sym, ap, ◌∙◌, ℕ, arith, add-one, length, get_or, bit_xor, Fits, w8, rules}
use Rattle.blocks.proofs.Loop.{part, part_turn, part_done}
use Rattle.blocks.specs.Block.{Block, zeros}
use Rattle.blocks.proofs.Xor.{bytes_from}
use Rattle.blocks.specs.Double.{double}
use Rattle.blocks.proofs.Doubling.{double-at, double-last, double-length, or_shifted_bit, masked_bit}
use Rattle.blocks.proofs.block.double.Goals as goal

pub loop-i-preserved : goal.loop-i-preserved
loop-i-preserved c =
    let b = c.args.b in
    let i = c.loop-i.i in
    let h : length b ≡ 16 = search rules in
    let f : (k : ℕ) → k < length b → Fits w8 (get_or b k 0) = λ k l. (let l' : k < 16 = omega arith in search rules) in
    let bl : Block b = record { long = h; bytes = bytes_from b (λ k l. (f k l).fits) } in
    let n : length (double b) ≡ 16 = double-length b in
    part_turn i (double b) _ _ _ c.loop-i.invariant (omega arith) (omega arith)
    (or_shifted_bit (get_or b i 0) (get_or b (i + 1) 0) (f (i + 1) (omega arith)).fits
    ∙ ap (λ (k : ℕ). get_or b i 0 * 2 % 256 + get_or b k 0 / 128) (add-one i)
    ∙ sym (double-at b bl i (omega arith)))

pub returns : goal.returns
returns c =
    let b = c.args.b in
    let h : length b ≡ 16 = search rules in
    let f : (k : ℕ) → k < length b → Fits w8 (get_or b k 0) = λ k l. (let l' : k < 16 = omega arith in search rules) in
    let bl : Block b = record { long = h; bytes = bytes_from b (λ k l. (f k l).fits) } in
    let n : length (double b) ≡ 16 = double-length b in
    let e : c.loop-i.i ≡ 15 = omega arith in
    let m = masked_bit (get_or b 0 0) c.wrapping_sub_u8-lost.result (f 0 (omega arith)).fits (search rules) c.wrapping_sub_u8-lost.ensures.value in
    part_done 16 16 (double b) (zeros 16) _
    (part_turn 15 (double b) (zeros 16) _ _ (c.loop-i.invariant ∙ ap (λ (k : ℕ). part k (double b) (zeros 16)) e) (omega arith) (omega arith)
    (ap (bit_xor (get_or b 15 0 * 2 % 256)) m ∙ sym (double-last b bl)))
    (omega arith) n refl
