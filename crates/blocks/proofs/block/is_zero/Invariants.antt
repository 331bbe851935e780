use Rattle.std.specs.Prelude.{◌≡◌, ◌&&◌}
use Rattle.fips197.proofs.Kit.{eqb, take, drop}
use Rattle.blocks.specs.Block.{zeros, same}
use Rattle.blocks.proofs.block.is_zero.Given as goal

abbrev pub invariant-loop-i : goal.invariant-loop-i
invariant-loop-i l =
    same (take 16 (drop l.at l.s)) (zeros 16) ≡ (eqb l.any 0 && same (drop l.i (take 16 (drop l.at l.s))) (drop l.i (zeros 16)))
