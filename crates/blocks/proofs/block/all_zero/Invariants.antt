use Rattle.std.specs.Prelude.{◌≡◌}
use Rattle.fips197.proofs.Kit.{true}
use Rattle.blocks.specs.Block.{all_zero}
use Rattle.blocks.proofs.block.all_zero.Given as goal

abbrev pub invariant-loop-k : goal.invariant-loop-k
invariant-loop-k l = all_zero l.s l.k ≡ true
