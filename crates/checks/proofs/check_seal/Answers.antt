-- The seal key is the third of a bundle.
use Rattle.fips197.proofs.Kit.{arith}
use Rattle.blocks.specs.Block.{slot}
use Rattle.tagging.specs.Tagging.{keys_in}
use Rattle.checks.proofs.Checking.{keys_long}
use Rattle.checks.proofs.check_seal.Goals as goal

pub block_at-requires : goal.block_at-requires
unfolding keys_in slot
block_at-requires c = omega (arith, keys_long _ c.requires)

pub returns : goal.returns
unfolding keys_in slot
returns c = cc
