use Rattle.blocks.specs.Block.{slot}
use Rattle.blocks.proofs.Slots.{Front}
use Rattle.blocks.proofs.block.copy_blocks.Given as goal

abbrev pub invariant-loop-k : goal.invariant-loop-k
invariant-loop-k l = Front (slot l.s) l.initial.out l.k l.out
