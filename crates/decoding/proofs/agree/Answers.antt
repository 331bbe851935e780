-- The difference, looked at.
use Rattle.blocks.specs.Block.{slot}
use Rattle.sums.specs.Adding.{sum_in}
use Rattle.decoding.specs.Decoding.{agrees_in}
use Rattle.decoding.proofs.agree.Goals as goal

pub returns : goal.returns
unfolding agrees_in sum_in slot
returns c = c.is_zero.ensures
