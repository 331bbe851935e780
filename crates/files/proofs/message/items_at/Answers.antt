-- Two bytes behind letters, version and number.
use Rattle.fips197.proofs.Kit.{arith}
use Rattle.files.specs.Message.{items_at}
use Rattle.files.proofs.message.items_at.Goals as goal

pub returns : goal.returns
unfolding items_at
returns c = (omega (arith, c.front_size.ensures.0), omega (arith, c.front_size.ensures.2))

pub overflow_add-result : goal.overflow_add-result
overflow_add-result c = omega (arith, c.front_size.ensures.2)
