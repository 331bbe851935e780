-- The count stands in a file that 3 does not refuse.
use Rattle.fips197.proofs.Kit.{arith}
use Rattle.files.proofs.Messages.{headed}
use Rattle.files.proofs.message.Headed.count.Goals as goal

pub item_count-requires : goal.item_count-requires
item_count-requires c = omega (arith, headed _ c.args.self.now.headed)
