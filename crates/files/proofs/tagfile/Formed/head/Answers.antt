-- It stands in a file that 6 does not refuse.
use Rattle.fips197.proofs.Kit.{arith}
use Rattle.files.proofs.Accepted.{formed}
use Rattle.files.proofs.tagfile.Formed.head.Goals as goal

pub head_of-requires : goal.head_of-requires
head_of-requires c = omega (arith, formed _ c.args.self.now.formed)
