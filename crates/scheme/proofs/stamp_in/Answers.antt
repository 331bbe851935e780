-- The message's number in that version.
use Rattle.fips197.proofs.Kit.{arith}
use Rattle.files.specs.Message.{items_at}
use Rattle.scheme.specs.Calls.{stamp_in}
use Rattle.scheme.proofs.stamp_in.Goals as goal

pub stamp_of-own-requires : goal.stamp_of-own-requires
unfolding items_at
stamp_of-own-requires c = omega (arith, c.requires)

pub returns : goal.returns
unfolding stamp_in
returns c = λ i. record { version = c.args.version; number = (c.stamp_of-own.ensures i).number }
