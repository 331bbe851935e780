-- The place behind no item.
use Rattle.fips197.proofs.Kit.{ap, ◌∙◌, arith}
use Rattle.stamp.specs.Front.{version_of}
use Rattle.stamp.proofs.Fronts.{front_low}
use Rattle.files.specs.Message.{items_at, behind}
use Rattle.files.proofs.message.first_at.Goals as goal

pub version_of-requires : goal.version_of-requires
unfolding items_at
version_of-requires c = omega (arith, c.requires, front_low (version_of c.args.s.now))

pub returns : goal.returns
unfolding behind
returns c = c.items_at.ensures.0 ∙ ap items_at c.version_of.ensures
