-- The two bytes behind the letters.
use Rattle.fips197.proofs.Kit.{ap, ◌∙◌, arith}
use Rattle.blocks.specs.Number.{number}
use Rattle.stamp.specs.Front.{version_of}
use Rattle.stamp.proofs.Fronts.{two_at}
use Rattle.stamp.proofs.version_of.Goals as goal

pub returns : goal.returns
unfolding version_of
returns c = c.from_be16.ensures ∙ ap number (two_at c.args.s.now 3 (omega arith))
