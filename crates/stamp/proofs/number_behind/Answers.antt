-- The four bytes behind the version.
use Rattle.fips197.proofs.Kit.{ap, ◌∙◌, arith}
use Rattle.blocks.specs.Number.{number}
use Rattle.stamp.proofs.Fronts.{four_at}
use Rattle.stamp.proofs.number_behind.Goals as goal

pub returns : goal.returns
returns c = c.from_be32.ensures ∙ ap number (four_at c.args.s.now 5 (omega arith))
