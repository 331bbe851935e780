-- The two bytes at the place (Fronts).
use Rattle.fips197.proofs.Kit.{ap, ◌∙◌, arith, rules}
use Rattle.files.specs.Message.{number16}
use Rattle.stamp.proofs.Fronts.{two_at}
use Rattle.blocks.specs.Number.{number}
use Rattle.files.proofs.message.number16.Goals as goal

pub returns : goal.returns
unfolding number16
returns c =
    (c.from_be16.ensures ∙ ap number (two_at c.args.s.now c.args.at (omega arith)), search rules)
