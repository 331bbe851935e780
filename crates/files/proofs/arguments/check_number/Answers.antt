-- As `unless` has it.
use Rattle.fips197.proofs.Kit.{ap, ◌∙◌, Bool}
use Rattle.files.specs.Refusals.{unless}
use Rattle.files.specs.Message.{refuse8}
use Rattle.files.proofs.arguments.check_number.Goals as goal

pub returns : goal.returns
unfolding refuse8
returns c = c.unless.ensures ∙ ap (λ (t : Bool). unless t 8 0) c.inside.ensures
