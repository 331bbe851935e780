-- As `unless` has it.
use Rattle.fips197.proofs.Kit.{ap, ◌∙◌, Bool}
use Rattle.files.specs.Refusals.{unless}
use Rattle.files.specs.Arguments.{refuse2}
use Rattle.files.proofs.arguments.check_code.Goals as goal

pub returns : goal.returns
unfolding refuse2
returns c = c.unless.ensures ∙ ap (λ (t : Bool). unless t 2 0) c.known.ensures
