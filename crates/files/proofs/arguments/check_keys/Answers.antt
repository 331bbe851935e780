-- As `unless` has it.
use Rattle.files.specs.Arguments.{refuse1}
use Rattle.files.proofs.arguments.check_keys.Goals as goal

pub returns : goal.returns
unfolding refuse1
returns c = c.unless.ensures
