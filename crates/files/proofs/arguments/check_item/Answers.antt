-- As `unless` has it.
use Rattle.files.specs.Arguments.{refuse9}
use Rattle.files.proofs.arguments.check_item.Goals as goal

pub returns : goal.returns
unfolding refuse9
returns c = c.unless.ensures
