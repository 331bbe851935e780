-- As `unless` has it.
use Rattle.files.specs.Arguments.{refuse7}
use Rattle.files.proofs.arguments.check_room.Goals as goal

pub returns : goal.returns
unfolding refuse7
returns c = c.unless.ensures
