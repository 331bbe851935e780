-- As `unless` has it.
use Rattle.session.specs.Session.{refuse22}
use Rattle.session.proofs.Session.check_more.Goals as goal

pub returns : goal.returns
unfolding refuse22
returns c = c.unless.ensures
