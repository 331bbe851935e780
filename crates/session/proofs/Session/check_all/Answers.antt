-- As `unless` has it.
use Rattle.session.specs.Session.{refuse23}
use Rattle.session.proofs.Session.check_all.Goals as goal

pub returns : goal.returns
unfolding refuse23
returns c = c.unless.ensures
