-- As it is written.
use Rattle.fips197.proofs.Kit.{refl}
use Rattle.session.specs.Session.{closed}
use Rattle.session.proofs.closed.Goals as goal

pub returns : goal.returns
unfolding closed
returns c = refl
