-- As `unless` has it.
use Rattle.fips197.proofs.Kit.{ap, ◌∙◌, Bool}
use Rattle.files.specs.Refusals.{unless}
use Rattle.session.specs.Session.{refuse24}
use Rattle.session.proofs.Session.check_open.Goals as goal

pub returns : goal.returns
unfolding refuse24
returns c = c.unless.ensures ∙ ap (λ (t : Bool). unless t 24 0) c.is_open.ensures
