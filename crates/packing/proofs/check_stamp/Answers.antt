-- By its test.
use Rattle.fips197.proofs.Kit.{ap, ◌∙◌, Bool}
use Rattle.files.specs.Refusals.{unless}
use Rattle.packing.proofs.check_stamp.Goals as goal

pub returns : goal.returns
returns c = c.unless.ensures ∙ ap (λ (t : Bool). unless t 3 0) c.stamp_fits.ensures
