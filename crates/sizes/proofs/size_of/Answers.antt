-- By the code's kind (Laws).
use Rattle.fips197.proofs.Kit.{refl, sym}
use Rattle.sizes.specs.Sizes.{family_of}
use Rattle.sizes.proofs.Laws.{plane_family}
use Rattle.sizes.proofs.size_of.Goals as goal

pub returns-in-Some : goal.returns-in-Some
unfolding family_of
returns-in-Some c = let w = c.in-Some.ensures in rw (sym w.whether, w.which.0, w.which.1)

pub returns-in-None : goal.returns-in-None
returns-in-None c = plane_family c.args.code c.in-None.ensures.whether refl
