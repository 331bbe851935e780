-- A size's field is one of the two (Computing).
use Rattle.fips197.proofs.Kit.{sym, ◌∙◌}
use Rattle.affine.proofs.Computing.{sized-offered}
use Rattle.affine.proofs.Affine.new.Goals as goal

pub invariant_of-field : goal.invariant_of-field
invariant_of-field c = record { here = sized-offered c.args.s c.args.l (sym c.sized.ensures ∙ c.if-sized.true) }
