-- By its two tests.
use Rattle.fips197.proofs.Kit.{sym, ◌∙◌}
use Rattle.sizes.specs.Sizes.{plane_code, known}
use Rattle.sizes.proofs.known.Goals as goal

pub returns-then-inside : goal.returns-then-inside
unfolding plane_code known
returns-then-inside c = rw (c.if-inside.true, sym c.inside.ensures ∙ c.if-inside.true)

pub returns-else-inside : goal.returns-else-inside
unfolding plane_code known
returns-else-inside c = rw (sym c.inside.ensures ∙ c.if-inside.false) (c.is_some.ensures ∙ c.affine_of.ensures.whether)
