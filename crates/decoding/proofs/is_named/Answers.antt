-- By its two tests.
use Rattle.fips197.proofs.Kit.{sym, ◌∙◌}
use Rattle.decoding.specs.Decoding.{mark_in, is_marked}
use Rattle.decoding.proofs.is_named.Goals as goal

pub returns-then-inside : goal.returns-then-inside
unfolding is_marked mark_in
returns-then-inside c = rw (sym c.inside.ensures ∙ c.if-inside.true)
