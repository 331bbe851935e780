-- By its two tests.
use Rattle.std.specs.Prelude.{◌&&◌}
use Rattle.fips197.proofs.Kit.{sym, ap, ◌∙◌, Bool, leb}
use Rattle.incidence.proofs.Booleans.{and_false_l}
use Rattle.session.specs.Session.{session_is_open}
use Rattle.session.proofs.Session.is_open.Goals as goal

pub returns-then-count_fits : goal.returns-then-count_fits
unfolding session_is_open
returns-then-count_fits c =
    let s = c.args.self in
    sym (ap (λ (t : Bool). t && leb s.taken s.count) (sym c.count_fits.ensures ∙ c.if-count_fits.true))

pub returns-else-count_fits : goal.returns-else-count_fits
unfolding session_is_open
returns-else-count_fits c =
    let s = c.args.self in
    c.if-count_fits.false ∙ sym (and_false_l _ (leb s.taken s.count) (sym c.count_fits.ensures ∙ c.if-count_fits.false))
