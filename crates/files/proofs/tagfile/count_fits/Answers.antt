-- Both tests, or the first alone (TagFiles).
use Rattle.fips197.proofs.Kit.{sym, ap, ◌∙◌, ℕ}
use Rattle.incidence.specs.Count.{inside}
use Rattle.files.specs.TagFile.{count_fits}
use Rattle.files.proofs.TagFiles.{both_left, both_right}
use Rattle.files.proofs.tagfile.count_fits.Goals as goal

pub returns-then-known : goal.returns-then-known
unfolding count_fits
returns-then-known c =
    c.inside.ensures ∙ ap (λ (m : ℕ). inside m c.args.n) c.items.ensures ∙ both_right _ _ _ (sym c.known.ensures) c.if-known.true

pub returns-else-known : goal.returns-else-known
unfolding count_fits
returns-else-known c = both_left _ _ _ (sym c.known.ensures) c.if-known.false
