-- As `unless` has it.
use Rattle.fips197.proofs.Kit.{ap, ◌∙◌, Bool, ℕ}
use Rattle.files.specs.Refusals.{unless}
use Rattle.incidence.specs.Count.{inside}
use Rattle.files.specs.Arguments.{refuse4}
use Rattle.files.proofs.arguments.check_count.Goals as goal

pub returns : goal.returns
unfolding refuse4
returns c = c.unless.ensures ∙ ap (λ (t : Bool). unless t 4 0)
    (c.inside.ensures ∙ ap (λ (m : ℕ). inside m c.args.n) c.items.ensures)
