-- Both counts stand in files that are not refused.
use Rattle.fips197.proofs.Kit.{ap₂, ap, ◌∙◌, ℕ, eqb}
use Rattle.files.specs.Refusals.{unless}
use Rattle.files.specs.declared.tagfile.Head.{Head}
use Rattle.files.specs.TagFile.{head_of}
use Rattle.checks.specs.Refused.{refuse21}
use Rattle.checks.proofs.check_counts.Goals as goal

pub returns : goal.returns
unfolding refuse21 head_of
returns c =
    c.unless.ensures
    ∙ ap₂ (λ (a b : ℕ). unless (eqb a b) 21 0) c.count.ensures.0 (ap (λ (h : Head). h.count) c.head.ensures.0)
