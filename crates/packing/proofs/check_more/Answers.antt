-- The count stands in a file that 3 does not refuse.
use Rattle.fips197.proofs.Kit.{ap, ◌∙◌, ℕ, ltb}
use Rattle.files.specs.Refusals.{unless}
use Rattle.packing.proofs.check_more.Goals as goal

pub returns : goal.returns
returns c = c.unless.ensures ∙ ap (λ (n : ℕ). unless (ltb n 65535) 3 0) c.count.ensures.0
