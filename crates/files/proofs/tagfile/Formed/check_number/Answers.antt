-- The count stands in a file that 6 does not refuse.
use Rattle.fips197.proofs.Kit.{ap, ◌∙◌}
use Rattle.files.specs.TagFile.{head_of}
use Rattle.files.specs.declared.tagfile.Head.{Head}
use Rattle.files.specs.Message.{refuse8}
use Rattle.files.proofs.tagfile.Formed.check_number.Goals as goal

pub returns : goal.returns
unfolding head_of
returns c = c.check_number.ensures ∙ ap (λ (h : Head). refuse8 h.count c.args.j) c.head.ensures.0
