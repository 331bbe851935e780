-- A file that 6 does not refuse has the length of its size code.
use Rattle.fips197.proofs.Kit.{ap, ◌∙◌, ℕ}
use Rattle.files.specs.Arguments.{refuse7}
use Rattle.files.proofs.Accepted.{formed}
use Rattle.files.proofs.tagfile.Formed.check_room.Goals as goal

pub returns : goal.returns
returns c =
    c.check_room.ensures ∙ ap (λ (n : ℕ). refuse7 n c.args.room) (formed _ c.args.self.now.formed).size
