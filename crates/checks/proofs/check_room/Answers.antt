-- The length of the message's tag file.
use Rattle.fips197.proofs.Kit.{ap, ◌∙◌, arith, ℕ}
use Rattle.files.specs.Arguments.{refuse7}
use Rattle.files.specs.TagFile.{file_size}
use Rattle.files.proofs.Messages.{headed}
use Rattle.checks.proofs.check_room.Goals as goal

pub returns : goal.returns
returns c =
    c.check_room.ensures ∙ ap (λ (n : ℕ). refuse7 n c.args.room) (c.file_size.ensures.0 ∙ ap file_size c.head_for-head.ensures)

pub head_for-head-requires : goal.head_for-head-requires
head_for-head-requires c = omega (arith, headed _ c.args.message.now.headed)
