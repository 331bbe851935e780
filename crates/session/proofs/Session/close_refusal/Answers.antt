-- 24, 23 and 7 (Passing).
use Rattle.fips197.proofs.Kit.{ap, ◌∙◌, ℕ}
use Rattle.files.specs.Arguments.{refuse7}
use Rattle.files.specs.TagFile.{file_size}
use Rattle.files.proofs.Passing.{told_past, told_last}
use Rattle.session.proofs.Session.close_refusal.Goals as goal

pub returns : goal.returns
returns c =
    let short = c.check_room.ensures ∙ ap (λ (n : ℕ). refuse7 n c.args.room) (c.file_size.ensures.0 ∙ ap file_size c.head.ensures) in
    told_past _ _ _ c.in_ok-check_open.ensures (told_past _ _ _ c.in_ok-check_all.ensures (told_last _ _ short))
