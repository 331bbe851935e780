-- Refused or done, what is put is the text (Texts).
use Rattle.files.proofs.Passing.{number-low}
use Rattle.fips197.proofs.Kit.{refl, arith, ap, ◌∙◌}
use Rattle.printing.proofs.Behind.{put_as}
use Rattle.files.specs.declared.tagfile.Head.{Head}
use Rattle.files.specs.TagFile.{file_size}
use Rattle.tagging.specs.Tagging.{tag_head}
use Rattle.checks.proofs.Checking.{taggable}
use Rattle.reporting.proofs.Texts.{tag_refused, tag_done, tag_file_lem}
use Rattle.reporting.proofs.put_both.Goals as goal

pub returns-in-Err : goal.returns-in-Err
returns-in-Err g c =
    let a = c.args in
    put_as _ _ _ _ (tag_refused (a.keys.now) a.code (a.first.now) (a.second.now) _ c.in-Err.ensures.refused (λ z. let l = number-low c.in-Err.refused.reason in absurd (omega arith))) c.put_refused.ensures.written

pub head_for-head-requires : goal.head_for-head-requires
head_for-head-requires g c =
    let a = c.args in
    let T = taggable (a.keys.now) a.code (a.first.now) 1340 _ c.in-Ok.ensures.refused refl in
    T.message.long

pub returns-in-Ok : goal.returns-in-Ok
unfolding tag_head
returns-in-Ok g c =
    let a = c.args in
    let f = tag_file_lem (a.keys.now) a.code (a.first.now) (a.second.now) _ c.in-Ok.ensures.refused refl _ _ (c.file_size-end.ensures.0 ∙ ap file_size c.head_for-head.ensures) c.tag.ensures.written in
    put_as _ _ _ _ (tag_done (a.keys.now) a.code (a.first.now) (a.second.now) _ c.in-Ok.ensures.refused refl _ _ (ap (λ (x : Head). x.count) c.head_for-head.ensures) f) c.put_report.ensures
