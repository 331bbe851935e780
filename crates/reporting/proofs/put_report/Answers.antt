-- Refused or done, what is put is the text (Texts).
use Rattle.std.specs.Prelude.{◌≡◌}
use Rattle.files.proofs.Passing.{number-low}
use Rattle.fips197.proofs.Kit.{refl, ◌∙◌, arith, length, length-take, rules}
use Rattle.printing.proofs.Behind.{put_as}
use Rattle.checks.proofs.Checking.{reportable}
use Rattle.reporting.proofs.Texts.{report_refused, report_done, report_front}
use Rattle.reporting.proofs.put_report.Goals as goal

pub item_count-k-requires : goal.item_count-k-requires
item_count-k-requires g c =
    let a = c.args in
    let R = reportable (a.keys.now) (a.s.now) (a.file.now) 273 _ c.in-Ok.ensures.refused refl in
    R.files.message.long

pub slice_bounds-marks-end : goal.slice_bounds-marks-end
slice_bounds-marks-end g c =
    let a = c.args in
    let R = reportable (a.keys.now) (a.s.now) (a.file.now) 273 _ c.in-Ok.ensures.refused refl in
    let long : length c.report.new.marks ≡ 273 = search rules in
    omega (arith, R.fits, c.item_count-k.ensures.0, long)

pub slice_bounds-put_report-end : goal.slice_bounds-put_report-end
slice_bounds-put_report-end g c =
    let a = c.args in
    let R = reportable (a.keys.now) (a.s.now) (a.file.now) 273 _ c.in-Ok.ensures.refused refl in
    let long : length c.report.new.marks ≡ 273 = search rules in
    simp length-take (omega (arith, R.fits, c.item_count-k.ensures.0, long))

pub put_report-requires : goal.put_report-requires
put_report-requires g c =
    let long : length c.report.new.marks ≡ 273 = search rules in
    (search rules, simp length-take (omega (arith, long)))

pub returns-in-Err : goal.returns-in-Err
returns-in-Err g c =
    let a = c.args in
    put_as _ _ _ _ (report_refused (a.keys.now) a.code a.n (a.s.now) (a.file.now) _ c.in-Err.ensures.refused (λ z. let l = number-low c.in-Err.refused.reason in absurd (omega arith))) c.put_refused.ensures.written

pub returns-in-Ok : goal.returns-in-Ok
returns-in-Ok g c =
    let a = c.args in
    let e = c.in-Ok.ensures in
    let R = reportable (a.keys.now) (a.s.now) (a.file.now) 273 _ e.refused refl in
    let long : length c.report.new.marks ≡ 273 = search rules in
    put_as _ _ _ _
    (report_front a.code a.n _ _ _ c.report.new.marks c.item_count-k.result (omega (arith, R.fits, c.item_count-k.ensures.0, long))
    ∙ report_done (a.keys.now) a.code a.n (a.s.now) (a.file.now) _ e.refused refl _ _ _ _ _ e.answer e.named e.rows e.written c.item_count-k.ensures.0) c.put_report.ensures.written
