-- Both tests, or the first alone (TagFiles).
use Rattle.fips197.proofs.Kit.{sym, ap, ◌∙◌, eqb, length}
use Rattle.files.specs.declared.tagfile.Head.{Head}
use Rattle.files.specs.TagFile.{head_of, count_fits, file_size}
use Rattle.files.proofs.TagFiles.{both_left, both_right}
use Rattle.files.proofs.tagfile.fits.Goals as goal

pub returns-then-count_fits : goal.returns-then-count_fits
unfolding head_of
returns-then-count_fits c =
    let n = length c.args.s.now in
    ap (eqb n) (c.file_size.ensures.0 ∙ ap file_size c.head_of-h.ensures.0)
    ∙ both_right _ _ _ (sym (c.count_fits.ensures ∙ ap (λ (x : Head). count_fits x.code x.count) c.head_of-h.ensures.0)) c.if-count_fits.true

pub returns-else-count_fits : goal.returns-else-count_fits
unfolding head_of
returns-else-count_fits c =
    both_left _ _ _ (sym (c.count_fits.ensures ∙ ap (λ (x : Head). count_fits x.code x.count) c.head_of-h.ensures.0)) c.if-count_fits.false
