-- What the file begins with, then what it says of itself (Passing).
use Rattle.std.specs.Prelude.{◌≡◌, ◌+◌}
use Rattle.fips197.proofs.Kit.{sym, ap, ◌∙◌, ℕ, Bool, arith}
use Rattle.stamp.specs.Front.{front_size, version_of, begins_as}
use Rattle.stamp.proofs.Fronts.{begins_as_so}
use Rattle.files.specs.Refusals.{unless}
use Rattle.files.specs.TagFile.{tag_letters, newest_tag_file, tags_at, refuse6}
use Rattle.files.proofs.Passing.{unless-and, unless_not}
use Rattle.files.proofs.tagfile.check.Goals.{then-begins, else-begins}
use Rattle.files.proofs.tagfile.check.Goals as goal

pub fits-requires : goal.fits-requires
unfolding tags_at tag_letters newest_tag_file
fits-requires c =
    let B = begins_as_so tag_letters newest_tag_file c.args.s.now _ (sym c.begins_as-begins.ensures ∙ c.if-begins.true) in
    omega (arith, B.long)

pub returns : goal.returns
unfolding refuse6 tags_at tag_letters newest_tag_file
returns c =
    let s = c.args.s.now in
    let e : front_size (version_of s) + 19 ≡ front_size (version_of s) + 3 + 16 = omega arith in
    let begins = sym (c.begins_as-begins.ensures ∙ ap (λ (k : ℕ). begins_as tag_letters newest_tag_file k s) e) in
    let at = λ (t : Bool). unless t 6 0 in
    c.unless.ensures
    ∙ elim c.if-begins.branch [
      | then-begins w ↦ ap at (w.unless-is ∙ w.fits.ensures) ∙ unless-and _ _ 6 0 (begins ∙ w.if-begins.true)
      | else-begins w ↦ ap at (w.unless-is ∙ w.if-begins.false) ∙ unless_not _ _ 6 0 (begins ∙ w.if-begins.false)
    ]
