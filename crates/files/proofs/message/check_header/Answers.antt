-- What the file begins with, then its length.
use Rattle.fips197.proofs.Kit.{sym, ap, ◌∙◌, Bool}
use Rattle.files.specs.Refusals.{unless}
use Rattle.files.specs.Message.{message_letters, newest_message, items_at, refuse3}
use Rattle.files.proofs.Passing.{unless-and, unless_not}
use Rattle.files.proofs.message.check_header.Goals.{then-begins, else-begins}
use Rattle.files.proofs.message.check_header.Goals as goal

pub returns : goal.returns
unfolding refuse3 items_at message_letters newest_message
returns c =
    let at = λ (t : Bool). unless t 3 0 in
    c.unless.ensures
    ∙ elim c.if-begins.branch [
      | then-begins w ↦ ap at w.unless-is ∙ unless-and _ _ 3 0 (sym c.begins_as-begins.ensures ∙ w.if-begins.true)
      | else-begins w ↦ ap at (w.unless-is ∙ w.if-begins.false) ∙ unless_not _ _ 3 0 (sym c.begins_as-begins.ensures ∙ w.if-begins.false)
    ]
