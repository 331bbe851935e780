-- Unreadable, or the text of both messages (Texts); the parts of the input are those that the definitions name.
use Rattle.std.specs.Prelude.{◌≡◌}
use Rattle.fips197.proofs.Kit.{sym, ◌∙◌, true}
use Rattle.printing.specs.Text.{ascii}
use Rattle.reporting.specs.Printed.{readable}
use Rattle.printing.proofs.Behind.{put_as}
use Rattle.reporting.proofs.Texts.{printed-not, printed-so}
use Rattle.reporting.proofs.put_printed.Goals as goal

pub returns-else-is_readable : goal.returns-else-is_readable
unfolding ascii
returns-else-is_readable g c = put_as _ _ _ _ (printed-not c.args.input.now (sym c.is_readable.ensures.answer ∙ c.if-is_readable.false)) c.put.ensures

pub returns-then-is_readable : goal.returns-then-is_readable
returns-then-is_readable g c =
    let yes : readable c.args.input.now ≡ true = sym c.is_readable.ensures.answer ∙ c.if-is_readable.true in
    put_as _ _ _ _ (printed-so c.args.input.now yes c.number16-end.result c.number16-end.ensures.0) c.put_both.ensures
