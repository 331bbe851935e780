-- Three texts, one behind the other (Behind).
use Rattle.fips197.proofs.Kit.{length}
use Rattle.printing.specs.Lines.{limits_line, answer_line, card_lines, report_lines}
use Rattle.printing.proofs.Behind.{three}
use Rattle.printing.proofs.Text.put_report.Goals as goal

pub returns-clause-written : goal.returns-clause-written
unfolding report_lines
returns-clause-written g c =
    let a = c.args in
    three a.self.now (limits_line a.code a.n) (answer_line a.found.answer a.found.named a.found.rows) (card_lines a.marks.now (length a.marks.now)) c.put_limits.ensures.written c.put_answer.ensures.written c.put_cards.ensures.written
