-- Each arm has its answer's word.
use Rattle.fips197.proofs.Kit.{sym, ap}
use Rattle.printing.specs.Text.{ascii}
use Rattle.printing.specs.Lines.{answer_word}
use Rattle.printing.proofs.word.Goals as goal

pub returns-in-Intact : goal.returns-in-Intact
unfolding answer_word ascii
returns-in-Intact c = sym (ap answer_word c.in-Intact.is)

pub returns-in-Named : goal.returns-in-Named
unfolding answer_word ascii
returns-in-Named c = sym (ap answer_word c.in-Named.is)

pub returns-in-Beyond : goal.returns-in-Beyond
unfolding answer_word ascii
returns-in-Beyond c = sym (ap answer_word c.in-Beyond.is)
