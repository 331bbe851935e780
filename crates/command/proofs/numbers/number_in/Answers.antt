-- What is read and what is left (Reading).
use Rattle.fips197.proofs.Kit.{rules}
use Rattle.command.proofs.Reading.{reading_empty, reading_next, reading_stops, reading_done}
use Rattle.command.proofs.numbers.number_in.Goals as goal

pub returns-then-is_empty : goal.returns-then-is_empty
returns-then-is_empty c = search (rules, reading_empty)

pub returns-in_err-value : goal.returns-in_err-value
returns-in_err-value c = search (rules, reading_stops)

pub loop-b-preserved : goal.loop-b-preserved
loop-b-preserved c =
    reading_next c.args.text.now c.loop-b.value c.loop-b.b-index c.loop-b.invariant c.loop-b-test.true _ c.with_digit.ensures _ (search rules)

pub returns : goal.returns
returns c = search (rules, reading_done)
