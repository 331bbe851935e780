-- The number of the digits so far, and what is left (Reading).
use Rattle.command.proofs.Reading.{Reading}
use Rattle.command.proofs.numbers.number_in.Given as goal

abbrev pub invariant-loop-b : goal.invariant-loop-b
invariant-loop-b l = Reading l.text l.value l.b-index
