-- A number of 64 bits that is below 2^32, or none (Reading).
use Rattle.fips197.proofs.Kit.{rules}
use Rattle.command.proofs.Reading.{none_32, over_32, below_32}
use Rattle.command.proofs.numbers.number32_in.Goals as goal

pub returns-in_err-number : goal.returns-in_err-number
returns-in_err-number c = search (rules, none_32)

pub returns : goal.returns
returns c = search (rules, over_32, below_32)
