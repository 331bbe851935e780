-- What Append says of the card, at its place (Placing).
use Rattle.fips197.proofs.Kit.{arith}
use Rattle.command.proofs.Placing.{none_said, size_more, size-inside, size_small}
use Rattle.command.proofs.packs.add_card.Goals as goal

pub overflow_add-result : goal.overflow_add-result
overflow_add-result c = omega (arith, size_small c.args.file.now c.args.n c.args.card.now c.args.k c.in-Ok.ensures.refused)

pub overflow_add-result-in-Ok : goal.overflow_add-result-in-Ok
overflow_add-result-in-Ok c = omega (arith, size_small c.args.file.now c.args.n c.args.card.now c.args.k c.in-Ok.ensures.refused)

pub returns-in-Ok-clause-refused : goal.returns-in-Ok-clause-refused
returns-in-Ok-clause-refused c = none_said c.args.file.now c.args.n c.args.card.now c.args.k c.in-Ok.ensures.refused

pub returns-in-Ok-clause-size : goal.returns-in-Ok-clause-size
returns-in-Ok-clause-size c = size_more c.args.file.now c.args.n c.args.card.now c.args.k c.in-Ok.ensures.refused

pub returns-in-Ok-clause-inside : goal.returns-in-Ok-clause-inside
returns-in-Ok-clause-inside c =
    omega (arith, size-inside c.args.file.now c.args.n c.args.card.now c.args.k c.in-Ok.ensures.refused)
