-- Each turn passes one step; those that are to be written stand at the front (Steps).
use Rattle.fips197.proofs.Kit.{rules}
use Rattle.cyclic.proofs.Steps.{steps_begun, steps_read, steps_few, steps_room, steps_next, steps_written, steps_counted}
use Rattle.cyclic.proofs.put_steps.Goals as goal

pub loop-k-init : goal.loop-k-init
loop-k-init c = search (rules, steps_begun)

pub bounds-h-n : goal.bounds-h-n
bounds-h-n c = search (rules, steps_read)

pub put_step-at-requires : goal.put_step-at-requires
put_step-at-requires c = search (rules, steps_room, steps_few)

pub loop-k-preserved : goal.loop-k-preserved
loop-k-preserved c = search (rules, steps_next)

pub returns : goal.returns
returns c = search (rules, steps_written, steps_counted)
