-- Each turn takes a line off.
use Rattle.std.proofs.Common.{length}
use Rattle.trial.proofs.line.run_all.Given as goal

abbrev pub decreases-loop-rest : goal.decreases-loop-rest
decreases-loop-rest g l = length l.rest
