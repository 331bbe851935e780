-- Each turn takes a word off.
use Rattle.std.proofs.Common.{length}
use Rattle.trial.proofs.line.follow.Given as goal

abbrev pub decreases-loop-rest : goal.decreases-loop-rest
decreases-loop-rest l = length l.rest
