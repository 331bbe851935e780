use Rattle.fips197.specs.Words.{state_of}
use Rattle.fips197.proofs.Schedules.{Written}
use Rattle.fips197.proofs.schedule.expand.Given as goal

abbrev pub invariant-loop-n : goal.invariant-loop-n
invariant-loop-n g l = Written (state_of l.initial.k.a l.initial.k.b l.initial.k.c l.initial.k.d) l.w l.n l.k
