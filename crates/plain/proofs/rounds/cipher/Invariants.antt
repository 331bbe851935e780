use Rattle.std.specs.Prelude.{◌≡◌, ◌-◌}
use Rattle.fips197.specs.Aes.{rounds}
use Rattle.fips197.specs.Words.{state_of}
use Rattle.plain.proofs.rounds.cipher.Given as goal

abbrev pub invariant-loop-n : goal.invariant-loop-n
invariant-loop-n l = state_of l.s.a l.s.b l.s.c l.s.d ≡ rounds l.w (l.n - 1) (state_of l.initial.s.a l.initial.s.b l.initial.s.c l.initial.s.d)
