use Rattle.std.specs.Prelude.{◌≡◌}
use Rattle.blocks.specs.Chain.{chain}
use Rattle.fips197.specs.Aes.{cipher}
use Rattle.fips197.specs.Words.{state_of}
use Rattle.tables.proofs.rounds.absorb.Given as goal

abbrev pub invariant-loop-i : goal.invariant-loop-i
invariant-loop-i l = state_of l.y.a l.y.b l.y.c l.y.d ≡ chain (cipher l.w) (state_of l.initial.y.a l.initial.y.b l.initial.y.c l.initial.y.d) l.s l.i
