use Rattle.std.specs.Prelude.{◌≡◌, ◌-◌}
use Rattle.fips197.proofs.Kit.{List, ℕ, length}
use Rattle.fips197.specs.Aes.{inv_rounds}
use Rattle.fips197.specs.Words.{state_of}
use Rattle.tables.specs.RoundTables.{DecipherWords}
use Rattle.tables.proofs.rounds.inv_cipher.Given as goal

abbrev pub invariant-loop-n : goal.invariant-loop-n
invariant-loop-n l =
    (w : List ℕ) → length w ≡ 176 → DecipherWords l.k w
    → inv_rounds w (l.n - 1) (state_of l.s.a l.s.b l.s.c l.s.d) ≡ inv_rounds w 9 (state_of l.initial.s.a l.initial.s.b l.initial.s.c l.initial.s.d)
