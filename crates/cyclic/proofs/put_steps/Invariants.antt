use Rattle.std.specs.Prelude.{◌≡◌, ◌-◌, ◌≤◌}
use Rattle.fips197.proofs.Kit.{length}
use Rattle.cyclic.proofs.Steps.{Front, back}
use Rattle.cyclic.proofs.put_steps.Given as goal

abbrev pub invariant-loop-k : goal.invariant-loop-k
invariant-loop-k l =
    (l.k - 1 ≤ l.n - 1) × (length l.out ≡ length l.initial.out) × Front (back l.h) l.initial.out (l.k - 1) l.out l.at
