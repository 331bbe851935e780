use Rattle.std.specs.Prelude.{◌≡◌}
use Rattle.fips197.proofs.Kit.{length, drop}
use Rattle.cyclic.specs.CyclicCode.{of_list}
use Rattle.cyclic.proofs.put_list.Given as goal

abbrev pub invariant-loop-i : goal.invariant-loop-i
invariant-loop-i l = (length l.p ≡ length l.initial.p) × (l.p ≡ of_list l.m (drop l.i l.list))
