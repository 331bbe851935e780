use Rattle.std.specs.Prelude.{◌≡◌, ◌+◌, ◌-◌, ◌≤◌}
use Rattle.fips197.proofs.Kit.{false, length}
use Rattle.incidence.specs.Count.{any_up_to}
use Rattle.sizes.specs.Sizes.{family_of}
use Rattle.decoding.specs.Decoding.{agrees_in, unexplained_in}
use Rattle.decoding.proofs.Differences.find_unexplained.Given as goal

abbrev pub invariant-loop-i : goal.invariant-loop-i
invariant-loop-i l = (l.i ≤ l.rows + 1) × (any_up_to (unexplained_in (family_of l.self.code) (agrees_in l.self.d.now) l.marks (length l.marks)) (l.i - 1) ≡ false)
