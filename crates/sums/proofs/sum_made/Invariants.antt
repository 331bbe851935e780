use Rattle.std.specs.Prelude.{◌≡◌}
use Rattle.fips197.proofs.Kit.{drop}
use Rattle.incidence.specs.Sum.{sum_of}
use Rattle.sizes.specs.Sizes.{family_of}
use Rattle.sums.specs.Adding.{sum_in}
use Rattle.sums.proofs.sum_made.Given as goal

abbrev pub invariant-loop-k : goal.invariant-loop-k
invariant-loop-k l = l.r ≡ sum_of (sum_in l.sums) (drop l.k ((family_of l.code).made l.i))
