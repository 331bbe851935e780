use Rattle.sizes.specs.Sizes.{family_of}
use Rattle.sums.proofs.Filling.{Filled}
use Rattle.sums.proofs.fill_made.Given as goal

abbrev pub invariant-loop-k : goal.invariant-loop-k
invariant-loop-k l = Filled (family_of l.code) l.initial.sums l.sums l.k
