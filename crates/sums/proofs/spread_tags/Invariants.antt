use Rattle.sizes.specs.Sizes.{family_of}
use Rattle.sums.proofs.Filling.{Spread}
use Rattle.sums.proofs.spread_tags.Given as goal

abbrev pub invariant-loop-k : goal.invariant-loop-k
invariant-loop-k l = Spread (family_of l.code) l.initial.sums l.sums l.k
