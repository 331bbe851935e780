use Rattle.sizes.specs.Sizes.{family_of}
use Rattle.sums.specs.Adding.{Added}
use Rattle.sums.proofs.Walking.{passed}
use Rattle.sums.proofs.add_to_tags.Given as goal

abbrev pub invariant-loop-t : goal.invariant-loop-t
invariant-loop-t l = Added (passed (λ t. (family_of l.code).on ((family_of l.code).row_of_tag t) l.j) l.t-index) (family_of l.code).tags l.value l.initial.sums l.sums
