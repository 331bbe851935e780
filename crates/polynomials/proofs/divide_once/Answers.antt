-- By whether q goes into p (Dividing).
use Rattle.fips197.proofs.Kit.{rules}
use Rattle.polynomials.proofs.Sizes.{gap_most, gap_inside}
use Rattle.polynomials.proofs.Dividing.{quotient-none, quotient-over, quotient_more}
use Rattle.polynomials.proofs.divide_once.Goals as goal
use Rattle.polynomials.proofs.divide_once.Goals.{else-b-gt0-via-then-b-gt0+else-b-a, else-b-gt0-via-else-b-gt0}

pub bounds-h-a : goal.bounds-h-a
bounds-h-a c = search (rules, gap_inside)

pub add_raised-requires : goal.add_raised-requires
add_raised-requires c = search (rules, gap_most)

pub returns-then-b-a : goal.returns-then-b-a
returns-then-b-a c = λ n. search (rules, quotient_more)

pub returns-else-b-gt0 : goal.returns-else-b-gt0
returns-else-b-gt0 c = λ n.
    elim c.else-b-gt0.branch [
      | else-b-gt0-via-then-b-gt0+else-b-a w ↦ search (rules, quotient-over)
      | else-b-gt0-via-else-b-gt0 w ↦ search (rules, quotient-none)
    ]
