-- By which of the two is longer, where neither is 0 (Dividing).
use Rattle.fips197.proofs.Kit.{rules}
use Rattle.polynomials.proofs.Sizes.{gap_most}
use Rattle.polynomials.proofs.Dividing.{gcd-first-none, gcd_second_none, gcd-first, gcd_second}
use Rattle.polynomials.proofs.lessen.Goals as goal
use Rattle.polynomials.proofs.lessen.Goals.{else-a-gt0-via-then-a-gt0+else-b-gt0, else-a-gt0-via-else-a-gt0}

pub add_raised-requires : goal.add_raised-requires
add_raised-requires c = search (rules, gap_most)

pub add_raised-requires-else-a-b : goal.add_raised-requires-else-a-b
add_raised-requires-else-a-b c = search (rules, gap_most)

pub returns-then-a-b : goal.returns-then-a-b
returns-then-a-b c = λ n. search (rules, gcd_second)

pub returns-else-a-b : goal.returns-else-a-b
returns-else-a-b c = λ n. search (rules, gcd-first)

pub returns-else-a-gt0 : goal.returns-else-a-gt0
returns-else-a-gt0 c = λ n.
    elim c.else-a-gt0.branch [
      | else-a-gt0-via-then-a-gt0+else-b-gt0 w ↦ search (rules, gcd_second_none)
      | else-a-gt0-via-else-a-gt0 w ↦ search (rules, gcd-first-none)
    ]
