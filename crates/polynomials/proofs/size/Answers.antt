-- The last 1, or none (Sizes).
use Rattle.fips197.proofs.Kit.{rules}
use Rattle.polynomials.proofs.Sizes.{size-zero, size_last}
use Rattle.polynomials.proofs.size.Goals as goal

pub returns-in-Some : goal.returns-in-Some
returns-in-Some c = size_last c.args.p.now c.in-Some.last (search rules) (search rules) (search rules)

pub returns-in-None : goal.returns-in-None
returns-in-None c = size-zero c.args.p.now (search rules)
