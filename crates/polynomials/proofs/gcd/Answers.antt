-- Each turn takes one step; what is left to do gives the divisor (Dividing).
use Rattle.fips197.proofs.Kit.{arith, rules}
use Rattle.polynomials.proofs.Sizes.{sizes_few}
use Rattle.polynomials.proofs.Dividing.{gcd-begun, gcd-next, gcd_done}
use Rattle.polynomials.proofs.gcd.Goals as goal

pub overflow_add-most : goal.overflow_add-most
overflow_add-most c =
    omega (arith, sizes_few _ _ _ _ c.size.ensures c.size-2.ensures c.requires.0 c.requires.1)

pub loop-step-init : goal.loop-step-init
loop-step-init c = search (rules, gcd-begun)

pub loop-step-preserved : goal.loop-step-preserved
loop-step-preserved c = search (rules, gcd-next)

pub returns : goal.returns
returns c = search (rules, gcd_done)
