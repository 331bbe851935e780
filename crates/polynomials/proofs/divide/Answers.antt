-- Each turn takes one step; what is left to do gives the quotient (Dividing).
use Rattle.fips197.proofs.Kit.{rules}
use Rattle.polynomials.proofs.Dividing.{quotient-begun, quotient-next, quotient_done}
use Rattle.polynomials.proofs.divide.Goals as goal

pub loop-step-init : goal.loop-step-init
loop-step-init c = search (rules, quotient-begun)

pub loop-step-preserved : goal.loop-step-preserved
loop-step-preserved c = search (rules, quotient-next)

pub returns : goal.returns
returns c = search (rules, quotient_done)
