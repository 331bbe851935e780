-- From x^k on, each turn adds one coefficient (Raising).
use Rattle.fips197.proofs.Kit.{rules}
use Rattle.polynomials.proofs.Raising.{sum_begun, sum_next, sum_done}
use Rattle.polynomials.proofs.add_raised.Goals as goal

pub loop-i-init : goal.loop-i-init
loop-i-init c = search (rules, sum_begun)

pub loop-i-preserved : goal.loop-i-preserved
loop-i-preserved c = search (rules, sum_next)

pub returns : goal.returns
returns c = search (rules, sum_done)
