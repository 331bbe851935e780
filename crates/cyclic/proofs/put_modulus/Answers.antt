-- Two terms are put into zeros (Terms).
use Rattle.fips197.proofs.Kit.{rules}
use Rattle.cyclic.proofs.Terms.{modulus_set}
use Rattle.cyclic.proofs.put_modulus.Goals as goal

pub returns : goal.returns
returns c = search (rules, modulus_set)
