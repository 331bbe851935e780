-- The divisor of D(x) and x^m + 1 is taken (Deriving).
use Rattle.fips197.proofs.Kit.{rules}
use Rattle.cyclic.proofs.Deriving.{generator_so}
use Rattle.cyclic.proofs.put_generator.Goals as goal

pub returns : goal.returns
returns c = generator_so _ _ _ _ _ _ c.gcd.ensures c.put_list.ensures c.put_modulus.ensures (search rules)
