-- x^m + 1 is divided by the generator polynomial (Deriving).
use Rattle.fips197.proofs.Kit.{rules}
use Rattle.cyclic.proofs.Deriving.{check_so}
use Rattle.cyclic.proofs.put_check.Goals as goal

pub returns : goal.returns
returns c = check_so _ _ _ _ _ _ _ c.divide.ensures c.put_modulus.ensures c.put_generator.ensures (search rules) (search rules)
