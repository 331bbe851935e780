-- The low seven bits of each byte shifted, and 1b where the high one was set (WordLaws).
use Rattle.fips197.proofs.Kit.{arith, and_le_r}
use Rattle.fips197.proofs.WordLaws.{bytes-xtimes}
use Rattle.fips197.proofs.words.xtime.Goals as goal

pub overflow_mul-result : goal.overflow_mul-result
overflow_mul-result c = omega (arith, and_le_r c.args.x 0x80808080)

pub returns : goal.returns
returns c = bytes-xtimes c.args.x
