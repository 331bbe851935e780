-- By its test.
use Rattle.fips197.proofs.Kit.{arith}
use Rattle.stamp.specs.Front.{front_size}
use Rattle.stamp.proofs.Fronts.{size-first, size_later}
use Rattle.stamp.proofs.front_size.Goals as goal

pub returns-then-version-eq1 : goal.returns-then-version-eq1
unfolding front_size
returns-then-version-eq1 c = (omega (arith, size-first _ c.if-version-eq1.true), omega arith, omega arith)

pub returns : goal.returns
unfolding front_size
returns c = (omega (arith, size_later _ c.if-version-eq1.false), omega arith, omega arith)
