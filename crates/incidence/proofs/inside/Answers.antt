-- By its two tests.
use Rattle.fips197.proofs.Kit.{le-leb, lt-leb}
use Rattle.incidence.proofs.inside.Goals as goal

pub returns-then-i-ge1 : goal.returns-then-i-ge1
returns-then-i-ge1 c = rw (le-leb _ _ c.if-i-ge1.true)

pub returns-else-i-ge1 : goal.returns-else-i-ge1
returns-else-i-ge1 c = rw (lt-leb _ _ c.if-i-ge1.false)
