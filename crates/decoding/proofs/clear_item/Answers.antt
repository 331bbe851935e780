-- One mark is written, or none (Marks).
use Rattle.fips197.proofs.Kit.{arith}
use Rattle.decoding.proofs.Marks.{cleared-one, cleared_far}
use Rattle.decoding.proofs.clear_item.Goals as goal

pub returns-then-j-marks : goal.returns-then-j-marks
returns-then-j-marks c = cleared-one _ _ _ c.requires c.if-j-marks.true (omega arith)

pub returns-else-j-marks : goal.returns-else-j-marks
returns-else-j-marks c = cleared_far _ _ _ c.if-j-marks.false
