-- By its test.
use Rattle.fips197.proofs.Kit.{le-leb, lt-leb}
use Rattle.affine.specs.Lines.{line_of}
use Rattle.affine.proofs.field.Field.line_of.Goals as goal

pub returns-then-j-l : goal.returns-then-j-l
unfolding line_of
returns-then-j-l c = rw (le-leb _ _ c.if-j-l.true) c.chosen.ensures

pub returns : goal.returns
unfolding line_of
returns c = rw (lt-leb _ _ c.if-j-l.false) c.crossing.ensures
