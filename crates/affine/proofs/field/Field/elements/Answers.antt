-- By its test.
use Rattle.affine.proofs.Computing.{not-two}
use Rattle.affine.proofs.field.Field.elements.Goals as goal

pub returns-then-self-eq2 : goal.returns-then-self-eq2
returns-then-self-eq2 c = rw c.if-self-eq2.true

pub returns-else-self-eq2 : goal.returns-else-self-eq2
returns-else-self-eq2 c = rw (not-two _ c.args.self.here c.if-self-eq2.false)
