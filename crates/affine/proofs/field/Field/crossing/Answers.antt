-- By the definition.
use Rattle.std.specs.Prelude.{◌≤◌}
use Rattle.fips197.proofs.Kit.{arith}
use Rattle.affine.specs.Lines.{crossing}
use Rattle.affine.proofs.Computing.{elements_few}
use Rattle.affine.proofs.field.Field.crossing.Goals as goal

pub returns : goal.returns
unfolding crossing
returns c = rw c.elements-q.ensures

pub nonzero_div-result : goal.nonzero_div-result
nonzero_div-result c =
    let some : 4 ≤ c.elements-q.result = omega (arith, c.elements-q.ensures, (elements_few c.args.self.s c.args.self.here).0) in
    omega (arith, some)

pub nonzero_rem-result : goal.nonzero_rem-result
nonzero_rem-result c =
    let some : 4 ≤ c.elements-q.result = omega (arith, c.elements-q.ensures, (elements_few c.args.self.s c.args.self.here).0) in
    omega (arith, some)
