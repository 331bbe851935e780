-- By squares (Computing).
use Rattle.fips197.proofs.Kit.{◌∙◌}
use Rattle.affine.proofs.Computing.{inverse-two, inverse_three}
use Rattle.affine.proofs.field.Field.inverse.Goals as goal

pub returns-then-self-eq2 : goal.returns-then-self-eq2
returns-then-self-eq2 c =
    c.product-square.ensures ∙ inverse-two _ c.args.self.here _ c.requires c.if-self-eq2.true

pub returns : goal.returns
returns c =
    rw (c.product-2.ensures, c.product.ensures, c.product-square.ensures) (inverse_three _ c.args.self.here _ c.requires c.if-self-eq2.false)
