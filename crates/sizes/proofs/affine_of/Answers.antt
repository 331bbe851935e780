-- By its test, or by the definition.
use Rattle.fips197.proofs.Kit.{sym}
use Rattle.sizes.specs.Sizes.{affine_code}
use Rattle.sizes.proofs.Laws.{no_affine}
use Rattle.sizes.proofs.affine_of.Goals as goal

pub returns-then-code-le4-clause-whether : goal.returns-then-code-le4-clause-whether
returns-then-code-le4-clause-whether c = sym (no_affine c.args.code c.if-code-le4.true)

pub returns-clause-whether : goal.returns-clause-whether
unfolding affine_code
returns-clause-whether c = rw (c.new.ensures.whether, c.exponent.ensures, c.chosen_lines.ensures)
