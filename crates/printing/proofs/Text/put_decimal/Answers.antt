-- The digits are written from the last to the first: those before the ones that stand are the digits of what rests (Decimals).
use Rattle.std.specs.Prelude.{◌++◌}
use Rattle.fips197.proofs.Kit.{◌∙◌, ap, ap₂, arith, length, length-set, rules}
use Rattle.printing.proofs.Decimals.{digits_more, digits_done, tenth_less}
use Rattle.printing.proofs.Text.put_decimal.Goals as goal

pub put-requires : goal.put-requires
put-requires g c =
    let inv = c.loop-first.invariant in
    let e = digits_done c.args.n c.loop-first.rest c.loop-first.first c.loop-first.text inv.2 (omega arith) (omega arith) inv.0 c.if-rest-eq0.true in
    (search rules, omega (arith, ap length e, ap length inv.4, c.requires))

pub returns-then-rest-eq0 : goal.returns-then-rest-eq0
returns-then-rest-eq0 g c =
    let inv = c.loop-first.invariant in
    let e = digits_done c.args.n c.loop-first.rest c.loop-first.first c.loop-first.text inv.2 (omega arith) (omega arith) inv.0 c.if-rest-eq0.true in
    c.put.ensures ∙ ap₂ ◌++◌ inv.4 e

pub loop-first-preserved : goal.loop-first-preserved
loop-first-preserved g c =
    let inv = c.loop-first.invariant in (
      length-set _ _ _ ∙ inv.0,
      tenth_less c.loop-first.rest c.loop-first.first inv.1 (omega arith),
      digits_more c.args.n c.loop-first.rest c.loop-first.first c.loop-first.text inv.2 (omega arith) (omega arith) c.if-rest-eq0.false,
      λ z. absurd (c.if-rest-eq0.false z),
      inv.4,
    )
