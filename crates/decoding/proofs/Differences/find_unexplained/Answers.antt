-- Each turn tests one row (Picking).
use Rattle.std.specs.Prelude.{◌-◌}
use Rattle.fips197.proofs.Kit.{refl, sym, ◌∙◌, arith, length}
use Rattle.incidence.proofs.Counting.{any_some}
use Rattle.sizes.specs.Sizes.{family_of}
use Rattle.decoding.specs.Decoding.{agrees_in, unexplained_in}
use Rattle.decoding.proofs.Picking.{any_fails, any_none_to}
use Rattle.decoding.proofs.Differences.find_unexplained.Goals as goal

pub loop-i-init : goal.loop-i-init
loop-i-init c = (omega arith, refl)

pub returns-then-is_unexplained : goal.returns-then-is_unexplained
returns-then-is_unexplained c =
    let a = c.args in
    let x = a.self.now in
    sym (any_some (unexplained_in (family_of x.code) (agrees_in x.d.now) a.marks.now (length a.marks.now)) (family_of x.code).rows c.loop-i.i (omega arith)
    (omega (arith, c.rows-rows.ensures)) (sym c.is_unexplained.ensures ∙ c.if-is_unexplained.true))

pub loop-i-preserved : goal.loop-i-preserved
loop-i-preserved c =
    let a = c.args in
    let x = a.self.now in (
      omega arith,
      any_fails (unexplained_in (family_of x.code) (agrees_in x.d.now) a.marks.now (length a.marks.now)) c.loop-i.i (omega arith) c.loop-i.invariant.1
          (sym c.is_unexplained.ensures ∙ c.if-is_unexplained.false),
    )

pub returns : goal.returns
returns c =
    let a = c.args in
    let x = a.self.now in
    any_none_to (unexplained_in (family_of x.code) (agrees_in x.d.now) a.marks.now (length a.marks.now)) (c.loop-i.i - 1) (family_of x.code).rows c.loop-i.invariant.1 (omega (arith, c.rows-rows.ensures, c.loop-i.invariant.0))
