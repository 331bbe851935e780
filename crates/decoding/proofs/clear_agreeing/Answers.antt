-- Each turn takes one row (Picking).
use Rattle.std.specs.Prelude.{◌+◌}
use Rattle.fips197.proofs.Kit.{arith, sym, ◌∙◌, length}
use Rattle.sizes.specs.Sizes.{family_of}
use Rattle.decoding.specs.Decoding.{agrees_in}
use Rattle.decoding.proofs.Picking.{Compared, compared_first, compared_few, compared_agrees, compared_other, compared_done}
use Rattle.decoding.proofs.clear_agreeing.Goals as goal
use Rattle.decoding.proofs.clear_agreeing.Goals.{then-not-take_row, else-not-take_row}

pub loop-row-init : goal.loop-row-init
loop-row-init c = (omega arith, compared_first (family_of c.args.code) (agrees_in c.args.d.now) _ _)

pub overflow_add-others : goal.overflow_add-others
overflow_add-others c = omega (arith, compared_few (omega arith) c.loop-row.invariant.1)

pub loop-row-preserved : goal.loop-row-preserved
loop-row-preserved c =
    let C = c.loop-row.invariant.1 in (
      omega arith,
      elim c.if-not-take_row.branch [
        | then-not-take_row w ↦ rw w.others-is (compared_other (omega arith) C c.take_row.ensures.cleared (sym c.take_row.ensures.agrees ∙ w.if-not-take_row.true))
        | else-not-take_row w ↦ rw w.others-is (compared_agrees (omega arith) C c.take_row.ensures.cleared (sym c.take_row.ensures.agrees ∙ w.if-not-take_row.false))
      ],
    )

-- after the last row
pub returns-after-not-take_row : goal.returns-after-not-take_row
returns-after-not-take_row c =
    let a = c.args in
    let C = c.loop-row.invariant.1 in
    let next : Compared (family_of a.code) (agrees_in a.d.now) (length a.marks.now) a.marks.now c.take_row.new.marks c.if-not-take_row.others (c.loop-row.row + 1)
    = elim c.if-not-take_row.branch [
      | then-not-take_row w ↦ rw w.others-is (compared_other (omega arith) C c.take_row.ensures.cleared (sym c.take_row.ensures.agrees ∙ w.if-not-take_row.true))
      | else-not-take_row w ↦ rw w.others-is (compared_agrees (omega arith) C c.take_row.ensures.cleared (sym c.take_row.ensures.agrees ∙ w.if-not-take_row.false))
    ] in
    let r = compared_done (omega arith) next a.i (omega arith) in
    record { cleared = r.0; rows = r.1 }

pub returns : goal.returns
returns c =
    let r = compared_done (omega arith) c.loop-row.invariant.1 c.args.i (omega (arith, c.loop-row.invariant.0)) in
    record { cleared = r.0; rows = r.1 }
