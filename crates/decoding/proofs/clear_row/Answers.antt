-- Each turn clears one item of the row (Picking).
use Rattle.fips197.proofs.Kit.{arith, refl, take}
use Rattle.incidence.specs.Family.{items_of}
use Rattle.sizes.specs.Sizes.{family_of}
use Rattle.sizes.proofs.Laws.{on_items, written_front}
use Rattle.decoding.proofs.Marks.{cleared_at}
use Rattle.decoding.proofs.Picking.{picks_none, picks_next, picks_all, item_low}
use Rattle.decoding.proofs.clear_row.Goals as goal

pub loop-j-init : goal.loop-j-init
loop-j-init c = picks_none (take c.items_of-held.result c.items_of-held.new.out) _ _

pub clear_item-requires : goal.clear_item-requires
clear_item-requires c =
    let F = family_of c.args.code in
    let w = c.items_of-held.ensures in
    item_low F c.args.row (written_front (items_of F c.args.row) _ (w.written, w.count)) c.loop-j.j-index c.loop-j-test.true

pub loop-j-preserved : goal.loop-j-preserved
loop-j-preserved c = picks_next (take c.items_of-held.result c.items_of-held.new.out) _ c.loop-j.j-index c.loop-j.invariant refl (cleared_at _ c.loop-j.invariant.size c.clear_item.ensures)

pub returns : goal.returns
returns c =
    let F = family_of c.args.code in
    let w = c.items_of-held.ensures in
    picks_all F c.args.row _ c.loop-j.j-index (on_items c.args.code c.args.row) (written_front (items_of F c.args.row) _ (w.written, w.count)) (omega arith) c.loop-j.invariant
