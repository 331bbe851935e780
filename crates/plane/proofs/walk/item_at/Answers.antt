-- By whether the difference leads past the last item (Walks).
use Rattle.fips197.proofs.Kit.{arith}
use Rattle.plane.proofs.Lookup.{items-most}
use Rattle.plane.proofs.Walks.{few, walk_turn, difference_high, round_past, round_item, ahead_place, ahead_item}
use Rattle.plane.proofs.walk.item_at.Goals as goal

pub overflow_add-place : goal.overflow_add-place
overflow_add-place c = omega (arith, few c.requires.walk, walk_turn c.requires.walk, c.requires.k_in_bounds)

pub overflow_add-result : goal.overflow_add-result
overflow_add-result c =
    omega (arith, c.requires.walk.high, items-most c.args.s, difference_high c.requires.walk c.if-place-d.true c.from.ensures)

pub overflow_sub-result : goal.overflow_sub-result
overflow_sub-result c =
    round_past c.requires.walk c.requires.k_in_bounds c.if-place-d.true c.from.ensures c.items.ensures

pub returns-then-place-d : goal.returns-then-place-d
returns-then-place-d c =
    round_item c.requires.walk c.requires.k_in_bounds c.if-place-d.true c.from.ensures c.items.ensures

pub bounds-d-place-2 : goal.bounds-d-place-2
bounds-d-place-2 c = ahead_place c.requires.walk c.requires.k_in_bounds c.if-place-d.false

pub offset_bounds-d-place-2 : goal.offset_bounds-d-place-2
offset_bounds-d-place-2 c = omega (arith, few c.requires.walk, ahead_place c.requires.walk c.requires.k_in_bounds c.if-place-d.false)

pub overflow_add-result-2 : goal.overflow_add-result-2
overflow_add-result-2 c =
    omega (arith, c.requires.walk.high, items-most c.args.s, difference_high c.requires.walk (ahead_place c.requires.walk c.requires.k_in_bounds c.if-place-d.false) c.from-2.ensures)

pub returns : goal.returns
returns c =
    ahead_item c.requires.walk c.requires.k_in_bounds c.if-place-d.false c.from-2.ensures
