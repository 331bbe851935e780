-- The table is taken and searched once, and followed from where it turns (Walks).
use Rattle.fips197.proofs.Kit.{refl, arith}
use Rattle.plane.specs.Table.{difference_lists}
use Rattle.plane.specs.Walk.{Walk}
use Rattle.plane.proofs.Walks.{walk_of}
use Rattle.plane.proofs.walk.walk.Goals as goal

pub differences-d-requires : goal.differences-d-requires
unfolding difference_lists
differences-d-requires c = refl

pub overflow_sub-items : goal.overflow_sub-items
overflow_sub-items c = omega (arith, c.items.ensures, c.requires.le_i.1)

pub write_tags-requires : goal.write_tags-requires
write_tags-requires c =
    let set_out : let a = c.args in Walk a.s a.i c.differences-d.result.now c.rank-turn.result =
    walk_of c.requires.le_i.0 c.requires.le_i.1 c.items.ensures c.differences-d.ensures c.rank-turn.ensures in
    record { walk = set_out }

pub returns-then-back : goal.returns-then-back
returns-then-back c = record {
  written = rw c.if-back.true c.write_tags.ensures.written;
  count = rw c.if-back.true c.write_tags.ensures.count;
}

pub write_items-requires : goal.write_items-requires
write_items-requires c =
    let set_out : let a = c.args in Walk a.s a.i c.differences-d.result.now c.rank-turn.result =
    walk_of c.requires.le_i.0 c.requires.le_i.1 c.items.ensures c.differences-d.ensures c.rank-turn.ensures in
    record { walk = set_out }

pub returns : goal.returns
returns c = record {
  written = rw c.if-back.false c.write_items.ensures.written;
  count = rw c.if-back.false c.write_items.ensures.count;
}
