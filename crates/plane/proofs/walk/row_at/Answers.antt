-- The item at the same place from the other end (Walks).
use Rattle.fips197.proofs.Kit.{arith}
use Rattle.plane.proofs.Lookup.{items-most}
use Rattle.plane.proofs.Walks.{walk_high, walk_back}
use Rattle.plane.proofs.walk.row_at.Goals as goal

pub overflow_add-result : goal.overflow_add-result
overflow_add-result c = omega (arith, c.items.ensures, items-most c.args.s)

pub overflow_sub-result : goal.overflow_sub-result
overflow_sub-result c =
    omega (arith, c.items.ensures, walk_high c.requires.walk (omega (arith, c.requires.k_in_bounds)) c.item_at.ensures)

pub returns : goal.returns
returns c =
    walk_back c.requires.walk c.requires.k_in_bounds c.items.ensures c.item_at.ensures
