-- The plane's part of the table (Lookup).
use Rattle.fips197.proofs.Kit.{refl, arith}
use Rattle.plane.proofs.Lookup.{difference_table, difference_end, difference_room, difference_part}
use Rattle.plane.proofs.table.differences.Goals as goal

pub overflow_add-result : goal.overflow_add-result
overflow_add-result c = omega (arith, difference_end c.args.s c.column-at.ensures c.column.ensures)

pub offset_bounds-all-at : goal.offset_bounds-all-at
offset_bounds-all-at c = omega (arith, difference_end c.args.s c.column-at.ensures c.column.ensures)

pub slice_bounds-result-end : goal.slice_bounds-result-end
unfolding difference_table
slice_bounds-result-end c = difference_room c.args.s c.column-at.ensures c.column.ensures c.requires

pub returns : goal.returns
unfolding difference_table
returns c =
    difference_part c.args.s c.column-at.ensures c.column.ensures c.requires refl
