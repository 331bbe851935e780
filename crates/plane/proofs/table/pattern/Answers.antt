-- The plane's part of the table (Lookup).
use Rattle.fips197.proofs.Kit.{refl, arith}
use Rattle.plane.proofs.Lookup.{pattern_table, pattern_end, pattern_room, pattern_part}
use Rattle.plane.proofs.table.pattern.Goals as goal

pub overflow_add-result : goal.overflow_add-result
overflow_add-result c = omega (arith, pattern_end c.args.s c.column-at.ensures c.column.ensures)

pub slice_bounds-result-end : goal.slice_bounds-result-end
unfolding pattern_table
slice_bounds-result-end c = pattern_room c.args.s c.column-at.ensures c.column.ensures c.requires

pub returns : goal.returns
unfolding pattern_table
returns c =
    pattern_part c.args.s c.column-at.ensures c.column.ensures c.requires refl
