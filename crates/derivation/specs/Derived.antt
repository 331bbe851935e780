-- The row patterns of the four planes, worked out from their difference lists. Assumes nothing.
use Rattle.std.specs.Prelude.{List, ℕ}
use Rattle.plane.specs.Table.{plane_items, differences}
use Rattle.cyclic.specs.CyclicCode.{row_pattern}

-- of the plane s: from its difference list alone
unfoldable pub derived : ℕ → List ℕ
derived s = row_pattern (plane_items s) (differences s)
