-- The size's part of the table (Tables).
use Rattle.fips197.proofs.Kit.{refl}
use Rattle.affine.specs.Field.{polynomial, element_times_x, product_over, product}
use Rattle.affine.specs.Lines.{points, x_of, y_of, on_line, chosen, is_row}
use Rattle.affine.specs.Walk.{size_index}
use Rattle.affine.proofs.Listings.{passing}
use Rattle.affine.proofs.Tables.{points_test, begins, part_test, point_list, point_read}
use Rattle.affine.proofs.Affine.point_of.Goals as goal

pub returns : goal.returns
unfolding points_test part_test passing point_list size_index begins points x_of y_of on_line chosen is_row polynomial element_times_x product_over product
returns c =
    point_read c.args.self.now.field.s c.args.self.now.l c.args.self.now.size _ _ c.at_row.ensures refl c.requires.0 c.requires.1 refl
