-- The tables are those that the definitions give (Tables).
use Rattle.fips197.proofs.Kit.{refl}
use Rattle.affine.specs.Field.{polynomial, element_times_x, product_over, product, element_power, element_inverse}
use Rattle.affine.specs.Lines.{points, x_of, y_of, on_line, chosen, affine_items, is_row}
use Rattle.affine.specs.Elimination.{has, greatest, add, reduced, reduced_by, remainder_of, next}
use Rattle.affine.specs.Walk.{course_of, place_on, chosen_at, dual, through_count, size_index, entry_of, wide_entry_of}
use Rattle.affine.proofs.Listings.{passing}
use Rattle.affine.proofs.Eliminated.{set_up, card_along, row_set, go_through, quickly}
use Rattle.affine.proofs.Tables.{begins, gone, made_left, stand_test, eights_test, made_part_lem, made_test, made_in}
use Rattle.affine.proofs.Affine.made_at.Goals as goal

pub copy_made-requires : goal.copy_made-requires
unfolding made_test made_part_lem eights_test stand_test wide_entry_of entry_of made_left begins gone passing set_up card_along row_set go_through quickly course_of place_on chosen_at dual through_count size_index points x_of y_of on_line chosen affine_items is_row polynomial element_times_x product_over product element_power element_inverse has greatest add reduced reduced_by remainder_of next
copy_made-requires c =
    record {
      le_i = c.requires;
      made_in = made_in c.args.self.now.field.s c.args.self.now.l c.args.i c.args.self.now.size _ _ c.requires.0 c.requires.1 refl;
    }
