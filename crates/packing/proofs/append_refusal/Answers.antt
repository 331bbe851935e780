-- Room for the file with the item is room for the file (Refusing).
use Rattle.std.specs.Prelude.{◌+◌}
use Rattle.fips197.proofs.Kit.{refl, arith, length, length-take}
use Rattle.packing.proofs.Refusing.{room_tells}
use Rattle.packing.proofs.append_refusal.Goals as goal

pub slice_bounds-check_file-end : goal.slice_bounds-check_file-end
slice_bounds-check_file-end c =
    omega (arith, length-take c.args.n c.args.file.now, room_tells (c.args.n + 2 + length c.args.item.now) _ _ c.in_ok-check_room.ensures refl)

pub overflow_add-n : goal.overflow_add-n
overflow_add-n c = omega (arith, room_tells (c.args.n + 2 + length c.args.item.now) _ _ c.in_ok-check_room.ensures refl)

pub overflow_add-n-2 : goal.overflow_add-n-2
overflow_add-n-2 c = omega (arith, room_tells (c.args.n + 2 + length c.args.item.now) _ _ c.in_ok-check_room.ensures refl)
