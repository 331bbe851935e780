-- Each turn stores one member (cipher's Loop).
use Rattle.std.specs.Prelude.{◌<◌}
use Rattle.fips197.proofs.Kit.{refl, arith, length, rules}
use Rattle.blocks.proofs.Loop.{part_turn, part_front}
use Rattle.plane.specs.Table.{differences}
use Rattle.plane.proofs.Lookup.{differences_few}
use Rattle.derivation.proofs.Members.{member_small}
use Rattle.derivation.proofs.copy_differences.Goals as goal

pub overflow_cast-list : goal.overflow_cast-list
overflow_cast-list c =
    let i = c.loop-i.i in
    let s = c.args.s in
    omega (arith, c.difference.ensures, member_small s i (omega (arith, c.difference_count-n.ensures, c.loop-i-test.true)))

pub offset_bounds-list-i : goal.offset_bounds-list-i
offset_bounds-list-i c =
    let few : c.loop-i.i < 17 =
    omega (arith, c.difference_count-n.ensures, differences_few c.args.s) in
    search (rules, few)

pub bounds-list-i : goal.bounds-list-i
bounds-list-i c =
    omega (arith, c.difference_count-n.ensures, differences_few c.args.s)

pub loop-i-preserved : goal.loop-i-preserved
loop-i-preserved c =
    let s = c.args.s in
    let list = c.args.list.now in (
      search rules,
      part_turn c.loop-i.i (differences s) list c.loop-i.list _ c.loop-i.invariant.1
          (omega (arith, c.difference_count-n.ensures, differences_few s)) (omega (arith, c.difference_count-n.ensures)) c.difference.ensures,
    )

pub returns : goal.returns
returns c =
    let s = c.args.s in
    record {
      written = part_front (length (differences s)) c.loop-i.i (differences s) c.args.list.now c.loop-i.list c.loop-i.invariant.1
          (omega (arith, c.difference_count-n.ensures)) refl;
      count = c.difference_count-n.ensures;
    }
