-- Each turn stores one row, which is a tag, and the first past t ends the walk (Walks).
use Rattle.std.specs.Prelude.{◌≡◌, ◌+◌, ◌-◌, ◌≤◌, ◌<◌}
use Rattle.fips197.proofs.Kit.{refl, arith, length, rules}
use Rattle.blocks.proofs.Loop.{part_turn, part_front}
use Rattle.incidence.specs.Family.{rows_of, tags_of}
use Rattle.plane.specs.Table.{plane_items, plane_tags}
use Rattle.plane.specs.Plane.{plane}
use Rattle.plane.specs.Walk.{along}
use Rattle.plane.proofs.Walks.{few, walk_rules, rows-many, tags_fewer, tag_next, tag_at, tags_end}
use Rattle.plane.proofs.walk.write_tags.Goals as goal

pub returns-then-t-row : goal.returns-then-t-row
unfolding along
returns-then-t-row c =
    let place : let a = c.args in c.loop-k.k < length (rows_of (plane a.s) (plane_items a.s + 1 - a.i)) =
    omega (arith, c.loop-k-test.true, rows-many c.requires.walk) in
    let a = c.args in
    let j = plane_items a.s + 1 - a.i in
    let e : c.loop-k.k ≡ length (tags_of (plane a.s) j) =
    omega (arith, c.loop-k.invariant.0, tags_end a.s j (walk_rules c.requires.walk).fits place c.row_at-row.ensures (omega (arith, c.if-t-row.true, c.tags-t.ensures))) in
    record {
      written = part_front _ c.loop-k.k (tags_of (plane a.s) j) a.out.now c.loop-k.out c.loop-k.invariant.2 e refl;
      count = e;
    }

pub offset_bounds-out-k : goal.offset_bounds-out-k
offset_bounds-out-k c =
    omega (arith, c.loop-k-test.true, few c.requires.walk)

pub bounds-out-k : goal.bounds-out-k
bounds-out-k c =
    omega (arith, c.loop-k-test.true, c.loop-k.invariant.1, few c.requires.walk)

pub loop-k-preserved : goal.loop-k-preserved
loop-k-preserved c =
    let place : let a = c.args in c.loop-k.k < length (rows_of (plane a.s) (plane_items a.s + 1 - a.i)) =
    omega (arith, c.loop-k-test.true, rows-many c.requires.walk) in
    let a = c.args in
    let j = plane_items a.s + 1 - a.i in
    let f = (walk_rules c.requires.walk).fits in
    let u : c.row_at-row.result ≤ plane_tags a.s = omega (arith, c.if-t-row.false, c.tags-t.ensures) in
    let n = tag_next a.s j f place c.row_at-row.ensures u in (
      omega (arith, n),
      search rules,
      part_turn c.loop-k.k (tags_of (plane a.s) j) a.out.now c.loop-k.out _ c.loop-k.invariant.2
          (omega (arith, c.loop-k-test.true, few c.requires.walk)) n (tag_at a.s j f place c.row_at-row.ensures u),
    )

pub returns : goal.returns
unfolding along
returns c =
    let a = c.args in
    let j = plane_items a.s + 1 - a.i in
    let e : c.loop-k.k ≡ length (tags_of (plane a.s) j) =
    omega (arith, c.loop-k.invariant.0, tags_fewer a.s j (walk_rules c.requires.walk).fits, rows-many c.requires.walk) in
    record {
      written = part_front _ c.loop-k.k (tags_of (plane a.s) j) a.out.now c.loop-k.out c.loop-k.invariant.2 e refl;
      count = omega (arith, e);
    }
