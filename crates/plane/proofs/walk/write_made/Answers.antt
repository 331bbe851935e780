-- Each turn stores one row (blocks, Loop).
use Rattle.std.specs.Prelude.{◌≡◌, ◌<◌}
use Rattle.fips197.proofs.Kit.{refl, ap, ◌∙◌, arith, length, get_or, rules}
use Rattle.blocks.proofs.Loop.{part_turn, part_front}
use Rattle.plane.specs.Table.{plane_pattern}
use Rattle.plane.specs.Plane.{plane}
use Rattle.plane.proofs.Lookup.{items-most, pattern_few}
use Rattle.plane.proofs.Walks.{made-length, made_row, made_back}
use Rattle.plane.proofs.walk.write_made.Goals as goal

pub overflow_cast-row : goal.overflow_cast-row
overflow_cast-row c = omega (arith, c.requires.s_bound.1, items-most c.args.s)

pub overflow_sub-out : goal.overflow_sub-out
overflow_sub-out c =
    let place : c.loop-k.k < length (plane_pattern c.args.s) =
    omega (arith, c.loop-k-test.true, ap length c.requires.s_bound.2) in
    let entry : c.from.result ≡ get_or (plane_pattern c.args.s) c.loop-k.k 0 =
    c.from.ensures ∙ ap (λ l. get_or l c.loop-k.k 0) c.requires.s_bound.2 in
    made_back c.args.s c.args.i c.requires.s_bound.0 c.requires.s_bound.1 place entry

pub offset_bounds-out-k : goal.offset_bounds-out-k
offset_bounds-out-k c =
    let place : c.loop-k.k < length (plane_pattern c.args.s) =
    omega (arith, c.loop-k-test.true, ap length c.requires.s_bound.2) in
    omega (arith, place, pattern_few c.args.s)

pub bounds-out-k : goal.bounds-out-k
bounds-out-k c =
    let place : c.loop-k.k < length (plane_pattern c.args.s) =
    omega (arith, c.loop-k-test.true, ap length c.requires.s_bound.2) in
    omega (arith, place, pattern_few c.args.s, c.loop-k.invariant.0)

pub loop-k-preserved : goal.loop-k-preserved
loop-k-preserved c =
    let place : c.loop-k.k < length (plane_pattern c.args.s) =
    omega (arith, c.loop-k-test.true, ap length c.requires.s_bound.2) in
    let entry : c.from.result ≡ get_or (plane_pattern c.args.s) c.loop-k.k 0 =
    c.from.ensures ∙ ap (λ l. get_or l c.loop-k.k 0) c.requires.s_bound.2 in
    let a = c.args in
    let p = c.requires.s_bound in (
      search rules,
      part_turn c.loop-k.k ((plane a.s).made a.i) a.out.now c.loop-k.out _ c.loop-k.invariant.1
          (omega (arith, place, pattern_few a.s)) (omega (arith, place, made-length a.s a.i p.0 p.1))
          (made_row a.s a.i p.0 p.1 place entry),
    )

pub returns : goal.returns
returns c =
    let a = c.args in
    let e : c.loop-k.k ≡ length ((plane a.s).made a.i) = omega (arith, ap length c.requires.s_bound.2, made-length a.s a.i c.requires.s_bound.0 c.requires.s_bound.1) in
    record {
      written = part_front _ c.loop-k.k ((plane a.s).made a.i) a.out.now c.loop-k.out c.loop-k.invariant.1 e refl;
      count = omega (arith, e);
    }
