-- Each turn stores one number (blocks, Loop).
use Rattle.std.specs.Prelude.{◌≤◌}
use Rattle.fips197.proofs.Kit.{sym, ◌∙◌, arith, rules}
use Rattle.blocks.proofs.Loop.{part_turn, part_front}
use Rattle.affine.specs.Walk.{firsts, through_at, through_count}
use Rattle.affine.proofs.Listings.{firsts-length}
use Rattle.affine.proofs.Steps.{firsts_at, count_nine}
use Rattle.affine.proofs.Affine.write_items.Goals as goal

pub item_at-requires : goal.item_at-requires
item_at-requires c =
    (c.requires.le_p.0, c.requires.le_p.1, omega (arith, c.loop-k-test.true, c.item_count-n.ensures))

pub bounds-out-k : goal.bounds-out-k
bounds-out-k c =
    let few : c.item_count-n.result ≤ 9 =
    omega (arith, c.item_count-n.ensures, count_nine c.args.self.now.field.s c.args.self.now.l c.args.p c.args.self.now.size) in
    omega (arith, c.loop-k-test.true, c.loop-k.invariant.0, few, c.requires.in_bounds)

pub loop-k-preserved : goal.loop-k-preserved
loop-k-preserved c =
    let few : c.item_count-n.result ≤ 9 =
    omega (arith, c.item_count-n.ensures, count_nine c.args.self.now.field.s c.args.self.now.l c.args.p c.args.self.now.size) in
    let k = c.loop-k.k in
    let f = through_at c.args.self.now.field.s c.args.self.now.l c.args.p in
    let n = through_count c.args.self.now.field.s c.args.self.now.l c.args.p in (
      search rules,
      part_turn k (firsts f n) c.args.out.now c.loop-k.out _ c.loop-k.invariant.1
          (omega (arith, c.loop-k-test.true, few, c.requires.in_bounds)) (omega (arith, c.loop-k-test.true, c.item_count-n.ensures, firsts-length f n))
          (c.item_at.ensures ∙ sym (firsts_at f n k (omega (arith, c.loop-k-test.true, c.item_count-n.ensures)))),
    )

pub returns : goal.returns
returns c =
    let f = through_at c.args.self.now.field.s c.args.self.now.l c.args.p in
    let n = through_count c.args.self.now.field.s c.args.self.now.l c.args.p in
    record {
      written = part_front n c.loop-k.k (firsts f n) c.args.out.now c.loop-k.out c.loop-k.invariant.1 (omega (arith, c.item_count-n.ensures)) (firsts-length f n);
      count = c.item_count-n.ensures;
    }

pub offset_bounds-out-k : goal.offset_bounds-out-k
offset_bounds-out-k c =
    let few : c.item_count-n.result ≤ 9 =
    omega (arith, c.item_count-n.ensures, count_nine c.args.self.now.field.s c.args.self.now.l c.args.p c.args.self.now.size) in
    omega (arith, c.loop-k-test.true, few)
