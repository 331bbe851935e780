-- Each turn copies one number (blocks, Loop).
use Rattle.fips197.proofs.Kit.{refl, arith, rules}
use Rattle.blocks.proofs.Loop.{part_turn, part_front}
use Rattle.affine.proofs.table.copy.Goals as goal

pub loop-k-preserved : goal.loop-k-preserved
loop-k-preserved c = (
  search rules,
  part_turn c.loop-k.k c.args.from.now c.args.out.now c.loop-k.out _ c.loop-k.invariant.1
      (omega (arith, c.loop-k-test.true, c.requires.0, c.requires.1)) (omega (arith, c.loop-k-test.true)) c.from.ensures,
)

pub returns : goal.returns
returns c =
    let a = c.args in
    record {
      written = part_front _ c.loop-k.k a.from.now a.out.now c.loop-k.out c.loop-k.invariant.1 (omega arith) refl;
      count = refl;
    }

pub offset_bounds-out-k : goal.offset_bounds-out-k
offset_bounds-out-k c = omega (arith, c.loop-k-test.true, c.requires.0)

pub bounds-out-k : goal.bounds-out-k
bounds-out-k c = omega (arith, c.loop-k-test.true, c.loop-k.invariant.0, c.requires.0, c.requires.1)
