-- From the last to the first, each turn adds one row (Filling).
use Rattle.std.specs.Prelude.{◌≡◌}
use Rattle.fips197.proofs.Kit.{ap, ◌∙◌, List, ℕ, arith, drop}
use Rattle.incidence.specs.Sum.{sum_of}
use Rattle.blocks.specs.Block.{◌⊕◌, slot}
use Rattle.sizes.specs.Sizes.{family_of}
use Rattle.sizes.proofs.Laws.{lawful_rows}
use Rattle.sums.specs.Adding.{sum_in}
use Rattle.sums.proofs.Filling.{sum_none, sum_more, made_here}
use Rattle.sums.proofs.sum_made.Goals as goal

pub loop-k-init : goal.loop-k-init
loop-k-init c = sum_none (sum_in c.args.sums.now) ((family_of c.args.code).made c.args.i) _ c.made_of-n.ensures.count

pub overflow_sub-a : goal.overflow_sub-a
overflow_sub-a c =
    let w = c.made_of-n.ensures in
    let le = c.requires.le_i in
    (made_here (family_of c.args.code) (lawful_rows c.args.code (omega (arith, c.requires.le_i))) c.args.i le.0 le.1 le.2 _ (w.written, w.count) (omega arith) c.from-a.ensures).low

pub block_at-requires : goal.block_at-requires
block_at-requires c =
    let w = c.made_of-n.ensures in
    let le = c.requires.le_i in
    let m = made_here (family_of c.args.code) (lawful_rows c.args.code (omega (arith, c.requires.le_i))) c.args.i le.0 le.1 le.2 _ (w.written, w.count) (omega arith) c.from-a.ensures in
    omega (arith, m.low, m.before, le.1, c.requires.code_in_bounds)

pub loop-k-preserved : goal.loop-k-preserved
unfolding sum_in slot
loop-k-preserved c =
    let w = c.made_of-n.ensures in
    let le = c.requires.le_i in
    let s = c.args.sums.now in
    let m = made_here (family_of c.args.code) (lawful_rows c.args.code (omega (arith, c.requires.le_i))) c.args.i le.0 le.1 le.2 _ (w.written, w.count) (omega arith) c.from-a.ensures in
    c.xor-next.ensures ∙ ap (λ (t : List ℕ). t ⊕ c.loop-k.r) c.block_at.ensures
    ∙ sum_more (sum_in s) ((family_of c.args.code).made c.args.i) c.loop-k.r c.loop-k.k _ (omega arith) (omega (arith, w.count)) m.row c.loop-k.invariant

pub returns : goal.returns
returns c =
    let z : c.loop-k.k ≡ 0 = omega arith in
    c.loop-k.invariant ∙ ap (λ (m : ℕ). sum_of (sum_in c.args.sums.now) (drop m ((family_of c.args.code).made c.args.i))) z
