-- Each turn adds the value to one tag's sum (Walking).
use Rattle.std.specs.Prelude.{◌≡◌}
use Rattle.fips197.proofs.Kit.{arith, length, rules}
use Rattle.sizes.specs.Sizes.{family_of}
use Rattle.sizes.proofs.Laws.{tags_few}
use Rattle.sums.proofs.Walking.{walk_first, walk_next, walk_done, tag_here, tags_done}
use Rattle.sums.proofs.add_to_tags.Goals as goal

pub loop-t-init : goal.loop-t-init
loop-t-init c =
    walk_first (λ t. (family_of c.args.code).on ((family_of c.args.code).row_of_tag t) c.args.j) _ _ _

pub overflow_sub-t : goal.overflow_sub-t
overflow_sub-t c =
    let w = c.tags_of-n.ensures in
    (tag_here (family_of c.args.code) c.args.j _ (w.written, w.count) c.loop-t.t-index c.loop-t-test.true).low

pub overflow_mul-t : goal.overflow_mul-t
overflow_mul-t c =
    let w = c.tags_of-n.ensures in
    omega (arith, (tag_here (family_of c.args.code) c.args.j _ (w.written, w.count) c.loop-t.t-index c.loop-t-test.true).high, tags_few c.args.code)

pub xor_at-requires : goal.xor_at-requires
xor_at-requires c =
    let w = c.tags_of-n.ensures in
    let here = tag_here (family_of c.args.code) c.args.j _ (w.written, w.count) c.loop-t.t-index c.loop-t-test.true in
    omega (arith, here.low, here.high, c.loop-t.invariant.size, c.requires)

pub loop-t-preserved : goal.loop-t-preserved
loop-t-preserved c =
    let F = family_of c.args.code in
    let w = c.tags_of-n.ensures in
    let h : length c.args.value ≡ 16 = search rules in
    walk_next (λ t. F.on (F.row_of_tag t) c.args.j) F.tags c.args.value _ c.loop-t.sums _ c.loop-t.t-index _ c.loop-t.invariant
    (tag_here F c.args.j _ (w.written, w.count) c.loop-t.t-index c.loop-t-test.true) c.requires h c.xor_at.ensures

pub returns : goal.returns
returns c =
    let w = c.tags_of-n.ensures in
    walk_done (λ t. (family_of c.args.code).on ((family_of c.args.code).row_of_tag t) c.args.j) _ _ _ _ c.loop-t.t-index c.loop-t.invariant
    (omega (arith, c.loop-t-test.false, tags_done (family_of c.args.code) c.args.j _ (w.written, w.count)))
