-- Each turn adds one item (Summing).
use Rattle.std.specs.Prelude.{◌≡◌, ◌+◌}
use Rattle.fips197.proofs.Kit.{refl, ap, ◌∙◌, arith, length-take, length-drop, rules}
use Rattle.sizes.specs.Sizes.{family_of}
use Rattle.files.specs.Message.{item}
use Rattle.files.proofs.Messages.{behind_more}
use Rattle.cipher.specs.Cmac.{mac_with}
use Rattle.keyed.specs.Keyed.{item_hash_by}
use Rattle.tagging.specs.Tagging.{hashes, tag_sum}
use Rattle.tagging.proofs.Summing.{summed_first, summed_next, summed_ready, item_here, fits_here}
use Rattle.tagging.proofs.add_items.Goals as goal

pub loop-i-init : goal.loop-i-init
loop-i-init c =
    let k = c.prepare-k.result in (
      c.first_at-at.ensures,
      refl,
      search rules,
      summed_first (family_of c.args.code) (λ j. item_hash_by (mac_with k) c.args.stamp j (item c.args.s.now j)) c.args.sums.now 0 refl,
    )

pub item_end-end-requires : goal.item_end-end-requires
item_end-end-requires c =
    let here = fits_here c.args.s.now c.requires.s_in_bounds.2 c.item_count-n.result c.loop-i.at c.loop-i.i c.item_count-n.ensures.0 c.loop-i.invariant.0 c.loop-i-test.true in
    (here.head, c.requires.s_in_bounds.1)

pub slice_bounds-add_item-end : goal.slice_bounds-add_item-end
slice_bounds-add_item-end c =
    let here = fits_here c.args.s.now c.requires.s_in_bounds.2 c.item_count-n.result c.loop-i.at c.loop-i.i c.item_count-n.ensures.0 c.loop-i.invariant.0 c.loop-i-test.true in
    omega (arith, here.room, c.item_end-end.ensures)

pub add_item-requires : goal.add_item-requires
add_item-requires c =
    let here = fits_here c.args.s.now c.requires.s_in_bounds.2 c.item_count-n.result c.loop-i.at c.loop-i.i c.item_count-n.ensures.0 c.loop-i.invariant.0 c.loop-i-test.true in
    record {
      code_in_bounds = omega (arith, c.loop-i.invariant.1, c.requires.code_in_bounds);
      item_len_bound = (simp (length-take, length-drop) (omega (arith, here.small, c.item_end-end.ensures)), omega (arith, c.loop-i.invariant.2));
    }

pub loop-i-preserved : goal.loop-i-preserved
loop-i-preserved c =
    let s = c.args.s.now in
    let k = c.prepare-k.result in
    let st = c.args.stamp in
    let i = c.loop-i.i in
    let at = c.loop-i.at in (
      c.item_end-end.ensures ∙ behind_more s i at c.loop-i.invariant.0,
      search rules,
      search rules,
      summed_next (family_of c.args.code) (λ j. item_hash_by (mac_with k) st j (item s j)) c.args.sums.now c.loop-i.sums _ _ i (i + 1) refl
          (ap (item_hash_by (mac_with k) st (i + 1)) (item_here s i (i + 1) at c.item_end-end.result c.loop-i.invariant.0 refl c.item_end-end.ensures))
          c.loop-i.invariant.3 c.add_item.ensures.added,
    )

pub returns : goal.returns
unfolding hashes tag_sum
returns c =
    let e : c.loop-i.i ≡ c.item_count-n.result = omega arith in
    summed_ready (family_of c.args.code) c.args.keys.item _ c.args.stamp (item c.args.s.now) c.loop-i.i _ _ _ c.prepare-k.ensures (e ∙ c.item_count-n.ensures.0) c.loop-i.invariant.3
