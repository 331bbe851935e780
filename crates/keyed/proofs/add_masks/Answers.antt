-- Each turn adds the next mask to one block; those before it stay, and those behind it are still as they were (Slots).
use Rattle.std.specs.Prelude.{◌≡◌}
use Rattle.fips197.proofs.Kit.{refl, sym, ap, ◌∙◌, suc, arith, add-one}
use Rattle.blocks.specs.Double.{double}
use Rattle.blocks.proofs.Slots.{front-first}
use Rattle.keyed.specs.Keyed.{doubled}
use Rattle.keyed.proofs.KeyedLaws.{masks_next}
use Rattle.keyed.proofs.add_masks.Goals as goal

pub loop-k-init : goal.loop-k-init
unfolding doubled
loop-k-init c = (refl, front-first _ _)

pub loop-k-preserved : goal.loop-k-preserved
unfolding doubled
loop-k-preserved c =
    let k = c.loop-k.k in
    let z = c.args.m in
    let m : c.double-next.result ≡ doubled z (suc k) = c.double-next.ensures ∙ ap double c.loop-k.invariant.0 in
    (m ∙ ap (doubled z) (sym (add-one k)), masks_next z _ k _ _ _ c.loop-k.invariant.1 (omega arith) m c.xor_at.ensures)
