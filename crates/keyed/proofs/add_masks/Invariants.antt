use Rattle.std.specs.Prelude.{◌≡◌}
use Rattle.fips197.proofs.Kit.{suc}
use Rattle.blocks.specs.Block.{◌⊕◌, slot}
use Rattle.blocks.proofs.Slots.{Front}
use Rattle.keyed.specs.Keyed.{doubled}
use Rattle.keyed.proofs.add_masks.Given as goal

abbrev pub invariant-loop-k : goal.invariant-loop-k
invariant-loop-k l = (l.mask ≡ doubled l.initial.mask l.k) × Front (λ i. doubled l.initial.mask (suc i) ⊕ slot l.initial.buf i) l.initial.buf l.k l.buf
