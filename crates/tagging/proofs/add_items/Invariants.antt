use Rattle.std.specs.Prelude.{◌≡◌}
use Rattle.fips197.proofs.Kit.{length}
use Rattle.sizes.specs.Sizes.{family_of}
use Rattle.files.specs.Message.{behind, item}
use Rattle.cipher.specs.Cmac.{mac_with}
use Rattle.keyed.specs.Keyed.{item_hash_by}
use Rattle.tagging.proofs.Summing.{Summed}
use Rattle.tagging.proofs.add_items.Given as goal

abbrev pub invariant-loop-i : goal.invariant-loop-i
invariant-loop-i l =
    (l.at ≡ behind l.s l.i) × (length l.sums ≡ length l.initial.sums) × (length l.room ≡ 1040)
    × Summed (family_of l.code) (λ j. item_hash_by (mac_with l.k) l.stamp j (item l.s j)) l.i l.initial.sums l.sums
