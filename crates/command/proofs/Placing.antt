-- What is said of one card packed.
use Rattle.std.specs.Prelude.{◌≡◌, ◌+◌, ◌≤◌}
use Rattle.fips197.proofs.Kit.{refl, sym, ap, List, ℕ, length}
use Rattle.files.specs.declared.refusals.Reason.{Reason}
use Rattle.files.specs.declared.refusals.Reason.TheVariants.{Keys, Code, Message, Count, Items, TagFile, Room, Number, Item, Mac, Counts, Full, Early, Shut, Numbers}
use Rattle.files.specs.Refusals.{Refusal, refusal, none, number_of}
use Rattle.packing.specs.Packing.{append_refusal}
use Rattle.packing.proofs.Refusing.{appendable}
use Rattle.command.specs.Packing.{placed, size_with}

module _ (place k : ℕ) where
  pub placed-room : (r : Reason) → r ≡ Room → refusal 3 k ≡ placed (refusal (number_of r) place) k
  unfolding placed
  placed-room r e = rw e refl

  pub placed_other : (r : Reason) → (r ≡ Room → ⊥) → refusal (number_of r) k ≡ placed (refusal (number_of r) place) k
  unfolding placed
  placed_other Keys n = refl
  placed_other Code n = refl
  placed_other Message n = refl
  placed_other Count n = refl
  placed_other Items n = refl
  placed_other TagFile n = refl
  placed_other Room n = absurd (n refl)
  placed_other Number n = refl
  placed_other Item n = refl
  placed_other Mac n = refl
  placed_other Counts n = refl
  placed_other Full n = refl
  placed_other Early n = refl
  placed_other Shut n = refl
  placed_other Numbers n = refl

-- what Append gives
module _ (file : List ℕ) (n : ℕ) (card : List ℕ) (k : ℕ) where
  module _ (e : none ≡ append_refusal file n card) where
    pub none_said : none ≡ placed (append_refusal file n card) k
    unfolding placed
    none_said = ap (λ (x : Refusal). placed x k) e

    pub size_more : n + 2 + length card ≡ size_with file n card
    unfolding size_with
    size_more = rw (sym e) refl

    pub size-inside : n + 2 + length card ≤ length file
    size-inside = (appendable file n card none e refl).room

    pub size_small : n + 2 + length card ≤ 65536
    size_small = (appendable file n card none e refl).size
