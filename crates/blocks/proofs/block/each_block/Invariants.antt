use Rattle.std.specs.Prelude.{◌≡◌}
use Rattle.fips197.proofs.Kit.{List, ℕ}
use Rattle.blocks.specs.Block.{slot}
use Rattle.blocks.proofs.Slots.{Front}
use Rattle.blocks.proofs.block.each_block.Given as goal

abbrev pub invariant-loop-k : goal.invariant-loop-k
invariant-loop-k g l =
    (h : List ℕ → List ℕ) → ((b r : List ℕ) → goal.F-post g l.f b r → r ≡ h b) → Front (λ k. h (slot l.initial.buf k)) l.initial.buf l.k l.buf
