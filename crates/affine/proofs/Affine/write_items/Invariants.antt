use Rattle.std.specs.Prelude.{◌≡◌}
use Rattle.fips197.proofs.Kit.{length}
use Rattle.blocks.proofs.Loop.{part}
use Rattle.affine.specs.Walk.{firsts, through_at, through_count}
use Rattle.affine.proofs.Affine.write_items.Given as goal

abbrev pub invariant-loop-k : goal.invariant-loop-k
invariant-loop-k l = (length l.out ≡ length l.initial.out) × (l.out ≡ part l.k (firsts (through_at l.self.field.s l.self.l l.p) (through_count l.self.field.s l.self.l l.p)) l.initial.out)
