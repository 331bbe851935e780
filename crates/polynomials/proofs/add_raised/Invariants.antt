use Rattle.std.specs.Prelude.{◌≡◌}
use Rattle.fips197.proofs.Kit.{length}
use Rattle.blocks.specs.Block.{◌⊕◌}
use Rattle.blocks.proofs.Loop.{part}
use Rattle.polynomials.specs.Polynomial.{raised}
use Rattle.polynomials.proofs.add_raised.Given as goal

abbrev pub invariant-loop-i : goal.invariant-loop-i
invariant-loop-i l = (length l.p ≡ length l.initial.p) × (l.p ≡ part l.i (l.initial.p ⊕ raised l.k l.q) l.initial.p)
