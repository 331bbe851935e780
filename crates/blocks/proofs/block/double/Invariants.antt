use Rattle.std.specs.Prelude.{◌≡◌}
use Rattle.blocks.proofs.Loop.{part}
use Rattle.blocks.specs.Double.{double}
use Rattle.blocks.proofs.block.double.Given as goal

abbrev pub invariant-loop-i : goal.invariant-loop-i
invariant-loop-i l = l.r ≡ part l.i (double l.b) l.initial.r
