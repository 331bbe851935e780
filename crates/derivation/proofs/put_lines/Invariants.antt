use Rattle.std.specs.Prelude.{◌≡◌, ◌-◌}
use Rattle.derivation.specs.Derived.{derived}
use Rattle.derivation.specs.Lines.{pattern_lines}
use Rattle.derivation.proofs.put_lines.Given as goal

abbrev pub invariant-loop-s : goal.invariant-loop-s
invariant-loop-s l = l.text ≡ pattern_lines derived (l.s - 1)
