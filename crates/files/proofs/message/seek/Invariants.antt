use Rattle.std.specs.Prelude.{◌≡◌}
use Rattle.files.specs.Message.{behind}
use Rattle.files.proofs.message.seek.Given as goal

abbrev pub invariant-loop-i : goal.invariant-loop-i
invariant-loop-i l = l.at ≡ behind l.s l._i
