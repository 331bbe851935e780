use Rattle.std.specs.Prelude.{◌≡◌, ◌++◌}
use Rattle.printing.specs.Lines.{card_lines}
use Rattle.printing.proofs.Text.put_cards.Given as goal

abbrev pub invariant-loop-i : goal.invariant-loop-i
invariant-loop-i g l = l.self ≡ l.initial.self ++ card_lines l.marks l.i
