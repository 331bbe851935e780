use Rattle.std.specs.Prelude.{◌≡◌, ◌++◌}
use Rattle.fips197.proofs.Kit.{take}
use Rattle.derivation.specs.Lines.{words}
use Rattle.derivation.proofs.put_words.Given as goal

abbrev pub invariant-loop-k : goal.invariant-loop-k
invariant-loop-k g l = l.text ≡ l.initial.text ++ words (take l.k-index l.steps)
