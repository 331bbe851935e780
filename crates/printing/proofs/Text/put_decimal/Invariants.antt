use Rattle.std.specs.Prelude.{◌≡◌, ◌++◌, ◌^◌, ◌<◌}
use Rattle.fips197.proofs.Kit.{length, drop}
use Rattle.printing.specs.Text.{decimal}
use Rattle.printing.proofs.Text.put_decimal.Given as goal

abbrev pub invariant-loop-first : goal.invariant-loop-first
invariant-loop-first g l =
    (length l.text ≡ 20) × (l.rest < 10 ^ l.first) × (decimal l.n ≡ decimal l.rest ++ drop l.first l.text) × (l.rest ≡ 0 → l.first ≡ 20) × (l.self ≡ l.initial.self)
