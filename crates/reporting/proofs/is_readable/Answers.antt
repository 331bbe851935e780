-- Each test settles it (Reading).
use Rattle.std.specs.Prelude.{◌+◌}
use Rattle.fips197.proofs.Kit.{ap, ◌∙◌, ℕ, arith, leb, length}
use Rattle.reporting.specs.Printed.{first_size}
use Rattle.reporting.proofs.Reading.{not-long, not_short, if_whole}
use Rattle.reporting.proofs.is_readable.Goals as goal

pub returns-then-input-lt51-clause-answer : goal.returns-then-input-lt51-clause-answer
returns-then-input-lt51-clause-answer c = not-long (c.args.input.now) c.if-input-lt51.true

pub returns-then-input-gt65536-clause-answer : goal.returns-then-input-gt65536-clause-answer
returns-then-input-gt65536-clause-answer c = not_short (c.args.input.now) c.if-input-gt65536.true

pub returns-clause-answer : goal.returns-clause-answer
unfolding first_size
returns-clause-answer c =
    let input = c.args.input.now in
    ap (λ (k : ℕ). leb (51 + k) (length input)) c.number16.ensures.0 ∙ if_whole input (omega arith) (omega arith)
