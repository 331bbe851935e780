-- The lines derived are those in use (Printing).
use Rattle.std.specs.Prelude.{◌++◌}
use Rattle.fips197.proofs.Kit.{ap, ◌∙◌, List, ℕ, length, drop}
use Rattle.derivation.proofs.Printing.{all_in_use}
use Rattle.derivation.proofs.print.Goals as goal

pub returns-clause-in_use : goal.returns-clause-in_use
returns-clause-in_use c =
    all_in_use c.args.out.now _ (c.copy_to.ensures.written ∙ ap (λ (l : List ℕ). l ++ drop (length l) c.args.out.now) c.put_lines.ensures)
