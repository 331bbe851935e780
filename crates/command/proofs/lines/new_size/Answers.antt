-- Stamp and count are those that are defined.
use Rattle.fips197.proofs.Kit.{◌∙◌, ap₂, ℕ}
use Rattle.stamp.specs.declared.Stamp.{Stamp}
use Rattle.files.specs.TagFile.{head_for, file_size}
use Rattle.command.specs.Said.{new_size}
use Rattle.command.proofs.lines.new_size.Goals as goal

pub returns : goal.returns
unfolding new_size
returns c =
    let code = c.args.code in
    c.file_size.ensures.0
    ∙ ap₂ (λ (st : Stamp) (n : ℕ). file_size (head_for st code n)) c.stamp_for-stamp.ensures c.items.ensures
