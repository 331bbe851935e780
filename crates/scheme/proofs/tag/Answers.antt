-- Refused, or the file (Filing).
use Rattle.fips197.proofs.Kit.{refl, ◌∙◌, rules}
use Rattle.scheme.specs.Calls.{tag_writes}
use Rattle.checks.proofs.Checking.{taggable}
use Rattle.files.proofs.Passing.{given_told, kept_told}
use Rattle.scheme.proofs.tag.Goals as goal

pub returns-in_err-tag_refusal : goal.returns-in_err-tag_refusal
unfolding tag_writes
returns-in_err-tag_refusal c = record { refused = search rules; written = kept_told _ _ _ _ c.in_err-tag_refusal.ensures }

pub write_tag_file-requires : goal.write_tag_file-requires
write_tag_file-requires c = taggable _ _ _ _ _ c.in_ok-tag_refusal.ensures refl

pub returns : goal.returns
unfolding tag_writes
returns c = record { refused = c.in_ok-tag_refusal.ensures; written = c.write_tag_file.ensures ∙ given_told _ _ _ c.in_ok-tag_refusal.ensures }
