-- Refused, or the file (Filing).
use Rattle.fips197.proofs.Kit.{refl, ◌∙◌, rules}
use Rattle.scheme.specs.Calls.{replace_writes}
use Rattle.checks.proofs.Checking.{replaceable}
use Rattle.files.proofs.Passing.{given_told, kept_told}
use Rattle.scheme.proofs.replace.Goals as goal

pub returns-in_err-replace_refusal : goal.returns-in_err-replace_refusal
unfolding replace_writes
returns-in_err-replace_refusal c = record { refused = search rules; written = kept_told _ _ _ _ c.in_err-replace_refusal.ensures }

pub write_replaced-requires : goal.write_replaced-requires
write_replaced-requires c = record { replaceable = replaceable _ _ _ _ _ _ _ c.in_ok-replace_refusal.ensures refl }

pub returns : goal.returns
unfolding replace_writes
returns c = record { refused = c.in_ok-replace_refusal.ensures; written = c.write_replaced.ensures ∙ given_told _ _ _ c.in_ok-replace_refusal.ensures }
