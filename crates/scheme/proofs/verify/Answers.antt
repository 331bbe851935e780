-- Refused, or the tags compared (Filing).
use Rattle.fips197.proofs.Kit.{refl, ◌∙◌}
use Rattle.scheme.specs.Calls.{verify_yes}
use Rattle.checks.proofs.Checking.{comparable}
use Rattle.files.proofs.Passing.{given_told}
use Rattle.scheme.proofs.verify.Goals as goal

pub tags_equal-requires : goal.tags_equal-requires
tags_equal-requires c = record { comparable = comparable _ _ _ _ c.in_ok-verify_refusal.ensures refl }

pub returns : goal.returns
unfolding verify_yes
returns c = record { refused = c.in_ok-verify_refusal.ensures; yes = c.tags_equal.ensures ∙ given_told _ _ _ c.in_ok-verify_refusal.ensures }
