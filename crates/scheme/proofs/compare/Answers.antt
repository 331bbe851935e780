-- Refused, or read: the checks passed, and the keys are those handed over.
use Rattle.std.specs.Prelude.{◌≡◌}
use Rattle.fips197.proofs.Kit.{refl, subst, List, ℕ, arith}
use Rattle.sizes.specs.Sizes.{family_of}
use Rattle.files.specs.TagFile.{code_of}
use Rattle.sums.specs.Adding.{Holds}
use Rattle.tagging.specs.declared.Keys.{Keys}
use Rattle.checks.proofs.Checking.{reportable}
use Rattle.scheme.specs.Calls.{tag_difference}
use Rattle.scheme.proofs.compare.Goals as goal

-- of the keys handed over
of-keys : (k K : Keys) (s f z d : List ℕ) → k ≡ K → Holds (family_of (code_of f)).tags (tag_difference k s f) z d → Holds (family_of (code_of f)).tags (tag_difference K s f) z d
of-keys k K s f z d e = subst (λ (x : Keys). Holds (family_of (code_of f)).tags (tag_difference x s f) z d) e

pub keys_in-requires : goal.keys_in-requires
keys_in-requires c = omega (arith, (reportable _ _ _ _ _ c.in_ok-report_refusal.ensures refl).files.keys48)

pub read_differences-requires : goal.read_differences-requires
read_differences-requires c =
    let p = (reportable _ _ _ _ _ c.in_ok-report_refusal.ensures refl).files in
    record { sound = p.message; formed = p.file; f_in_bounds = c.requires }

pub returns : goal.returns
returns c = record {
  refused = c.in_ok-report_refusal.ensures;
  differences = of-keys _ _ _ _ _ _ c.keys_in.ensures c.read_differences.ensures;
}
