-- Yes or no, or refused (Packing).
use Rattle.std.specs.Prelude.{◌≡◌, Result, IfOk}
use Rattle.fips197.proofs.Kit.{refl, sym, ap, ◌∙◌, subst, Bool, arith, ℕ}
use Rattle.std.specs.Prelude.{◌*◌}
use Rattle.incidence.specs.Count.{indicator}
use Rattle.files.specs.declared.refusals.Refused.{Refused}
use Rattle.files.specs.Refusals.{told}
use Rattle.files.proofs.Passing.{number-low}
use Rattle.firmware.specs.Packed.{packed_yes}
use Rattle.firmware.proofs.Packing.{yes_done, yes_refused}
use Rattle.firmware.proofs.pack_verify.Goals as goal

abbrev Packs : ℕ → Bool → Result Bool Refused → Type 0
Packs w t r = IfOk r (λ x. x ≡ t) → w ≡ packed_yes (told r) t

pub returns-in-Ok-true : goal.returns-in-Ok-true
returns-in-Ok-true c t =
    subst (Packs _ t) (sym c.in-Ok-true.is) (λ e. ap (λ (b : Bool). 256 * indicator b) (sym c.in-Ok-true.field-0-test ∙ e) ∙ yes_done _ t refl)

pub returns-in-Ok-false : goal.returns-in-Ok-false
returns-in-Ok-false c t =
    subst (Packs _ t) (sym c.in-Ok-false.is) (λ e. ap (λ (b : Bool). 256 * indicator b) (sym c.in-Ok-false.field-0-test ∙ e) ∙ yes_done _ t refl)

pub returns-in-Err : goal.returns-in-Err
returns-in-Err c t =
    subst (Packs _ t) (sym c.in-Err.is) (λ e. c.pack.ensures ∙ yes_refused _ t (λ z. let l = number-low c.in-Err.refused.reason in absurd (omega arith)))
