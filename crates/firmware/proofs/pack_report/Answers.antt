-- Answer and numbers, or refused (Packing).
use Rattle.std.specs.Prelude.{◌≡◌, ◌+◌, ◌*◌, ◌%◌, Result, IfOk}
use Rattle.fips197.proofs.Kit.{refl, sym, ap, ◌∙◌, subst, ℕ, arith}
use Rattle.incidence.specs.Report.{meaning}
use Rattle.incidence.specs.declared.Answer.{Answer}
use Rattle.decoding.specs.declared.Decoded.{Decoded}
use Rattle.files.specs.declared.refusals.Refused.{Refused}
use Rattle.files.specs.Refusals.{told}
use Rattle.files.proofs.Passing.{number-low, number-high}
use Rattle.firmware.specs.Packed.{packed_report, number_in}
use Rattle.firmware.proofs.Packing.{number_back, report_done, report_refused, ordinal_small}
use Rattle.firmware.proofs.pack_report.Goals as goal

abbrev Packs : ℕ → Answer → ℕ → ℕ → Result Decoded Refused → Type 0
Packs w a n m r = IfOk r (λ x. x.answer ≡ a) → IfOk r (λ x. x.named ≡ n) → IfOk r (λ x. x.rows ≡ m) → w ≡ packed_report (told r) a n m

abbrev Passes : ℕ → Result Decoded Refused → Type 0
Passes w r = number_in w ≡ 0 → (told r).number ≡ 0

pub overflow_mul-result : goal.overflow_mul-result
overflow_mul-result c = omega (arith, c.ordinal.ensures, ordinal_small c.in-Ok.found.answer)

pub overflow_add-result : goal.overflow_add-result
overflow_add-result c = omega (arith, c.ordinal.ensures, ordinal_small c.in-Ok.found.answer)

pub returns-in-Ok : goal.returns-in-Ok
returns-in-Ok c =
    let x = c.in-Ok.found in
    record {
      packed = λ a n m. subst (Packs _ a n m) (sym c.in-Ok.is) (λ ea en em.
          ap (λ (k : ℕ). 256 * k + 65536 * (x.named % 65536) + 4294967296 * (x.rows % 65536)) c.ordinal.ensures
          ∙ (λ i. 256 * (meaning (ea i)).ordinal + 65536 * (en i % 65536) + 4294967296 * (em i % 65536)) ∙ report_done _ a n m refl);
      passes = subst (Passes _) (sym c.in-Ok.is) (λ z. refl);
    }

pub returns-in-Err : goal.returns-in-Err
returns-in-Err c =
    let d = c.in-Err.refused in
    record {
      packed = λ a n m. subst (Packs _ a n m) (sym c.in-Err.is) (λ ea en em.
          c.pack.ensures ∙ report_refused _ a n m (λ z. let l = number-low d.reason in absurd (omega arith)));
      passes = subst (Passes _) (sym c.in-Err.is) (λ z. sym (number_back _ (number-high d.reason)) ∙ ap number_in (sym c.pack.ensures) ∙ z);
    }
