-- What the call says, packed, with demand 3 and requests 2.2 and 2.14 of it (Packing), and request 2.13 of the marks, which are as Report left
-- them.
use Rattle.fips197.proofs.Kit.{refl, ◌∙◌}
use Rattle.scheme.specs.Claim.{RowClaim, DriftClaim}
use Rattle.firmware.proofs.Packing.{packed_is, report_read, claim_packed, rows_as_read, rows-packed, drift_read, ok_claim, ok_rows, ok_marks}
use Rattle.firmware.proofs.gtm_report.Goals as goal

pub returns : goal.returns
returns c =
    let e = c.report.ensures in
    let k = c.args.keys.now in
    let m = c.args.message.now in
    let f = c.args.tagfile.now in
    let o = c.args.marks.now in
    let r = c.report.result in
    let w = c.pack_report.ensures.packed _ _ _ e.answer e.named e.rows in
    let z = c.pack_report.ensures.passes in
    record {
      says = w ∙ packed_is k m f o _ _ _ _ e.refused refl refl refl;
      written = e.written;
      read = report_read k m f o _ _ _ _ _ e.refused refl refl refl w z;
      detection = λ q. claim_packed k m f o _ _ _ _ _ e.refused refl refl refl w z q _ (λ p. ok_claim r p k m f _ _ _ e.answer e.named e.detection);
      counting = λ q. rows-packed k m f o _ _ _ _ _ e.refused refl refl refl w z q (λ p. ok_rows r p (RowClaim k m f) _ e.rows e.counting);
      naming = λ q. ok_marks r (z q) _ e.naming;
      drifting = λ q. drift_read k m f _ _ (rows_as_read k m f o _ _ _ _ _ e.refused refl refl refl w z q) (ok_rows r (z q) (DriftClaim k m f) _ e.rows e.drifting);
    }
