-- Refused, or decoded from the differences of the tags (Comparing); and demand 3 and requests 2.2 and 2.13 (Claiming) and 2.14 (Drifting).
use Rattle.fips197.proofs.Kit.{refl, ◌∙◌, arith, length}
use Rattle.blocks.proofs.Xor.{bytes_from}
use Rattle.sizes.proofs.Laws.{rows_few, tags_few}
use Rattle.files.specs.TagFile.{code_of}
use Rattle.tagging.specs.Tagging.{keys_in}
use Rattle.checks.specs.Passed.{Reportable}
use Rattle.checks.proofs.Checking.{reportable}
use Rattle.files.proofs.Passing.{given_told, kept_told}
use Rattle.scheme.specs.Calls.{report_writes, report_answer, report_named, report_rows}
use Rattle.scheme.proofs.Filing.{tag_key_long, item_key_long}
use Rattle.scheme.proofs.Comparing.{written_as, answer_as, named_as, rows_as}
use Rattle.scheme.proofs.Claiming.{claim, row_claim, name_claim}
use Rattle.scheme.proofs.Drifting.{drift_claim}
use Rattle.scheme.proofs.report.Goals as goal

pub returns-in_err-compare-clause-written : goal.returns-in_err-compare-clause-written
unfolding report_writes
returns-in_err-compare-clause-written c = kept_told _ _ _ _ c.in_err-compare.ensures.refused

pub decode_files-requires : goal.decode_files-requires
decode_files-requires c =
    let passed : Reportable c.args.keys.now c.args.message.now c.args.file.now (length c.args.marks.now) =
    reportable _ _ _ _ _ c.in_ok-compare.ensures.refused refl in
    let p = passed in
    let H = c.in_ok-compare.ensures.differences in
    record {
      sound = p.files.message;
      formed = p.files.file;
      s_value = (p.files.counts, p.fits);
      f_in_bounds = omega (arith, H.size, rows_few (code_of c.args.file.now));
    }

pub returns : goal.returns
unfolding report_writes report_answer report_named report_rows
returns c =
    let passed : Reportable c.args.keys.now c.args.message.now c.args.file.now (length c.args.marks.now) =
    reportable _ _ _ _ _ c.in_ok-compare.ensures.refused refl in
    let H = c.in_ok-compare.ensures.differences in
    let p = passed in
    let keys = c.args.keys.now in
    let m = c.args.message.now in
    let f = c.args.file.now in
    let hi = item_key_long (keys_in keys) keys refl p.files.keys48 in
    let ht = tag_key_long (keys_in keys) keys refl p.files.keys48 in
    let w = written_as (keys_in keys) m f _ _ p.files.file p.files.counts hi ht H _ _ c.decode_files.ensures.written in
    let a = answer_as (keys_in keys) m f _ _ p.files.file p.files.counts hi ht H _ c.decode_files.ensures.answer in
    let n = named_as (keys_in keys) m f _ _ p.files.file p.files.counts hi ht H _ c.decode_files.ensures.named in
    let r = rows_as (keys_in keys) m f _ _ p.files.file p.files.counts hi ht H _ c.decode_files.ensures.rows in
    let b = bytes_from keys (λ i l. omega (arith, c.shared_slice_known-1.given i)) in
    record {
      refused = c.in_ok-compare.ensures.refused;
      written = w ∙ given_told _ _ _ c.in_ok-compare.ensures.refused;
      answer = a ∙ given_told _ _ _ c.in_ok-compare.ensures.refused;
      named = n ∙ given_told _ _ _ c.in_ok-compare.ensures.refused;
      rows = r ∙ given_told _ _ _ c.in_ok-compare.ensures.refused;
      detection = claim keys m f _ b p _ _ _ _ w n a;
      counting = row_claim keys m f _ b p _ r;
      naming = name_claim keys m f _ b p _ _ w;
      drifting = drift_claim keys m f _ p _ r;
    }

pub compare-requires : goal.compare-requires
compare-requires c = omega (arith, tags_few (code_of c.args.file.now))
