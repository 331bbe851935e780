-- Every row agrees, or the rows are filled in and decoded (Agreeing, Marks).
use Rattle.std.specs.Prelude.{◌≡◌, ◌++◌}
use Rattle.fips197.proofs.Kit.{sym, ap, ◌∙◌, List, ℕ, arith, length, take, drop, length-take-le}
use Rattle.blocks.specs.Block.{all_zero, zeros}
use Rattle.incidence.specs.Report.{named, number_named, answer}
use Rattle.incidence.proofs.Differences.{none-disagree, answer_agreeing, none_counted}
use Rattle.incidence.proofs.Rowwise.{number_named_ext, disagreeing_ext, answer_ext}
use Rattle.sizes.specs.Sizes.{family_of}
use Rattle.sizes.proofs.Laws.{lawful, tag_before}
use Rattle.decoding.specs.Decoding.{agrees_in, agrees_from, marks_of}
use Rattle.decoding.proofs.Marks.{marks_agreeing}
use Rattle.decoding.proofs.Agreeing.{marks_ext, filled_agree, zero_agree, tags-within}
use Rattle.decoding.proofs.decode_tags.Goals as goal

pub all_zero-requires : goal.all_zero-requires
all_zero-requires c =
    let F = family_of c.args.code in
    omega (arith, c.tags.ensures, c.requires.code_in_bounds, tags-within F (lawful c.args.code c.requires.code_value) (tag_before c.args.code))

pub returns-then-all_zero : goal.returns-then-all_zero
returns-then-all_zero c =
    let F = family_of c.args.code in
    let L = lawful c.args.code c.requires.code_value in
    let marks = c.args.marks.now in
    let n = c.args.n in
    let agrees = agrees_from F c.args.sums.now in
    let all = zero_agree F c.args.sums.now L
    (ap (all_zero c.args.sums.now) (sym c.tags.ensures) ∙ sym c.all_zero.ensures ∙ c.if-all_zero.true) in
    let long : length (take n marks) ≡ n = length-take-le n marks c.requires.n_bound.1 in
    record {
      written = ap (λ (l : List ℕ). l ++ drop n marks) (c.intact.ensures.written ∙ ap zeros long ∙ sym (marks_agreeing F agrees all L n c.requires.n_bound.0));
      answer = c.intact.ensures.answer ∙ sym (answer_agreeing F agrees all n);
      named = c.intact.ensures.named ∙ sym (none_counted F agrees all L n c.requires.n_bound.0);
      rows = c.intact.ensures.rows ∙ sym (none-disagree F agrees all);
    }

pub returns : goal.returns
returns c =
    let F = family_of c.args.code in
    let marks = c.args.marks.now in
    let n = c.args.n in
    let d = c.fill_rows.new.sums in
    let same = filled_agree F c.args.sums.now _ _ c.fill_rows.ensures in
    let long : length (take n marks) ≡ n = length-take-le n marks c.requires.n_bound.1 in
    record {
      written = ap (λ (l : List ℕ). l ++ drop n marks)
          (c.decode.ensures.written ∙ ap (marks_of (named F (agrees_in d))) long ∙ marks_ext F _ (agrees_from F c.args.sums.now) same n);
      answer = c.decode.ensures.answer ∙ ap (answer F (agrees_in d)) long ∙ answer_ext F _ (agrees_from F c.args.sums.now) same n;
      named = c.decode.ensures.named ∙ ap (number_named F (agrees_in d)) long ∙ number_named_ext F _ (agrees_from F c.args.sums.now) same n;
      rows = c.decode.ensures.rows ∙ disagreeing_ext F _ (agrees_from F c.args.sums.now) same;
    }
