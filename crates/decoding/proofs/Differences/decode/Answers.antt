-- All items are marked, those that an agreeing row holds are cleared, and the rest follows from the marks (Marks).
use Rattle.std.specs.Prelude.{◌≡◌}
use Rattle.std.proofs.Math.ListN.{replicate}
use Rattle.fips197.proofs.Kit.{ap, sym, ◌∙◌, subst, length, rules}
use Rattle.incidence.specs.Report.{named, disagreeing}
use Rattle.sizes.specs.Sizes.{family_of}
use Rattle.decoding.specs.Decoding.{agrees_in, Marked}
use Rattle.decoding.proofs.Marks.{marked_all, cleared_at, named-marked, count_at, answer_is, marked_whole}
use Rattle.decoding.proofs.Picking.{as_many}
use Rattle.decoding.proofs.Differences.decode.Goals as goal

pub returns : goal.returns
returns c =
    let F = family_of c.args.self.now.code in
    let agrees = agrees_in c.args.self.now.d.now in
    let marks = c.args.marks.now in
    let filled : c.fill.new.self ≡ replicate (length marks) 1 = search rules in
    let all = subst (Marked (length marks) (λ j. 1) marks) (sym filled) (marked_all marks 1) in
    let clears = as_many F agrees (length marks) c.rows.ensures (cleared_at _ all.size c.clear_agreeing-rows.ensures.cleared) in
    let rows = c.clear_agreeing-rows.ensures.rows ∙ ap (disagreeing agrees) c.rows.ensures in
    let size = clears.size ∙ all.size in
    let names = c.count_named-names.ensures ∙ count_at F agrees all clears in
    record {
      written = marked_whole (named F agrees) marks _ (named-marked F agrees all clears);
      answer = c.choose.ensures ∙ answer_is F agrees all clears _ _ rows names;
      named = names;
      rows = rows;
    }
