-- The chain counts the marks other than 0 (Picking).
use Rattle.std.specs.Prelude.{◌≡◌, count_by}
use Rattle.fips197.proofs.Kit.{rules, sym, ap, ◌∙◌, not, eqb, arith, length, take_all}
use Rattle.decoding.proofs.Picking.{count_marked}
use Rattle.decoding.proofs.count_named.Goals as goal

pub returns : goal.returns
returns c =
    let marks = c.args.marks.now in
    let counted : c.count.result ≡ count_by (λ x. not (eqb x 0)) marks = search rules in
    counted ∙ ap (count_by (λ x. not (eqb x 0))) (sym (take_all (length marks) marks (omega arith))) ∙ count_marked marks (length marks) (omega arith)
