-- Each turn makes one row, if it has no tag, of rows before it (Filling).
use Rattle.std.specs.Prelude.{◌≡◌, ◌+◌, ◌≤◌}
use Rattle.fips197.proofs.Kit.{refl, sym, ◌∙◌, arith, length, rules}
use Rattle.sizes.specs.Sizes.{family_of}
use Rattle.sizes.proofs.Laws.{lawful_rows}
use Rattle.sums.proofs.Filling.{fill_first, fill_stays, fill_makes, fill_done}
use Rattle.sums.proofs.fill_made.Goals as goal
use Rattle.sums.proofs.fill_made.Goals.{then-tag_of_row-eq0, else-tag_of_row-eq0}

pub loop-k-init : goal.loop-k-init
loop-k-init c = fill_first (family_of c.args.code) _

pub loop-k-preserved : goal.loop-k-preserved
loop-k-preserved c =
    let F = family_of c.args.code in
    let l = c.loop-k in
    let inside : l.k + 1 ≤ F.rows = omega (arith, c.rows-k-end.ensures) in
    let L = lawful_rows c.args.code (omega (arith, inside)) in
    elim c.if-tag_of_row-eq0.branch [
      | then-tag_of_row-eq0 w ↦
          let h : length w.sum_made.result ≡ 16 = search rules in
          rw w.sums-is (fill_makes F L _ l.sums l.k _ refl inside l.invariant (sym c.tag_of_row.ensures ∙ w.if-tag_of_row-eq0.true) w.sum_made.result _ c.requires h w.sum_made.ensures w.put_at.ensures)
      | else-tag_of_row-eq0 w ↦ rw w.sums-is (fill_stays F L _ l.sums l.k _ refl inside l.invariant (omega (arith, c.tag_of_row.ensures, w.if-tag_of_row-eq0.false)))
    ]

pub returns : goal.returns
returns c = fill_done (family_of c.args.code) _ _ c.loop-k.k c.loop-k.invariant (omega (arith, c.rows-k-end.ensures))
