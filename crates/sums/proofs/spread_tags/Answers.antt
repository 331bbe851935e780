-- Each turn moves a tag's sum to its row, where that has one; the rows before it are as they were (Filling).
use Rattle.std.specs.Prelude.{◌≡◌, ◌+◌, ◌-◌}
use Rattle.fips197.proofs.Kit.{arith, length, rules, ap, ◌∙◌, ℕ}
use Rattle.sizes.specs.Sizes.{family_of}
use Rattle.sizes.proofs.Laws.{rows_few, tag_before}
use Rattle.sums.proofs.Filling.{spread-first, spread_stays, spread_moves, spread_done}
use Rattle.sums.proofs.spread_tags.Goals as goal

pub loop-k-init : goal.loop-k-init
loop-k-init c = spread-first _ _ _ c.rows-k.ensures

pub overflow_mul-t : goal.overflow_mul-t
overflow_mul-t c =
    omega (arith, c.tag_of_row-t.ensures, tag_before c.args.code (c.loop-k.k - 1 + 1), rows_few c.args.code, c.rows-k.ensures)

pub block_at-requires : goal.block_at-requires
block_at-requires c =
    omega (arith, c.tag_of_row-t.ensures, tag_before c.args.code (c.loop-k.k - 1 + 1), c.rows-k.ensures, c.loop-k.invariant.size, c.requires)

pub loop-k-preserved-then-t-ne0 : goal.loop-k-preserved-then-t-ne0
loop-k-preserved-then-t-ne0 c =
    let F = family_of c.args.code in
    let l = c.loop-k in
    let e : l.k - 1 + 1 ≡ l.k = omega arith in
    let t = c.tag_of_row-t.ensures ∙ ap (λ (i : ℕ). F.tag_of_row i) e in
    let h : length c.block_at.result ≡ 16 = search rules in
    spread_moves F _ l.sums l.k (omega arith) (omega (arith, c.rows-k.ensures)) l.invariant t c.if-t-ne0.true (omega (arith, t, tag_before c.args.code l.k))
    c.block_at.result _ c.requires h c.block_at.ensures c.put_at.ensures

pub loop-k-preserved : goal.loop-k-preserved
loop-k-preserved c =
    let F = family_of c.args.code in
    let l = c.loop-k in
    let e : l.k - 1 + 1 ≡ l.k = omega arith in
    spread_stays F _ l.sums l.k (omega arith) (omega (arith, c.rows-k.ensures)) l.invariant (c.tag_of_row-t.ensures ∙ ap (λ (i : ℕ). F.tag_of_row i) e) c.if-t-ne0.false

pub returns : goal.returns
returns c = spread_done (family_of c.args.code) _ _ c.loop-k.k c.loop-k.invariant (omega arith)
