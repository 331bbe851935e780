-- The item that Fetch does not refuse, or the empty part at the front (Messages).
use Rattle.fips197.proofs.Kit.{refl, arith, rules, sym, ◌∙◌}
use Rattle.files.specs.Refusals.{told}
use Rattle.files.proofs.Passing.{told_ok, told_err}
use Rattle.files.proofs.Messages.{fetched, unfetched, fetchable}
use Rattle.files.proofs.message.fetch.Goals as goal

pub returns-then-is_err : goal.returns-then-is_err
returns-then-is_err c =
    unfetched c.args.s _ c.args.j (told c.fetch_refusal.result) c.fetch_refusal.ensures
    (told_err c.fetch_refusal.result _ refl (sym c.is_err.ensures.value ∙ c.if-is_err.true)) refl refl

pub overflow_sub-j : goal.overflow_sub-j
overflow_sub-j c =
    let f = fetchable c.args.s.now c.args.j _ refl (told_ok _ _ c.fetch_refusal.ensures (sym c.is_err.ensures.value ∙ c.if-is_err.false)) in omega (arith, f.low)

pub seek-at-requires : goal.seek-at-requires
seek-at-requires c =
    let f = fetchable c.args.s.now c.args.j _ refl (told_ok _ _ c.fetch_refusal.ensures (sym c.is_err.ensures.value ∙ c.if-is_err.false)) in
    (f.long, f.short, f.whole, omega (arith, f.low, f.high))

pub slice_bounds-result-end-2 : goal.slice_bounds-result-end-2
slice_bounds-result-end-2 c = omega (arith, c.seek-at.ensures.1, c.number16.ensures.0)

pub returns : goal.returns
returns c =
    fetched c.args.s _ c.args.j (told c.fetch_refusal.result) c.fetch_refusal.ensures
    (told_ok _ _ refl (sym c.is_err.ensures.value ∙ c.if-is_err.false))
    c.seek-at.result c.number16.result c.seek-at.ensures.0 c.number16.ensures.0
    (search rules) (search rules) (search rules)
