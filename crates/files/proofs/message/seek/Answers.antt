-- Behind the items passed, which all fit (Messages).
use Rattle.std.specs.Prelude.{◌≡◌, ◌+◌, ◌≤◌}
use Rattle.fips197.proofs.Kit.{sym, ap, ◌∙◌, ℕ, arith, length, subst}
use Rattle.files.specs.Message.{number16, behind}
use Rattle.files.proofs.Messages.{behind_more, item-fits}
use Rattle.files.specs.Refusals.{Refusal}
use Rattle.files.proofs.message.seek.Goals as goal

pub item_end-at-requires : goal.item_end-at-requires
item_end-at-requires c =
    let f = item-fits c.args.s.now c.loop-i._i (ap (λ (r : Refusal). r.number) c.requires.2) (omega arith) in
    (omega (arith, f.head), c.requires.1)

pub loop-i-preserved : goal.loop-i-preserved
loop-i-preserved c = c.item_end-at.ensures ∙ behind_more c.args.s.now c.loop-i._i c.loop-i.at c.loop-i.invariant

pub returns : goal.returns
returns c =
    let s = c.args.s.now in
    let k = c.args.k in
    let f = item-fits s k (ap (λ (r : Refusal). r.number) c.requires.2) c.requires.3 in
    let p : c.loop-i.at ≡ behind s k = c.loop-i.invariant ∙ ap (behind s) (omega arith) in
    (p, subst (λ (a : ℕ). a + 2 + number16 s a ≤ length s) (sym p) f.room)
