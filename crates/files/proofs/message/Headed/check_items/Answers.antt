-- Behind the items passed, which all fit (Messages).
use Rattle.fips197.proofs.Kit.{refl, sym, ◌∙◌, arith}
use Rattle.files.specs.Message.{behind, refuse_items}
use Rattle.files.proofs.Messages.{headed, fits-so, behind_more, items_more, items_stop, items_end}
use Rattle.files.proofs.message.Headed.check_items.Goals as goal

pub first_at-at-requires : goal.first_at-at-requires
first_at-at-requires c = omega (arith, headed _ c.args.self.now.headed)

pub loop-k-init : goal.loop-k-init
unfolding refuse_items behind
loop-k-init c = let l = headed c.args.self.now.bytes.now c.args.self.now.headed in (omega (arith, c.first_at-at.ensures, l), refl, c.first_at-at.ensures, l.1)

pub item_end-at-requires : goal.item_end-at-requires
item_end-at-requires c =
    let f = fits-so c.args.self.now.bytes.now c.loop-k.at (sym c.item_fits.ensures ∙ c.if-not-item_fits.false) in
    (f.head, omega (arith, c.loop-k.invariant.3))

pub loop-k-preserved : goal.loop-k-preserved
loop-k-preserved c =
    let s = c.args.self.now.bytes.now in
    let k = c.loop-k.k in
    let at = c.loop-k.at in
    let f = fits-so s at (sym c.item_fits.ensures ∙ c.if-not-item_fits.false) in (
      omega (arith, f.room, c.item_end-at.ensures),
      items_more s k at _ c.loop-k.invariant.1 c.loop-k.invariant.2 c.item_fits.ensures c.if-not-item_fits.false,
      c.item_end-at.ensures ∙ behind_more s k at c.loop-k.invariant.2,
      c.loop-k.invariant.3,
    )

pub returns-then-not-item_fits : goal.returns-then-not-item_fits
returns-then-not-item_fits c =
    items_stop c.args.self.now.bytes.now c.loop-k.k c.loop-k.at _ _ c.loop-k.invariant.1 c.loop-k.invariant.2 c.item_fits.ensures c.if-not-item_fits.true
    c.count-n.ensures.0 (omega arith)

pub returns : goal.returns
returns c = c.unless.ensures ∙ items_end c.args.self.now.bytes.now c.loop-k.k c.loop-k.at _ c.loop-k.invariant.1 c.loop-k.invariant.2 c.count-n.ensures.0 (omega arith)
