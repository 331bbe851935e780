-- Each test settles it (Messages).
use Rattle.std.specs.Prelude.{◌+◌}
use Rattle.fips197.proofs.Kit.{ap, ◌∙◌, ℕ, arith, length, leb, lt-leb}
use Rattle.files.proofs.Messages.{fits-not-length, fits-not-size, fits_else}
use Rattle.files.proofs.message.item_fits.Goals as goal

pub returns-then-s-at : goal.returns-then-s-at
returns-then-s-at c = fits-not-length c.args.s.now c.args.at c.if-s-at.true

pub returns-then-n-le-ITEM_MOST : goal.returns-then-n-le-ITEM_MOST
returns-then-n-le-ITEM_MOST c =
    let s = c.args.s.now in
    let at = c.args.at in
    ap (λ (k : ℕ). leb (at + 2 + k) (length s)) c.number16-n.ensures.0 ∙ fits_else s at (omega arith) (omega arith)

pub returns-else-n-le-ITEM_MOST : goal.returns-else-n-le-ITEM_MOST
returns-else-n-le-ITEM_MOST c =
    lt-leb _ _ c.if-n-le-ITEM_MOST.false ∙ fits-not-size c.args.s.now c.args.at (omega arith)
