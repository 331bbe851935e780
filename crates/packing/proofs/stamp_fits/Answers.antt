-- Version 1 by its number, a later one by itself (Refusing).
use Rattle.std.specs.Prelude.{◌≡◌, ◌&&◌}
use Rattle.fips197.proofs.Kit.{sym, ap, ◌∙◌, Bool, leb, le-leb, lt-leb, rules}
use Rattle.incidence.specs.Count.{inside}
use Rattle.stamp.specs.Front.{stamp_fits}
use Rattle.files.specs.Message.{newest_message}
use Rattle.packing.proofs.Refusing.{fits-first, fits_later}
use Rattle.packing.proofs.stamp_fits.Goals as goal

pub returns-then-stamp-eq1 : goal.returns-then-stamp-eq1
returns-then-stamp-eq1 c = fits-first c.args.stamp c.if-stamp-eq1.true

pub returns-then-stamp-ge1 : goal.returns-then-stamp-ge1
unfolding newest_message
returns-then-stamp-ge1 c =
    let later : inside newest_message c.args.stamp.version ≡ stamp_fits newest_message c.args.stamp =
    fits_later c.args.stamp c.if-stamp-eq1.false (search rules) in
    sym (ap (λ (t : Bool). t && leb c.args.stamp.version 2) (le-leb _ _ c.if-stamp-ge1.true)) ∙ later

pub returns-else-stamp-ge1 : goal.returns-else-stamp-ge1
unfolding newest_message
returns-else-stamp-ge1 c =
    let later : inside newest_message c.args.stamp.version ≡ stamp_fits newest_message c.args.stamp =
    fits_later c.args.stamp c.if-stamp-eq1.false (search rules) in
    let l = lt-leb _ _ c.if-stamp-ge1.false in
    l ∙ sym (ap (λ (t : Bool). t && leb c.args.stamp.version 2) l) ∙ later
