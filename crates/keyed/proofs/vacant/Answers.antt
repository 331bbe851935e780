-- By its two tests.
use Rattle.std.specs.Prelude.{◌&&◌}
use Rattle.fips197.proofs.Kit.{sym, ap, ◌∙◌, Bool, eqb, length, le-leb, lt-leb}
use Rattle.keyed.specs.Keyed.{vacant}
use Rattle.keyed.proofs.vacant.Goals as goal

pub returns-then-version-ge3 : goal.returns-then-version-ge3
unfolding vacant
returns-then-version-ge3 c =
    let d = c.args in
    sym (ap (λ (t : Bool). t && eqb (length d.item.now) 0) (le-leb 3 d.version c.if-version-ge3.true))

pub returns-else-version-ge3 : goal.returns-else-version-ge3
unfolding vacant
returns-else-version-ge3 c =
    let d = c.args in
    let low = lt-leb 3 d.version c.if-version-ge3.false in
    low ∙ sym (ap (λ (t : Bool). t && eqb (length d.item.now) 0) low)
