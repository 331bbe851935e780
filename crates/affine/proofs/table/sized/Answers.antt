-- By its tests.
use Rattle.std.specs.Prelude.{◌≡◌}
use Rattle.fips197.proofs.Kit.{arith, le-leb, lt-leb, ne_eqb}
use Rattle.affine.specs.Affine.{sized}
use Rattle.affine.proofs.table.sized.Goals as goal

pub returns-then-l-ge3 : goal.returns-then-l-ge3
unfolding sized
returns-then-l-ge3 c = rw (c.in-2.is, le-leb _ _ c.if-l-ge3.true)

pub returns-else-l-ge3 : goal.returns-else-l-ge3
unfolding sized
returns-else-l-ge3 c = rw (c.in-2.is, lt-leb _ _ c.if-l-ge3.false)

pub returns-then-l-ge3-2 : goal.returns-then-l-ge3-2
unfolding sized
returns-then-l-ge3-2 c = rw (c.in-3.is, le-leb _ _ c.if-l-ge3-2.true)

pub returns-else-l-ge3-2 : goal.returns-else-l-ge3-2
unfolding sized
returns-else-l-ge3-2 c = rw (c.in-3.is, lt-leb _ _ c.if-l-ge3-2.false)

pub returns-in_default : goal.returns-in_default
unfolding sized
returns-in_default c =
    let s = c.args.s in
    let two : s ≡ 2 → ⊥ = omega (arith, c.in_default.in_default-own.rest) in
    let three : s ≡ 3 → ⊥ = omega (arith, c.in_default.in_default-own.rest) in
    rw (ne_eqb s 2 two, ne_eqb s 3 three)
