-- Letters and version, and the number behind them where there is one (Fronts).
use Rattle.std.specs.Prelude.{◌≤◌}
use Rattle.fips197.proofs.Kit.{arith, length, rules}
use Rattle.stamp.specs.Front.{front_size}
use Rattle.stamp.proofs.Fronts.{size_later, front_low, put_length, front-first, front_later}
use Rattle.stamp.proofs.put_front.Goals as goal

pub put_version-requires : goal.put_version-requires
put_version-requires c = omega (arith, c.requires, front_low c.args.stamp.version)

pub put_number-requires : goal.put_number-requires
unfolding front_size
put_number-requires c =
    let low : 5 ≤ length c.args.out.now = omega (arith, c.requires, front_low c.args.stamp.version) in
    let same = put_length c.args.letters (search rules) c.args.stamp c.args.out.now _ c.put_version.ensures low in
    omega (arith, c.requires, size_later _ c.if-stamp-ne1.true, same)

pub returns-then-stamp-ne1 : goal.returns-then-stamp-ne1
returns-then-stamp-ne1 c =
    front_later c.args.letters (search rules) c.args.stamp c.args.out.now _ c.put_version.ensures c.if-stamp-ne1.true _ c.put_number.ensures

pub returns-else-stamp-ne1 : goal.returns-else-stamp-ne1
returns-else-stamp-ne1 c =
    front-first c.args.letters (search rules) c.args.stamp c.args.out.now _ c.put_version.ensures c.if-stamp-ne1.false
