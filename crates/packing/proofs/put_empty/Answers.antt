-- Letters, version and number, and the count behind them (Writing).
use Rattle.fips197.proofs.Kit.{arith}
use Rattle.files.specs.Message.{message_letters, items_at}
use Rattle.packing.proofs.Writing.{front_put, empty_put}
use Rattle.packing.proofs.put_empty.Goals as goal

pub put_front-requires : goal.put_front-requires
unfolding items_at
put_front-requires c = omega (arith, c.requires)

pub put_bytes-requires : goal.put_bytes-requires
unfolding items_at message_letters
put_bytes-requires c =
    let z = front_put c.args.stamp c.args.out.now _ c.put_front.ensures (omega (arith, c.requires)) in
    omega (arith, c.requires, z, c.front_size.ensures.0)

pub returns : goal.returns
unfolding message_letters
returns c =
    empty_put c.args.stamp c.args.out.now _ c.put_front.ensures _ _ c.front_size.result c.to_be16-count.ensures
    c.front_size.ensures.0 c.put_bytes.ensures
