-- Room for n bytes, and for the item behind them (Refusing).
use Rattle.fips197.proofs.Kit.{◌∙◌, length}
use Rattle.packing.proofs.Refusing.{room_short, room_rest}
use Rattle.packing.proofs.check_room.Goals as goal

pub returns-then-room-n : goal.returns-then-room-n
returns-then-room-n c =
    let d = c.args in
    room_short d.room d.n (length d.item.now) c.if-room-n.true

pub returns : goal.returns
returns c =
    let d = c.args in
    c.check_room.ensures ∙ room_rest d.room d.n (length d.item.now) c.if-room-n.false
