-- Each end is put where its test holds (Lengths).
use Rattle.fips197.proofs.Kit.{rules}
use Rattle.printing.specs.Text.{ascii}
use Rattle.printing.proofs.Behind.{room_as, put_as}
use Rattle.command.proofs.Lengths.{end_vacant, end_filled}
use Rattle.command.proofs.lines.put_item_end.Goals as goal

pub put-requires : goal.put-requires
unfolding ascii
put-requires g c = (search rules, room_as _ _ _ _ (end_vacant c.args.long c.if-long-eq0.true) (search rules))

pub put-requires-else-long-eq0 : goal.put-requires-else-long-eq0
unfolding ascii
put-requires-else-long-eq0 g c = (search rules, room_as _ _ _ _ (end_filled c.args.long c.if-long-eq0.false) (search rules))

pub returns-then-long-eq0 : goal.returns-then-long-eq0
unfolding ascii
returns-then-long-eq0 g c = put_as _ _ _ _ (end_vacant c.args.long c.if-long-eq0.true) c.put.ensures

pub returns-else-long-eq0 : goal.returns-else-long-eq0
unfolding ascii
returns-else-long-eq0 g c = put_as _ _ _ _ (end_filled c.args.long c.if-long-eq0.false) c.put-else-long-eq0.ensures
