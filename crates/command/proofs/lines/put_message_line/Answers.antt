-- Three texts, one behind the other, in room for 20 digits each (Behind, Lengths).
use Rattle.fips197.proofs.Kit.{rules}
use Rattle.printing.specs.Text.{ascii, labelled}
use Rattle.printing.proofs.Behind.{room_for, short_by, three₁, three₂, three₃, three}
use Rattle.command.specs.Said.{message_line}
use Rattle.command.proofs.Lengths.{message-short}
use Rattle.command.proofs.lines.put_message_line.Goals as goal

pub put_labelled-requires : goal.put_labelled-requires
unfolding message_line labelled ascii
put_labelled-requires g c =
    let a = c.args in
    let fits = room_for a.text.now (message_line a.n a.number) _ 55 (message-short a.n a.number c.ranges.n.fits c.ranges.number.fits) (search rules) in
    (search rules, three₁ _ a.text.now (labelled "cards " a.n) (labelled " number " a.number) (ascii "\n") fits)

pub put_labelled-requires-2 : goal.put_labelled-requires-2
unfolding message_line labelled ascii
put_labelled-requires-2 g c =
    let a = c.args in
    let fits = room_for a.text.now (message_line a.n a.number) _ 55 (message-short a.n a.number c.ranges.n.fits c.ranges.number.fits) (search rules) in
    (search rules, three₂ _ a.text.now (labelled "cards " a.n) (labelled " number " a.number) (ascii "\n") fits c.put_labelled.ensures)

pub put-requires : goal.put-requires
unfolding message_line labelled ascii
put-requires g c =
    let a = c.args in
    let fits = room_for a.text.now (message_line a.n a.number) _ 55 (message-short a.n a.number c.ranges.n.fits c.ranges.number.fits) (search rules) in
    (search rules, three₃ _ a.text.now (labelled "cards " a.n) (labelled " number " a.number) (ascii "\n") fits c.put_labelled.ensures c.put_labelled-2.ensures)

pub returns : goal.returns
unfolding message_line labelled ascii
returns g c =
    let a = c.args in
    let w = three a.text.now (labelled "cards " a.n) (labelled " number " a.number) (ascii "\n") c.put_labelled.ensures c.put_labelled-2.ensures c.put.ensures in
    record { written = w; short = short_by a.text.now (message_line a.n a.number) _ 55 (message-short a.n a.number c.ranges.n.fits c.ranges.number.fits) w }
