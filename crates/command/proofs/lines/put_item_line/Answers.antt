-- Three texts, one behind the other, in room for 20 digits each (Behind, Lengths).
use Rattle.fips197.proofs.Kit.{rules}
use Rattle.printing.specs.Text.{ascii, labelled}
use Rattle.printing.proofs.Behind.{room_for, short_by, three₁, three₂, three₃, three}
use Rattle.command.specs.Said.{item_end, item_line}
use Rattle.command.proofs.Lengths.{item-short}
use Rattle.command.proofs.lines.put_item_line.Goals as goal

pub put_labelled-requires : goal.put_labelled-requires
unfolding item_line labelled ascii
put_labelled-requires g c =
    let a = c.args in
    let fits = room_for a.text.now (item_line a.j a.long) _ 60 (item-short a.j a.long c.ranges.j.fits c.ranges.long.fits) (search rules) in
    (search rules, three₁ _ a.text.now (labelled "card " a.j) (labelled " bytes " a.long) (item_end a.long) fits)

pub put_labelled-requires-2 : goal.put_labelled-requires-2
unfolding item_line labelled ascii
put_labelled-requires-2 g c =
    let a = c.args in
    let fits = room_for a.text.now (item_line a.j a.long) _ 60 (item-short a.j a.long c.ranges.j.fits c.ranges.long.fits) (search rules) in
    (search rules, three₂ _ a.text.now (labelled "card " a.j) (labelled " bytes " a.long) (item_end a.long) fits c.put_labelled.ensures)

pub put_item_end-requires : goal.put_item_end-requires
unfolding item_line labelled ascii
put_item_end-requires g c =
    let a = c.args in
    let fits = room_for a.text.now (item_line a.j a.long) _ 60 (item-short a.j a.long c.ranges.j.fits c.ranges.long.fits) (search rules) in
    (search rules, three₃ _ a.text.now (labelled "card " a.j) (labelled " bytes " a.long) (item_end a.long) fits c.put_labelled.ensures c.put_labelled-2.ensures)

pub returns : goal.returns
unfolding item_line labelled ascii
returns g c =
    let a = c.args in
    let w = three a.text.now (labelled "card " a.j) (labelled " bytes " a.long) (item_end a.long) c.put_labelled.ensures c.put_labelled-2.ensures c.put_item_end.ensures in
    record { written = w; short = short_by a.text.now (item_line a.j a.long) _ 60 (item-short a.j a.long c.ranges.j.fits c.ranges.long.fits) w }
