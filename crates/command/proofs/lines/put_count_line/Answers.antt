-- Two texts, one behind the other, in room for 20 digits (Behind, Lengths).
use Rattle.fips197.proofs.Kit.{rules}
use Rattle.printing.specs.Text.{ascii, labelled}
use Rattle.printing.proofs.Behind.{room_for, short_by, two₁, two₂, two}
use Rattle.command.specs.Said.{count_line}
use Rattle.command.proofs.Lengths.{count-short}
use Rattle.command.proofs.lines.put_count_line.Goals as goal

pub put_labelled-requires : goal.put_labelled-requires
unfolding count_line labelled ascii
put_labelled-requires g c =
    let a = c.args in
    let fits = room_for a.text.now (count_line a.n) _ 27 (count-short a.n c.ranges.n.fits) (search rules) in
    (search rules, two₁ _ a.text.now (labelled "cards " a.n) (ascii "\n") fits)

pub put-requires : goal.put-requires
unfolding count_line labelled ascii
put-requires g c =
    let a = c.args in
    let fits = room_for a.text.now (count_line a.n) _ 27 (count-short a.n c.ranges.n.fits) (search rules) in
    (search rules, two₂ _ a.text.now (labelled "cards " a.n) (ascii "\n") fits c.put_labelled.ensures)

pub returns : goal.returns
unfolding count_line labelled ascii
returns g c =
    let a = c.args in
    let w = two a.text.now (labelled "cards " a.n) (ascii "\n") c.put_labelled.ensures c.put.ensures in
    record { written = w; short = short_by a.text.now (count_line a.n) _ 27 (count-short a.n c.ranges.n.fits) w }
