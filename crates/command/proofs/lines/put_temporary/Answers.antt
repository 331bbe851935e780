-- Three texts, one behind the other, in room for 20 digits (Behind, Lengths).
use Rattle.fips197.proofs.Kit.{rules}
use Rattle.printing.specs.Text.{ascii, labelled}
use Rattle.printing.proofs.Behind.{room_for, short_by, three₁, three₂, three₃, three}
use Rattle.command.specs.Said.{temporary_name}
use Rattle.command.proofs.Lengths.{temporary_short}
use Rattle.command.proofs.lines.put_temporary.Goals as goal

pub put-requires : goal.put-requires
unfolding temporary_name labelled ascii
put-requires g c =
    let a = c.args in
    let fits = room_for a.text.now (temporary_name a.name.now a.process) _ _ (temporary_short a.name.now a.process c.ranges.process.fits) (search rules) in
    (search rules, three₁ _ a.text.now a.name.now (labelled "." a.process) (ascii ".new") fits)

pub put_labelled-requires : goal.put_labelled-requires
unfolding temporary_name labelled ascii
put_labelled-requires g c =
    let a = c.args in
    let fits = room_for a.text.now (temporary_name a.name.now a.process) _ _ (temporary_short a.name.now a.process c.ranges.process.fits) (search rules) in
    (search rules, three₂ _ a.text.now a.name.now (labelled "." a.process) (ascii ".new") fits c.put.ensures)

pub put-requires-2 : goal.put-requires-2
unfolding temporary_name labelled ascii
put-requires-2 g c =
    let a = c.args in
    let fits = room_for a.text.now (temporary_name a.name.now a.process) _ _ (temporary_short a.name.now a.process c.ranges.process.fits) (search rules) in
    (search rules, three₃ _ a.text.now a.name.now (labelled "." a.process) (ascii ".new") fits c.put.ensures c.put_labelled.ensures)

pub returns : goal.returns
unfolding temporary_name labelled ascii
returns g c =
    let a = c.args in
    let w = three a.text.now a.name.now (labelled "." a.process) (ascii ".new") c.put.ensures c.put_labelled.ensures c.put-2.ensures in
    record { written = w; short = short_by a.text.now (temporary_name a.name.now a.process) _ _ (temporary_short a.name.now a.process c.ranges.process.fits) w }
