-- Four texts, one behind the other, in room for 20 digits a number (Behind, Lengths).
use Rattle.fips197.proofs.Kit.{ap, rules}
use Rattle.printing.specs.Text.{ascii, labelled}
use Rattle.printing.proofs.Behind.{room_for, short_by, four₁, four₂, four₃, four₄, four, put_as}
use Rattle.command.specs.Said.{family_part, new_size, size_line}
use Rattle.command.proofs.Lengths.{size-short}
use Rattle.command.proofs.lines.put_size_line.Goals as goal

pub put_labelled-requires : goal.put_labelled-requires
unfolding size_line labelled ascii
put_labelled-requires g c =
    let a = c.args in
    let fits = room_for a.text.now (size_line a.code) _ 133 (size-short a.code c.ranges.code.fits) (search rules) in
    (search rules, four₁ _ a.text.now (labelled "size " a.code) (family_part a.code) (labelled " bytes " (new_size a.code)) (ascii "\n") fits)

pub put_family-requires : goal.put_family-requires
unfolding size_line labelled ascii
put_family-requires g c =
    let a = c.args in
    let fits = room_for a.text.now (size_line a.code) _ 133 (size-short a.code c.ranges.code.fits) (search rules) in
    (search rules, four₂ _ a.text.now (labelled "size " a.code) (family_part a.code) (labelled " bytes " (new_size a.code)) (ascii "\n") fits c.put_labelled.ensures)

pub put_labelled-requires-2 : goal.put_labelled-requires-2
unfolding size_line labelled ascii
put_labelled-requires-2 g c =
    let a = c.args in
    let fits = room_for a.text.now (size_line a.code) _ 133 (size-short a.code c.ranges.code.fits) (search rules) in
    rw c.new_size.ensures (search rules, four₃ _ a.text.now (labelled "size " a.code) (family_part a.code) (labelled " bytes " (new_size a.code)) (ascii "\n") fits c.put_labelled.ensures c.put_family.ensures)

pub put-requires : goal.put-requires
unfolding size_line labelled ascii
put-requires g c =
    let a = c.args in
    let fits = room_for a.text.now (size_line a.code) _ 133 (size-short a.code c.ranges.code.fits) (search rules) in
    (search rules, four₄ _ a.text.now (labelled "size " a.code) (family_part a.code) (labelled " bytes " (new_size a.code)) (ascii "\n") fits c.put_labelled.ensures c.put_family.ensures (put_as _ _ _ _ (ap (labelled " bytes ") c.new_size.ensures) c.put_labelled-2.ensures))

pub returns : goal.returns
unfolding size_line labelled ascii
returns g c =
    let a = c.args in
    let w = four a.text.now (labelled "size " a.code) (family_part a.code) (labelled " bytes " (new_size a.code)) (ascii "\n") c.put_labelled.ensures c.put_family.ensures (put_as _ _ _ _ (ap (labelled " bytes ") c.new_size.ensures) c.put_labelled-2.ensures) c.put.ensures in
    record { written = w; short = short_by a.text.now (size_line a.code) _ 133 (size-short a.code c.ranges.code.fits) w }
