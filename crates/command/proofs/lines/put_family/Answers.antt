-- Three texts, one behind the other (Behind); the numbers are the family's.
use Rattle.fips197.proofs.Kit.{ap, rules}
use Rattle.sizes.specs.Sizes.{family_of}
use Rattle.printing.specs.Text.{ascii, labelled}
use Rattle.printing.proofs.Behind.{room_as, three₁, three₂, three₃, three, put_as}
use Rattle.command.specs.Said.{family_part}
use Rattle.command.proofs.lines.put_family.Goals as goal

pub put_labelled-requires : goal.put_labelled-requires
unfolding family_part labelled ascii
put_labelled-requires g c =
    let a = c.args in
    rw c.items.ensures (search rules, three₁ _ a.text.now (labelled " cards " (family_of a.code).items) (labelled " tags " (family_of a.code).tags) (labelled " limit " (family_of a.code).limit) (search rules))

pub put_labelled-requires-2 : goal.put_labelled-requires-2
unfolding family_part labelled ascii
put_labelled-requires-2 g c =
    let a = c.args in
    (search rules, room_as _ _ _ _ (ap (labelled " tags ") (search rules)) (three₂ _ a.text.now (labelled " cards " (family_of a.code).items) (labelled " tags " (family_of a.code).tags) (labelled " limit " (family_of a.code).limit) (search rules) (put_as _ _ _ _ (ap (labelled " cards ") c.items.ensures) c.put_labelled.ensures)))

pub put_labelled-requires-3 : goal.put_labelled-requires-3
unfolding family_part labelled ascii
put_labelled-requires-3 g c =
    let a = c.args in
    rw c.limit.ensures (search rules, three₃ _ a.text.now (labelled " cards " (family_of a.code).items) (labelled " tags " (family_of a.code).tags) (labelled " limit " (family_of a.code).limit) (search rules) (put_as _ _ _ _ (ap (labelled " cards ") c.items.ensures) c.put_labelled.ensures) (put_as _ _ _ _ (ap (labelled " tags ") (search rules)) c.put_labelled-2.ensures))

pub returns : goal.returns
unfolding family_part labelled ascii
returns g c =
    let a = c.args in
    three a.text.now (labelled " cards " (family_of a.code).items) (labelled " tags " (family_of a.code).tags) (labelled " limit " (family_of a.code).limit) (put_as _ _ _ _ (ap (labelled " cards ") c.items.ensures) c.put_labelled.ensures) (put_as _ _ _ _ (ap (labelled " tags ") (search rules)) c.put_labelled-2.ensures) (put_as _ _ _ _ (ap (labelled " limit ") c.limit.ensures) c.put_labelled-3.ensures)
