-- Three texts, one behind the other (Behind, Lengths).
use Rattle.fips197.proofs.Kit.{rules}
use Rattle.files.specs.Refusals.{refusal}
use Rattle.printing.specs.Text.{ascii, labelled}
use Rattle.printing.specs.Lines.{refused_line}
use Rattle.printing.proofs.Behind.{room_for, short_by, three₁, three₂, three₃, three}
use Rattle.printing.proofs.Lengths.{refused_short}
use Rattle.printing.proofs.Text.put_refusal.Goals as goal

pub put_labelled-requires : goal.put_labelled-requires
unfolding refused_line labelled ascii
put_labelled-requires g c =
    let r = (refusal c.args.number c.args.place) in
    let fits = room_for c.args.self.now (refused_line r) _ 56 (refused_short r (search rules) (search rules)) (search rules) in
    (search rules, three₁ _ c.args.self.now (labelled "refused " r.number) (labelled " place " r.place) (ascii "\n") fits)

pub put_labelled-requires-2 : goal.put_labelled-requires-2
unfolding refused_line labelled ascii
put_labelled-requires-2 g c =
    let r = (refusal c.args.number c.args.place) in
    let fits = room_for c.args.self.now (refused_line r) _ 56 (refused_short r (search rules) (search rules)) (search rules) in
    (search rules, three₂ _ c.args.self.now (labelled "refused " r.number) (labelled " place " r.place) (ascii "\n") fits c.put_labelled.ensures)

pub put-requires : goal.put-requires
unfolding refused_line labelled ascii
put-requires g c =
    let r = (refusal c.args.number c.args.place) in
    let fits = room_for c.args.self.now (refused_line r) _ 56 (refused_short r (search rules) (search rules)) (search rules) in
    (search rules, three₃ _ c.args.self.now (labelled "refused " r.number) (labelled " place " r.place) (ascii "\n") fits c.put_labelled.ensures c.put_labelled-2.ensures)

pub returns : goal.returns
unfolding refused_line labelled ascii
returns g c =
    let r = (refusal c.args.number c.args.place) in
    let w = three c.args.self.now (labelled "refused " r.number) (labelled " place " r.place) (ascii "\n") c.put_labelled.ensures c.put_labelled-2.ensures c.put.ensures in
    record { written = w; short = short_by c.args.self.now (refused_line r) _ 56 (refused_short r (search rules) (search rules)) w }
