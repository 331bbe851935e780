-- Four texts, one behind the other (Behind, Lengths); the numbers are the family's.
use Rattle.fips197.proofs.Kit.{ap, rules}
use Rattle.sizes.specs.Sizes.{family_of}
use Rattle.printing.specs.Text.{ascii, labelled}
use Rattle.printing.specs.Lines.{limits_line}
use Rattle.printing.proofs.Behind.{room_for, short_by, put_as, four₁, four₂, four₃, four₄, four}
use Rattle.printing.proofs.Lengths.{limits-short}
use Rattle.printing.proofs.Text.put_limits.Goals as goal

pub put_labelled-requires : goal.put_labelled-requires
unfolding limits_line labelled ascii
put_labelled-requires g c =
    let f = family_of c.args.code in
    let fits = room_for c.args.self.now (limits_line c.args.code c.args.n) _ 80 (limits-short c.args.code c.args.n (search rules)) (search rules) in
    (search rules, four₁ _ c.args.self.now (labelled "cards " c.args.n) (labelled " tags " f.tags) (labelled " limit " f.limit) (ascii "\n") fits)

pub put_labelled-requires-2 : goal.put_labelled-requires-2
unfolding limits_line labelled ascii
put_labelled-requires-2 g c =
    let f = family_of c.args.code in
    let fits = room_for c.args.self.now (limits_line c.args.code c.args.n) _ 80 (limits-short c.args.code c.args.n (search rules)) (search rules) in
    rw c.tags.ensures (search rules, four₂ _ c.args.self.now (labelled "cards " c.args.n) (labelled " tags " f.tags) (labelled " limit " f.limit) (ascii "\n") fits c.put_labelled.ensures)

pub put_labelled-requires-3 : goal.put_labelled-requires-3
unfolding limits_line labelled ascii
put_labelled-requires-3 g c =
    let f = family_of c.args.code in
    let fits = room_for c.args.self.now (limits_line c.args.code c.args.n) _ 80 (limits-short c.args.code c.args.n (search rules)) (search rules) in
    let p = put_as _ _ _ _ (ap (labelled " tags ") c.tags.ensures) c.put_labelled-2.ensures in
    rw c.limit.ensures (search rules, four₃ _ c.args.self.now (labelled "cards " c.args.n) (labelled " tags " f.tags) (labelled " limit " f.limit) (ascii "\n") fits c.put_labelled.ensures p)

pub put-requires : goal.put-requires
unfolding limits_line labelled ascii
put-requires g c =
    let f = family_of c.args.code in
    let fits = room_for c.args.self.now (limits_line c.args.code c.args.n) _ 80 (limits-short c.args.code c.args.n (search rules)) (search rules) in
    let p = put_as _ _ _ _ (ap (labelled " tags ") c.tags.ensures) c.put_labelled-2.ensures in
    let q = put_as _ _ _ _ (ap (labelled " limit ") c.limit.ensures) c.put_labelled-3.ensures in
    (search rules, four₄ _ c.args.self.now (labelled "cards " c.args.n) (labelled " tags " f.tags) (labelled " limit " f.limit) (ascii "\n") fits c.put_labelled.ensures p q)

pub returns : goal.returns
unfolding limits_line labelled ascii
returns g c =
    let f = family_of c.args.code in
    let p = put_as _ _ _ _ (ap (labelled " tags ") c.tags.ensures) c.put_labelled-2.ensures in
    let q = put_as _ _ _ _ (ap (labelled " limit ") c.limit.ensures) c.put_labelled-3.ensures in
    let w = four c.args.self.now (labelled "cards " c.args.n) (labelled " tags " f.tags) (labelled " limit " f.limit) (ascii "\n") c.put_labelled.ensures p q c.put.ensures in
    record { written = w; short = short_by c.args.self.now (limits_line c.args.code c.args.n) _ 80 (limits-short c.args.code c.args.n (search rules)) w }
