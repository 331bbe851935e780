-- Four texts, one behind the other (Behind, Lengths).
use Rattle.fips197.proofs.Kit.{rules}
use Rattle.printing.specs.Text.{ascii, labelled}
use Rattle.printing.specs.Lines.{answer_word, answer_line}
use Rattle.printing.proofs.Behind.{room_for, short_by, put_as, four₁, four₂, four₃, four₄, four}
use Rattle.printing.proofs.Lengths.{answer-short}
use Rattle.printing.proofs.Text.put_answer.Goals as goal

pub put-requires : goal.put-requires
unfolding answer_line labelled ascii
put-requires g c =
    let a = c.args in
    let fits = room_for a.self.now (answer_line a.found.answer a.found.named a.found.rows) _ 54 (answer-short a.found.answer a.found.named a.found.rows (search rules) (search rules)) (search rules) in
    rw c.word.ensures (search rules, four₁ _ a.self.now (answer_word a.found.answer) (labelled " " a.found.named) (labelled " rows " a.found.rows) (ascii "\n") fits)

pub put_labelled-requires : goal.put_labelled-requires
unfolding answer_line labelled ascii
put_labelled-requires g c =
    let a = c.args in
    let fits = room_for a.self.now (answer_line a.found.answer a.found.named a.found.rows) _ 54 (answer-short a.found.answer a.found.named a.found.rows (search rules) (search rules)) (search rules) in
    let p = put_as _ _ _ _ c.word.ensures c.put.ensures in
    (search rules, four₂ _ a.self.now (answer_word a.found.answer) (labelled " " a.found.named) (labelled " rows " a.found.rows) (ascii "\n") fits p)

pub put_labelled-requires-2 : goal.put_labelled-requires-2
unfolding answer_line labelled ascii
put_labelled-requires-2 g c =
    let a = c.args in
    let fits = room_for a.self.now (answer_line a.found.answer a.found.named a.found.rows) _ 54 (answer-short a.found.answer a.found.named a.found.rows (search rules) (search rules)) (search rules) in
    let p = put_as _ _ _ _ c.word.ensures c.put.ensures in
    (search rules, four₃ _ a.self.now (answer_word a.found.answer) (labelled " " a.found.named) (labelled " rows " a.found.rows) (ascii "\n") fits p c.put_labelled.ensures)

pub put-requires-2 : goal.put-requires-2
unfolding answer_line labelled ascii
put-requires-2 g c =
    let a = c.args in
    let fits = room_for a.self.now (answer_line a.found.answer a.found.named a.found.rows) _ 54 (answer-short a.found.answer a.found.named a.found.rows (search rules) (search rules)) (search rules) in
    let p = put_as _ _ _ _ c.word.ensures c.put.ensures in
    (search rules, four₄ _ a.self.now (answer_word a.found.answer) (labelled " " a.found.named) (labelled " rows " a.found.rows) (ascii "\n") fits p c.put_labelled.ensures c.put_labelled-2.ensures)

pub returns : goal.returns
unfolding answer_line labelled ascii
returns g c =
    let a = c.args in
    let p = put_as _ _ _ _ c.word.ensures c.put.ensures in
    let w = four a.self.now (answer_word a.found.answer) (labelled " " a.found.named) (labelled " rows " a.found.rows) (ascii "\n") p c.put_labelled.ensures c.put_labelled-2.ensures c.put-2.ensures in
    record { written = w; short = short_by a.self.now (answer_line a.found.answer a.found.named a.found.rows) _ 54 (answer-short a.found.answer a.found.named a.found.rows (search rules) (search rules)) w }
