-- Nothing, or two texts, one behind the other (Behind, CardLines).
use Rattle.fips197.proofs.Kit.{rules}
use Rattle.printing.specs.Text.{ascii, labelled}
use Rattle.printing.specs.Lines.{card_line}
use Rattle.printing.proofs.Behind.{room_as, put_none, put_as, two₁, two₂, two}
use Rattle.printing.proofs.CardLines.{part_none, part_named}
use Rattle.printing.proofs.Text.put_card.Goals as goal

pub put_labelled-requires : goal.put_labelled-requires
unfolding card_line labelled ascii
put_labelled-requires g c =
    (search rules, two₁ _ c.args.self.now (labelled "card " c.args.j) (ascii "\n") (room_as _ _ _ _ (part_named c.args.mark c.args.j c.if-mark-eq1.true) (search rules)))

pub put-requires : goal.put-requires
unfolding card_line labelled ascii
put-requires g c =
    (search rules, two₂ _ c.args.self.now (labelled "card " c.args.j) (ascii "\n") (room_as _ _ _ _ (part_named c.args.mark c.args.j c.if-mark-eq1.true) (search rules)) c.put_labelled.ensures)

pub returns-then-mark-eq1 : goal.returns-then-mark-eq1
unfolding card_line labelled ascii
returns-then-mark-eq1 g c =
    put_as _ _ _ _ (part_named c.args.mark c.args.j c.if-mark-eq1.true)
    (two c.args.self.now (labelled "card " c.args.j) (ascii "\n") c.put_labelled.ensures c.put.ensures)

pub returns-else-mark-eq1 : goal.returns-else-mark-eq1
returns-else-mark-eq1 g c = put_as _ _ _ _ (part_none c.args.mark c.args.j c.if-mark-eq1.false) (put_none c.args.self.now)
