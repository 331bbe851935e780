-- Each turn puts one card's line behind those that stand (Behind, CardLines).
use Rattle.std.specs.Prelude.{◌≡◌, ◌+◌, ◌*◌}
use Rattle.fips197.proofs.Kit.{sym, ap, arith, get_or, length, rules}
use Rattle.printing.specs.Lines.{card_part, card_lines}
use Rattle.printing.proofs.Behind.{room_for, short_by, put_none, put_as, two₂, two}
use Rattle.printing.proofs.CardLines.{lines_next, lines_room}
use Rattle.printing.proofs.Lengths.{cards_short}
use Rattle.printing.proofs.Text.put_cards.Goals as goal

pub loop-i-init : goal.loop-i-init
unfolding card_lines
loop-i-init g c = put_none c.args.self.now

pub put_card-requires : goal.put_card-requires
put_card-requires g c =
    let a = c.args in
    let marks = a.marks.now in
    let j = c.loop-i.i in
    let fits = room_for a.self.now (card_lines marks (length marks)) _ (26 * length marks) (cards_short marks (length marks) (search rules)) (search rules) in
    (search rules, two₂ _ a.self.now (card_lines marks j) (card_part (get_or marks j 0) (j + 1)) (lines_room _ j (length marks) marks a.self.now (omega arith) fits) c.loop-i.invariant)

pub loop-i-preserved : goal.loop-i-preserved
loop-i-preserved g c =
    let marks = c.args.marks.now in
    let j = c.loop-i.i in
    put_as _ _ _ _ (sym (lines_next marks j)) (two c.args.self.now (card_lines marks j) (card_part (get_or marks j 0) (j + 1)) c.loop-i.invariant c.put_card.ensures)

pub returns : goal.returns
returns g c =
    let marks = c.args.marks.now in
    let n = length marks in
    let e : c.loop-i.i ≡ n = omega arith in
    let w = put_as _ _ _ _ (ap (card_lines marks) e) c.loop-i.invariant in
    record { written = w; short = short_by c.args.self.now (card_lines marks n) _ (26 * n) (cards_short marks n (search rules)) w }
