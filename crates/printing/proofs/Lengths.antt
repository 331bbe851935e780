-- How long the lines can be: no number of 64 bits has more than 20 digits.
use Rattle.std.specs.Prelude.{◌≡◌, ◌++◌, ◌+◌, ◌*◌, ◌^◌, ◌≤◌, ◌<◌, if◌then◌else◌}
use Rattle.fips197.proofs.Kit.{refl, Bool, true, false, List, [], ℕ, zero, suc, String, arith, eqb, length, get_or, length-append}
use Rattle.incidence.specs.declared.Answer.{Answer}
use Rattle.incidence.specs.declared.Answer.TheVariants.{Intact, Named, Beyond}
use Rattle.sizes.specs.Sizes.{family_of}
use Rattle.sizes.proofs.Laws.{tags_few, limit_few}
use Rattle.files.specs.Refusals.{Refusal}
use Rattle.printing.specs.Text.{ascii, decimal, labelled}
use Rattle.printing.specs.Lines.{limits_line, answer_word, answer_line, card_line, card_part, card_lines, refused_line}
use Rattle.printing.proofs.Decimals.{decimal-short}

pub decimal-64 : (n : ℕ) → n < 2 ^ 64 → length (decimal n) ≤ 20
decimal-64 n h = decimal-short 20 n (omega arith) (omega arith)

labelled-64 : (w : String) (k n : ℕ) → length (ascii w) ≡ k → n < 2 ^ 64 → length (labelled w n) ≤ k + 20
unfolding labelled
labelled-64 w k n e h =
    let s = length-append (ascii w) (decimal n) in
    let d = decimal-64 n h in
    omega (arith, s, d, e)

-- three texts and the line end
line_short : (a b d : List ℕ) (x y z : ℕ) → length a ≤ x → length b ≤ y → length d ≤ z → length (a ++ b ++ d ++ ascii "\n") ≤ x + y + z + 1
unfolding ascii
line_short a b d x y z ha hb hd =
    let p = length-append (a ++ b ++ d) (ascii "\n") in
    let q = length-append (a ++ b) d in
    let r = length-append a b in
    omega (arith, p, q, r)

pub limits-short : (c n : ℕ) → n < 2 ^ 64 → length (limits_line c n) ≤ 80
unfolding limits_line ascii
limits-short c n h =
    let t = tags_few c in
    let d = limit_few c in
    line_short (labelled "cards " n) (labelled " tags " (family_of c).tags) (labelled " limit " (family_of c).limit) 26 26 27 (labelled-64 "cards " 6 n refl h)
    (labelled-64 " tags " 6 (family_of c).tags refl (omega (arith, t))) (labelled-64 " limit " 7 (family_of c).limit refl (omega (arith, d)))

word-short : (a : Answer) → length (answer_word a) ≤ 6
unfolding answer_word ascii
word-short Intact = omega arith
word-short Named = omega arith
word-short Beyond = omega arith

pub answer-short : (a : Answer) (names rows : ℕ) → names < 2 ^ 64 → rows < 2 ^ 64 → length (answer_line a names rows) ≤ 54
unfolding answer_line ascii
answer-short a names rows h l =
    line_short (answer_word a) (labelled " " names) (labelled " rows " rows) 6 21 26 (word-short a) (labelled-64 " " 1 names refl h) (labelled-64 " rows " 6 rows refl l)

pub refused_short : (r : Refusal) → r.number < 2 ^ 64 → r.place < 2 ^ 64 → length (refused_line r) ≤ 56
unfolding refused_line ascii
refused_short r h l =
    let a = labelled "refused " r.number in
    let b = labelled " place " r.place in
    let p = length-append (a ++ b) (ascii "\n") in
    let q = length-append a b in
    let ha = labelled-64 "refused " 8 r.number refl h in
    let hb = labelled-64 " place " 7 r.place refl l in
    omega (arith, p, q, ha, hb)

part_short : (mark j : ℕ) → j < 2 ^ 64 → length (card_part mark j) ≤ 26
unfolding card_part card_line ascii
part_short mark j h = go (eqb mark 1)
  where
    go : (t : Bool) → length (if t then card_line j else []) ≤ 26
    go true =
        let l = labelled-64 "card " 5 j refl h in
        let e = length-append (labelled "card " j) (ascii "\n") in
        omega (arith, e, l)
    go false = omega arith

pub cards_short : (marks : List ℕ) (n : ℕ) → n < 2 ^ 64 → length (card_lines marks n) ≤ 26 * n
unfolding card_lines
cards_short marks zero h = omega arith
cards_short marks (suc k) h =
    let ih = cards_short marks k (omega arith) in
    let p = part_short (get_or marks k 0) (suc k) h in
    let e = length-append (card_lines marks k) (card_part (get_or marks k 0) (suc k)) in
    omega (arith, ih, p, e)
