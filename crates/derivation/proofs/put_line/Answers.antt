-- Three texts, one behind the other (printing's Behind); the words are those of the pattern derived (Words).
use Rattle.fips197.proofs.Kit.{rules}
use Rattle.printing.specs.Text.{ascii, decimal}
use Rattle.printing.proofs.Behind.{put_as, room_as, three₁, three₂, three₃, three}
use Rattle.derivation.specs.Lines.{words, pattern_line}
use Rattle.derivation.specs.Derived.{derived}
use Rattle.derivation.proofs.Words.{words-front}
use Rattle.derivation.proofs.put_line.Goals as goal

pub put_decimal-requires : goal.put_decimal-requires
unfolding pattern_line ascii
put_decimal-requires g c =
    let s = c.args.s in
    (search rules, three₁ _ c.args.text.now (decimal s) (words (derived s)) (ascii "\n") (search rules))

pub put_words-requires : goal.put_words-requires
unfolding pattern_line ascii
put_words-requires g c =
    let s = c.args.s in
    let same = words-front s _ _ _ c.derive-n.ensures.written c.derive-n.ensures.count in
    (search rules, room_as _ _ _ _ same (three₂ _ c.args.text.now (decimal s) (words (derived s)) (ascii "\n") (search rules) c.put_decimal.ensures))

pub put-requires : goal.put-requires
unfolding pattern_line ascii
put-requires g c =
    let s = c.args.s in
    let same = words-front s _ _ _ c.derive-n.ensures.written c.derive-n.ensures.count in
    (search rules, three₃ _ c.args.text.now (decimal s) (words (derived s)) (ascii "\n") (search rules) c.put_decimal.ensures (put_as _ _ _ _ same c.put_words.ensures))

pub returns : goal.returns
unfolding pattern_line ascii
returns g c =
    let s = c.args.s in
    let same = words-front s _ _ _ c.derive-n.ensures.written c.derive-n.ensures.count in
    three c.args.text.now (decimal s) (words (derived s)) (ascii "\n") c.put_decimal.ensures (put_as _ _ _ _ same c.put_words.ensures) c.put.ensures
