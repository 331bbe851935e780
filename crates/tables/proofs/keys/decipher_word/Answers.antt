-- By where the word stands (KeyLaws).
use Rattle.fips197.proofs.Kit.{sym, ap, ◌∙◌, arith}
use Rattle.fips197.specs.Aes.{inv_mixed, word}
use Rattle.fips197.specs.Words.{column}
use Rattle.tables.proofs.KeyLaws.{decipher-inside, decipher_below, decipher-above}
use Rattle.tables.proofs.keys.decipher_word.Goals as goal

pub returns-then-i-lt4 : goal.returns-then-i-lt4
unfolding word
returns-then-i-lt4 c =
    let d = c.args in
    c.word_at-x.ensures ∙ sym (decipher_below d.w.now d.i (omega arith))

pub returns-then-i-gt39 : goal.returns-then-i-gt39
unfolding word
returns-then-i-gt39 c =
    let d = c.args in
    c.word_at-x.ensures ∙ sym (decipher-above d.w.now d.i (omega arith))

pub returns : goal.returns
unfolding word
returns c =
    let d = c.args in
    c.inv_mix.ensures ∙ ap (column inv_mixed) c.word_at-x.ensures
    ∙ sym (decipher-inside d.w.now d.i (omega arith) (omega arith))
