-- Each turn writes a word (KeyLaws).
use Rattle.fips197.proofs.Kit.{◌∙◌, arith, length-set}
use Rattle.tables.proofs.KeyLaws.{words_more}
use Rattle.tables.proofs.keys.decipher_words.Goals as goal

pub loop-i-preserved : goal.loop-i-preserved
loop-i-preserved c =
    let k = c.loop-i.k in
    let i = c.loop-i.i in
    (length-set k i _ ∙ c.loop-i.invariant.0, words_more _ k i _ (omega arith) c.loop-i.invariant.1 c.decipher_word.ensures)
