-- Each block is deciphered in its place. The schedule is one whose deciphering schedule the words are.
use Rattle.std.specs.Prelude.{◌≡◌}
use Rattle.fips197.proofs.Kit.{length, rules}
use Rattle.cipher.specs.Aes.{inv_cipher}
use Rattle.cipher.proofs.engine.decipher_blocks.Goals as goal

pub returns : goal.returns
returns c =
    let w = c.args.w in
    let h : length w ≡ 176 = search rules in
    c.each_block.ensures (inv_cipher w) (λ b r e. e.1 w h c.decipher_words-words.ensures)
