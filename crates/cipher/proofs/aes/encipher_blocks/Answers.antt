-- Each block is enciphered in its place.
use Rattle.cipher.specs.Aes.{cipher}
use Rattle.cipher.proofs.aes.encipher_blocks.Goals as goal

pub returns : goal.returns
returns c = c.each_block.ensures (cipher c.args.w) (λ b r e. e.1)
