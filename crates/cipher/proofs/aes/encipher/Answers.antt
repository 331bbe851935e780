-- With the expanded key; then the inverse law, over a key of 16 bytes (Laws).
use Rattle.fips197.proofs.Kit.{rules}
use Rattle.blocks.specs.Block.{Block}
use Rattle.fips197.proofs.Laws.{block_of, enciphered}
use Rattle.cipher.proofs.aes.encipher.Goals as goal

pub returns : goal.returns
returns c =
    let d = c in
    let key = d.args.key in
    let hk : Block key = block_of key (search rules) (λ i l. search rules) in
    let r = enciphered key hk _ d.args.block _ c.expand.ensures c.encipher_with.ensures in
    record { enciphered = r.0; undoes = r.1 }
