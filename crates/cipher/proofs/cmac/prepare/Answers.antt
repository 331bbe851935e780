-- The subkeys are doublings of the enciphered zero block.
use Rattle.fips197.proofs.Kit.{ap, ◌∙◌}
use Rattle.cipher.specs.Cmac.{subkey1, subkey2, ready}
use Rattle.cipher.proofs.Laws.{encipher_is}
use Rattle.blocks.specs.Double.{double}
use Rattle.blocks.specs.Block.{zeros}
use Rattle.cipher.proofs.cmac.prepare.Goals as goal

pub returns : goal.returns
unfolding ready subkey1 subkey2
returns c =
    let d = c in
    let key = d.args.key in
    let k = c.expand-schedule.ensures in
    let e1 = c.double-k1.ensures ∙ ap double (c.encipher_with.ensures ∙ encipher_is key _ (zeros 16) k) in
    let e2 = c.double-k2.ensures ∙ ap double e1 in
    λ i. record { schedule = k i; k1 = e1 i; k2 = e2 i }
