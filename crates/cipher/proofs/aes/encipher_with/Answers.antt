-- One block from zeros is enciphered (blocks' Chaining).
use Rattle.std.specs.Prelude.{◌≡◌}
use Rattle.fips197.proofs.Kit.{◌∙◌, length, rules}
use Rattle.blocks.proofs.Chaining.{chain_alone}
use Rattle.cipher.specs.Aes.{cipher}
use Rattle.cipher.proofs.aes.encipher_with.Goals as goal

pub returns : goal.returns
returns c =
    let a = c.args in
    let h : length a.block ≡ 16 = search rules in
    c.absorb.ensures ∙ chain_alone (cipher a.w.now) a.block h
