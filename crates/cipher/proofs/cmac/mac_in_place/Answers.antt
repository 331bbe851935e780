-- The last block is written where it stands, and the chain goes over the message laid out (Chain).
use Rattle.std.specs.Prelude.{◌≡◌}
use Rattle.fips197.proofs.Kit.{◌∙◌, arith, length, rules}
use Rattle.cipher.specs.Aes.{cipher}
use Rattle.cipher.specs.Cmac.{mac_with}
use Rattle.cipher.proofs.Chain.{laid_in_place, mac_in_place}
use Rattle.cipher.proofs.cmac.mac_in_place.Goals as goal

pub returns : goal.returns
unfolding mac_with
returns c =
    let k = c.args.key in
    let h1 : length k.k1 ≡ 16 = search rules in
    let h2 : length k.k2 ≡ 16 = search rules in
    let begins = c.last_at-at.ensures.0 in
    record {
      mac = c.absorb.ensures
          ∙ mac_in_place k.k1 k.k2 c.args.buf.now c.last_block-last.result c.args.n c.last_at-at.result begins (omega (arith, c.requires, begins))
          c.last_block-last.ensures _ c.put_at.ensures (cipher k.schedule) h1 h2;
      laid = laid_in_place k.k1 k.k2 c.args.buf.now c.last_block-last.result c.args.n c.last_at-at.result begins (omega (arith, c.requires, begins))
          c.last_block-last.ensures _ c.put_at.ensures;
    }
