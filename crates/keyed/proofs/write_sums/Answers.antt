-- Copied, masked, deciphered and masked again (KeyedLaws).
use Rattle.std.specs.Prelude.{◌≡◌}
use Rattle.fips197.proofs.Kit.{length, rules}
use Rattle.keyed.proofs.KeyedLaws.{sums-code}
use Rattle.keyed.proofs.write_sums.Goals as goal

pub returns : goal.returns
returns c =
    let hw : length c.args.w ≡ 176 = search rules in
    sums-code c.args.w _ _ _ _ _ _ c.args.n hw c.requires.0 _ c.mask_zero-m.ensures c.copy_blocks.ensures c.add_masks.ensures
    c.add_masks-2.ensures c.decipher_blocks.ensures
