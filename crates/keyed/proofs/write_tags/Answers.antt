-- Copied, masked, enciphered and masked again (KeyedLaws).
use Rattle.std.specs.Prelude.{◌≡◌}
use Rattle.fips197.proofs.Kit.{length, rules}
use Rattle.keyed.proofs.KeyedLaws.{tags-code}
use Rattle.keyed.proofs.write_tags.Goals as goal

pub returns : goal.returns
returns c =
    let hw : length c.args.w ≡ 176 = search rules in
    tags-code c.args.w _ _ _ _ _ _ c.args.n hw c.requires.0 _ c.mask_zero-m.ensures c.copy_blocks.ensures c.add_masks.ensures
    c.add_masks-2.ensures c.encipher_blocks.ensures
