-- Byte by byte, 14, 11, 13 and 9 times in xtimes (WordLaws).
use Rattle.fips197.proofs.WordLaws.{inv_mix_bytes}
use Rattle.fips197.proofs.words.inv_mix.Goals as goal

pub returns : goal.returns
returns c =
    inv_mix_bytes c.args.x _ _ _ _
    c.turn_twice.ensures c.xtime.ensures c.xtime-2.ensures c.mix.ensures
