-- Byte by byte, 2 and 3 times in xtimes (WordLaws).
use Rattle.fips197.proofs.WordLaws.{mix_bytes}
use Rattle.fips197.proofs.words.mix.Goals as goal

pub returns : goal.returns
returns c = mix_bytes c.args.x _ _ _ _ c.xtime-y.ensures c.turn.ensures c.turn-2.ensures c.turn_twice.ensures
