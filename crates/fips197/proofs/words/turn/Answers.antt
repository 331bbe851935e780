-- The digits turned by one (WordLaws).
use Rattle.fips197.proofs.Kit.{ap, ◌∙◌, rules}
use Rattle.fips197.specs.Words.{bytes_of}
use Rattle.fips197.proofs.WordLaws.{bytes_turn1}
use Rattle.fips197.proofs.words.turn.Goals as goal

pub returns : goal.returns
returns c = ap bytes_of c.rotate_right.ensures ∙ bytes_turn1 c.args.x (search rules)
