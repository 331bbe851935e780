-- Four bytes are the digits of the word to the base 256 (WordLaws).
use Rattle.std.specs.Prelude.{◌≡◌}
use Rattle.fips197.proofs.Kit.{ap, ◌∙◌, arith, rules}
use Rattle.fips197.specs.Words.{bytes_of}
use Rattle.fips197.proofs.WordLaws.{packed, bytes_packed}
use Rattle.fips197.proofs.words.from_bytes.Goals as goal

pub returns : goal.returns
returns c =
    let d = c.args in
    let e : c.from_le_bytes.result ≡ packed d.a d.b d.c d.d = c.from_le_bytes.ensures ∙ omega arith in
    ap bytes_of e ∙ bytes_packed d.a d.b d.c d.d (search rules) (search rules) (search rules) (search rules)
