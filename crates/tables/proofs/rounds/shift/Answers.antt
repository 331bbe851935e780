-- A column at a time (WordLaws).
use Rattle.fips197.proofs.Kit.{rules}
use Rattle.fips197.specs.Aes.{sbox, sub_bytes}
use Rattle.fips197.proofs.WordLaws.{shifted_columns}
use Rattle.tables.proofs.rounds.shift.Goals as goal

pub returns : goal.returns
unfolding sub_bytes
returns c =
    let s = c.args.s in
    let e = c.around.ensures in
    shifted_columns sbox s.a s.b s.c s.d _ _ _ _ (search rules) (search rules) (search rules) (search rules)
