-- A column at a time (WordLaws).
use Rattle.fips197.proofs.Kit.{rules}
use Rattle.fips197.proofs.WordLaws.{mixed_columns}
use Rattle.fips197.specs.Aes.{mixed, mix_columns}
use Rattle.plain.proofs.rounds.mix_columns.Goals as goal

pub returns : goal.returns
unfolding mix_columns
returns c =
    let s = c.args.s in
    let e = c.each.ensures in
    mixed_columns mixed s.a s.b s.c s.d _ _ _ _ (search rules) (search rules) (search rules) (search rules)
