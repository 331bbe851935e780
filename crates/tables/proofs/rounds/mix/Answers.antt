-- A column at a time (Joining).
use Rattle.fips197.proofs.Kit.{rules}
use Rattle.fips197.specs.Aes.{sbox, mixed, mix_columns, sub_bytes}
use Rattle.tables.proofs.Joining.{mixed_shifted}
use Rattle.tables.proofs.rounds.mix.Goals as goal

pub returns : goal.returns
unfolding mix_columns sub_bytes
returns c =
    let s = c.args.s in
    let e = c.around.ensures in
    mixed_shifted sbox mixed s.a s.b s.c s.d _ _ _ _ (search rules) (search rules) (search rules) (search rules)
