-- A column at a time (Joining).
use Rattle.fips197.proofs.Kit.{rules}
use Rattle.fips197.specs.Aes.{inv_sbox, inv_mixed, inv_mix_columns, inv_sub_bytes}
use Rattle.tables.proofs.Joining.{mixed_unshifted}
use Rattle.tables.proofs.rounds.inv_mix.Goals as goal

pub returns : goal.returns
unfolding inv_mix_columns inv_sub_bytes
returns c =
    let s = c.args.s in
    let e = c.around.ensures in
    mixed_unshifted inv_sbox inv_mixed s.a s.b s.c s.d _ _ _ _ (search rules) (search rules) (search rules) (search rules)
