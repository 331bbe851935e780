-- The steps, one after the other.
use Rattle.fips197.proofs.Kit.{ap, ◌∙◌, List, ℕ}
use Rattle.fips197.specs.Block.{◌⊕◌}
use Rattle.fips197.specs.Aes.{inv_sbox, inv_sub_bytes, inv_mix_columns, round_key}
use Rattle.plain.proofs.rounds.inv_round.Goals as goal

pub returns : goal.returns
unfolding inv_sub_bytes
returns c =
    let d = c in
    c.inv_mix_columns.ensures
    ∙ ap inv_mix_columns (c.add_round_key.ensures
    ∙ ap (λ (s : List ℕ). s ⊕ round_key d.args.w.now d.args.n) (c.inv_shift.ensures inv_sbox d.args.t.now.tabulates))
