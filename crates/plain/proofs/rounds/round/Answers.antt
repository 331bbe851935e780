-- The steps, one after the other.
use Rattle.fips197.proofs.Kit.{ap, ◌∙◌, List, ℕ}
use Rattle.fips197.specs.Block.{◌⊕◌}
use Rattle.fips197.specs.Aes.{sbox, sub_bytes, mix_columns, round_key}
use Rattle.plain.proofs.rounds.round.Goals as goal

pub returns : goal.returns
unfolding sub_bytes
returns c =
    let d = c in
    c.add_round_key.ensures
    ∙ ap (λ (s : List ℕ). s ⊕ round_key d.args.w.now d.args.n)
    (c.mix_columns.ensures ∙ ap mix_columns (c.shift.ensures sbox d.args.t.now.tabulates))
