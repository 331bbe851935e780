-- What the tables hold adds up to the mixed column (Joining).
use Rattle.std.specs.Prelude.{◌/◌, ◌%◌}
use Rattle.fips197.proofs.Kit.{◌∙◌}
use Rattle.fips197.specs.Aes.{inv_sbox}
use Rattle.tables.specs.RoundTables.{inv_round_entry}
use Rattle.tables.proofs.Joining.{inv_spread_sum}
use Rattle.tables.proofs.rounds.inv_mixed_column.Goals as goal

pub returns : goal.returns
unfolding inv_round_entry
returns c =
    let d = c.args in
    c.joined.ensures inv_round_entry d.t.now.entries
    ∙ inv_spread_sum (inv_sbox (d.a % 256)) (inv_sbox (d.b / 256 % 256)) (inv_sbox (d.c / 65536 % 256)) (inv_sbox (d.d / 16777216 % 256))
