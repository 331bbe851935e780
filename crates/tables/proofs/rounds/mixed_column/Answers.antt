-- What the tables hold adds up to the mixed column (Joining).
use Rattle.std.specs.Prelude.{◌/◌, ◌%◌}
use Rattle.fips197.proofs.Kit.{◌∙◌}
use Rattle.fips197.specs.Aes.{sbox}
use Rattle.tables.specs.RoundTables.{round_entry}
use Rattle.tables.proofs.Joining.{spread_sum}
use Rattle.tables.proofs.rounds.mixed_column.Goals as goal

pub returns : goal.returns
unfolding round_entry
returns c =
    let d = c.args in
    c.joined.ensures round_entry d.t.now.entries
    ∙ spread_sum (sbox (d.a % 256)) (sbox (d.b / 256 % 256)) (sbox (d.c / 65536 % 256)) (sbox (d.d / 16777216 % 256))
