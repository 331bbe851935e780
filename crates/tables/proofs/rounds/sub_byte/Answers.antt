-- The S-box is read off the tables (Joining).
use Rattle.fips197.proofs.Kit.{arith}
use Rattle.tables.proofs.Joining.{read_sbox}
use Rattle.tables.proofs.rounds.sub_byte.Goals as goal

pub returns : goal.returns
returns c = read_sbox _ c.args.t.now.entries _ (omega arith)
