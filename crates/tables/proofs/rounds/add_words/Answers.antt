-- A column at a time (Joining).
use Rattle.std.specs.Prelude.{◌+◌, ◌*◌}
use Rattle.fips197.proofs.Kit.{arith}
use Rattle.tables.proofs.Joining.{keyed_words}
use Rattle.tables.proofs.rounds.add_words.Goals as goal

pub returns : goal.returns
returns c =
    let d = c in
    let s = d.args.s in
    let i = 4 * d.args.n in
    λ w e. keyed_words s.a s.b s.c s.d _ _ _ _
    (e.entry i (omega arith)) (e.entry (i + 1) (omega arith)) (e.entry (i + 2) (omega arith)) (e.entry (i + 3) (omega arith))
