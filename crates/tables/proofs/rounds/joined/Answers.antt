-- Four words of the tables, two of them turned (Joining).
use Rattle.tables.proofs.Joining.{joined_bytes}
use Rattle.tables.proofs.rounds.joined.Goals as goal

pub returns : goal.returns
returns c =
    let d = c.args in
    λ f e. joined_bytes d.t.now f e d.a d.b d.c d.d _ c.turn_twice.ensures
