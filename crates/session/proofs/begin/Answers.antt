-- The new session where nothing refuses, else the closed one (Stepping).
use Rattle.fips197.proofs.Kit.{refl, ◌∙◌, arith}
use Rattle.session.specs.Session.{begin_gives}
use Rattle.files.proofs.Passing.{given_told, kept_told}
use Rattle.session.proofs.Stepping.{begin_tells, begun_is}
use Rattle.session.proofs.begin.Goals as goal

pub keys_in-requires : goal.keys_in-requires
keys_in-requires c = omega (arith, (begin_tells _ _ _ _ c.in-Ok.ensures refl).long)

pub returns-in-Ok : goal.returns-in-Ok
unfolding begin_gives
returns-in-Ok c = record {
  refused = c.in-Ok.ensures;
  session = begun_is c.args.keys.now c.args.code c.args.n c.args.number _ c.keys_in.ensures ∙ given_told _ _ _ c.in-Ok.ensures;
}

pub returns-in-Err : goal.returns-in-Err
unfolding begin_gives
returns-in-Err c = record { refused = c.in-Err.ensures; session = c.closed.ensures ∙ kept_told _ _ _ _ c.in-Err.ensures }
