-- A column at a time (WordLaws).
use Rattle.fips197.proofs.Kit.{rules}
use Rattle.fips197.proofs.WordLaws.{shifted_columns}
use Rattle.fips197.proofs.columns.shift.Goals as goal

pub returns : goal.returns
returns c =
    let s = c.args.s in
    let e = c.around.ensures in
    λ f h. shifted_columns f s.a s.b s.c s.d _ _ _ _ (search rules) (search rules) (search rules) (search rules)
