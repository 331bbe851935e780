-- A column at a time (WordLaws).
use Rattle.fips197.proofs.WordLaws.{added_columns}
use Rattle.fips197.proofs.columns.add.Goals as goal

pub returns : goal.returns
returns c = added_columns _ _ _ _ _ _ _ _
