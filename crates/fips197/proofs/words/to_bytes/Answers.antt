-- The definition.
use Rattle.fips197.specs.Words.{bytes_of}
use Rattle.fips197.proofs.words.to_bytes.Goals as goal

pub returns : goal.returns
unfolding bytes_of
returns c = c.to_le_bytes.ensures
