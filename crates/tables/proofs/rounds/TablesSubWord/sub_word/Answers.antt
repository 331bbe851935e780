-- Each byte of the word is read off the tables.
use Rattle.fips197.specs.Aes.{sub_word}
use Rattle.fips197.specs.Words.{bytes_of}
use Rattle.tables.proofs.rounds.TablesSubWord.sub_word.Goals as goal

pub returns : goal.returns
unfolding sub_word bytes_of
returns c = c.gather.ensures
