-- Each byte of the word goes through the table.
use Rattle.fips197.specs.Aes.{sbox, sub_word}
use Rattle.fips197.specs.Words.{bytes_of}
use Rattle.fips197.proofs.schedule.SboxSubWord.sub_word.Goals as goal

pub returns : goal.returns
unfolding sub_word bytes_of
returns c = c.gather.ensures sbox c.args.self.now.tabulates
