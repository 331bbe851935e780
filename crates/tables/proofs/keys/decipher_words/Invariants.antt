use Rattle.std.specs.Prelude.{◌≡◌, ◌<◌}
use Rattle.fips197.proofs.Kit.{ℕ, length, get_or}
use Rattle.fips197.specs.Words.{bytes_of}
use Rattle.tables.specs.RoundTables.{decipher_word}
use Rattle.tables.proofs.keys.decipher_words.Given as goal

abbrev pub invariant-loop-i : goal.invariant-loop-i
invariant-loop-i l = (length l.k ≡ 44) × ((j : ℕ) → j < l.i → bytes_of (get_or l.k j 0) ≡ decipher_word l.w j)
