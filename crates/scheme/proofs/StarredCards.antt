-- The starred bench cards, all of them.
use Rattle.cipher.proofs.BenchCards.{sbox_of_53, doubled-80}
use Rattle.sizes.proofs.Bench.{planes}
use Rattle.scheme.specs.Starred.{Starred}

pub starred : Starred
starred = record { planes = planes; sbox_of_53 = sbox_of_53; doubled-80 = doubled-80 }
