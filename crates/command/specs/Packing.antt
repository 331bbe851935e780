-- What `pack` says of one card, over Append of the crate packing. Assumes nothing.
use Rattle.std.specs.Prelude.{List, ℕ, ◌+◌, eqb, length, if◌then◌else◌}
use Rattle.files.specs.Refusals.{Refusal}
use Rattle.files.specs.Refusals.{refusal, passes}
use Rattle.packing.specs.Packing.{append_refusal}

-- a refusal of Append as that of card file k: the room lent is that of the longest message, so 7 is 3
unfoldable pub placed : Refusal → ℕ → Refusal
placed r k = if passes r then r else refusal (if eqb r.number 7 then 3 else r.number) k

-- how many bytes the message has with the card behind its n, 0 where it is refused
unfoldable pub size_with : List ℕ → ℕ → List ℕ → ℕ
size_with file n card = if passes (append_refusal file n card) then n + 2 + length card else 0
