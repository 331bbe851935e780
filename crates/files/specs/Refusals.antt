-- Refusals (document 01, 'From the input' and 'From the state'): a number and a place, and the first that applies. Assumes nothing.
use Rattle.std.specs.Prelude.{Bool, List, [], ◌∷◌, ℕ, Result, Ok, Err, eqb, if◌then◌else◌}
use Rattle.files.specs.declared.refusals.Reason.{Reason}
use Rattle.files.specs.declared.refusals.Reason.TheVariants.{Keys, Code, Message, Count, Items, TagFile, Room, Number, Item, Mac, Counts, Full, Early, Shut, Numbers}
use Rattle.files.specs.declared.refusals.Refused.{Refused}

pub record Refusal : Type 0 where
  pub number : ℕ
  pub place : ℕ

-- refusal n at place p; "a place, 0 unless named"
abbrev pub refusal : ℕ → ℕ → Refusal
refusal n p = record { number = n; place = p }

-- no refusal: number 0
abbrev pub none : Refusal
none = refusal 0 0

-- none where the test holds, else refusal n at place p
abbrev pub unless : Bool → ℕ → ℕ → Refusal
unless t n p = if t then none else refusal n p

-- whether it is none
abbrev pub passes : Refusal → Bool
passes r = eqb r.number 0

-- "the first that applies is returned"
unfoldable pub first : List Refusal → Refusal
first [] = none
first (r ∷ rest) = if passes r then first rest else r

-- ---- what a result of the code tells

-- the number of each reason
abbrev pub number_of : Reason → ℕ
number_of Keys = 1
number_of Code = 2
number_of Message = 3
number_of Count = 4
number_of Items = 5
number_of TagFile = 6
number_of Room = 7
number_of Number = 8
number_of Item = 9
number_of Mac = 20
number_of Counts = 21
number_of Full = 22
number_of Early = 23
number_of Shut = 24
number_of Numbers = 25

-- an error is a refusal, and all else is none
abbrev pub told : {A : Type 0} → Result A Refused → Refusal
told (Ok _) = none
told (Err r) = refusal (number_of r.reason) r.place
