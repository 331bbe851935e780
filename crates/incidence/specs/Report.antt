-- Document 01, Report, over any family and any test `agrees` of its rows (000, section 3.1: naïve decoding). n is the number of items of
-- the message. Assumes nothing.
use Rattle.std.specs.Prelude.{Bool, not, ◌&&◌, ℕ, eqb, leb, if◌then◌else◌}
use Prim.Native.String.{String}
use Rattle.incidence.specs.Count.{count_up_to, any_up_to}
use Rattle.incidence.specs.Family.{Family, holds_one}
use Rattle.incidence.specs.declared.Answer.{Answer}
use Rattle.incidence.specs.declared.Answer.TheVariants.{Intact, Named, Beyond}

-- "Every row whose sum from the shelf equals its sum from the sheet clears its cards": one of the first i rows agrees and holds item j.
-- Document 02, 2.4, of the first i rows: "the cards cleared are exactly those on an agreeing row among them".
unfoldable pub cleared : Family → (ℕ → Bool) → ℕ → ℕ → Bool
cleared F agrees i j = any_up_to (λ r. agrees r && F.on r j) i

-- "cards not cleared are named", by all the rows
unfoldable pub named : Family → (ℕ → Bool) → ℕ → Bool
named F agrees j = not (cleared F agrees F.rows j)

-- how many of the items are named
unfoldable pub number_named : Family → (ℕ → Bool) → ℕ → ℕ
number_named F agrees n = count_up_to (named F agrees) n

-- how many of the first i rows disagree. Document 02, 2.4: "the number counted is that of the disagreeing rows among them".
unfoldable pub disagreeing : (ℕ → Bool) → ℕ → ℕ
disagreeing agrees i = count_up_to (λ r. not (agrees r)) i

-- whether one of the first i rows is unexplained: it disagrees and holds no named item
unfoldable pub some_unexplained : Family → (ℕ → Bool) → ℕ → ℕ → Bool
some_unexplained F agrees n i = any_up_to (λ r. not (agrees r) && not (holds_one F (named F agrees) n r)) i

-- ---- the answers

-- what an answer stands for: its number, counted from 0 in document 01's order, its word as printed, and what it says of the limit d, the
-- number of rows that disagree, the number of items named, and whether a row is unexplained
pub record Meaning : Type 0 where
  pub ordinal : ℕ
  pub word : String
  pub says : ℕ → ℕ → ℕ → Bool → Bool

-- "Intact": no row disagrees. "Named": some row disagrees, 1 to d cards are named, and every disagreeing row holds a named card.
-- "Beyond": all else.
abbrev pub meaning : Answer → Meaning
meaning Intact = record { ordinal = 0; word = "intact"; says = λ d rows names unexplained. eqb rows 0 }
meaning Named = record {
  ordinal = 1;
  word = "named";
  says = λ d rows names unexplained. not (eqb rows 0) && ((leb 1 names && leb names d) && not unexplained);
}
meaning Beyond = record {
  ordinal = 2;
  word = "beyond";
  says = λ d rows names unexplained. not (eqb rows 0) && not ((leb 1 names && leb names d) && not unexplained);
}

-- the one of the three that says so
unfoldable pub answer_by : ℕ → ℕ → ℕ → Bool → Answer
answer_by d rows names unexplained =
    if (meaning Intact).says d rows names unexplained then Intact else
    (if (meaning Named).says d rows names unexplained then Named else Beyond)

unfoldable pub answer : Family → (ℕ → Bool) → ℕ → Answer
answer F agrees n =
    answer_by F.limit (disagreeing agrees F.rows) (number_named F agrees n) (some_unexplained F agrees n F.rows)
