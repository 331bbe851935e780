-- Steps back that yield a row, that no shorter and no fewer ones do, and rows that are independent (document 02, 2.6; 000, section 6.4). A matrix
-- has m rows and m cards, numbered from 1, and row i holds card j where `on i j`. Assumes nothing.
use Rattle.std.specs.Prelude.{◌≡◌, Bool, false, List, [], ◌∷◌, map, ℕ, ◌-◌, ◌≤◌, ◌<◌, length}
use Rattle.incidence.specs.Count.{listed}
use Rattle.incidence.specs.Family.{parity}

-- each step is from 1 to t rows back
abbrev pub Within : ℕ → List ℕ → Type 0
Within t [] = Unit {0}
Within t (k ∷ Q) = (1 ≤ k) × (k ≤ t) × Within t Q

-- whether the XOR of the rows that stand the steps Q back from row i holds card j: whether an odd number of them do
unfoldable pub xor_back : (ℕ → ℕ → Bool) → List ℕ → ℕ → ℕ → Bool
xor_back on Q i j = parity (λ a. on a j) (map (λ k. i - k) Q)

module _ (m : ℕ) (on : ℕ → ℕ → Bool) where
  -- the steps Q yield row i: at every card it is that XOR
  abbrev pub Yields : List ℕ → ℕ → Type 0
  Yields Q i = (j : ℕ) → 1 ≤ j → j ≤ m → on i j ≡ xor_back on Q i j

  -- the steps Q fail at row i: there is a card at which it is not
  pub record Fails (Q : List ℕ) (i : ℕ) : Type 0 where
    pub card : ℕ
    pub low : 1 ≤ card
    pub high : card ≤ m
    pub differs : on i card ≡ xor_back on Q i card → ⊥

  -- the pattern Q, of steps within t, yields every row behind the first t
  pub record Pattern (t : ℕ) (Q : List ℕ) : Type 0 where
    pub within : Within t Q
    pub yields : (i : ℕ) → t < i → i ≤ m → Yields Q i

  -- one of those rows at which Q fails
  pub record FailsBehind (t : ℕ) (Q : List ℕ) : Type 0 where
    pub row : ℕ
    pub low : t < row
    pub high : row ≤ m
    pub fails : Fails Q row

  -- "no shorter pattern yields all rows": shorter than t
  abbrev pub NoShorterPattern : ℕ → Type 0
  NoShorterPattern t = (t' : ℕ) → t' < t → (Q : List ℕ) → Within t' Q → FailsBehind t' Q

  -- and more: it yields none of them
  abbrev pub NoShorterRow : ℕ → Type 0
  NoShorterRow t = (t' : ℕ) → t' < t → (Q : List ℕ) → Within t' Q → (i : ℕ) → t' < i → i ≤ m → Fails Q i

  -- within t there is no other pattern: whichever of the steps 1 to t are chosen, if they are a pattern, they are P
  abbrev pub OnlyPattern : ℕ → List ℕ → Type 0
  OnlyPattern t P = (chosen : ℕ → Bool) → Pattern t (listed chosen t) → listed chosen t ≡ P

  -- and none that XORs fewer rows, a row that is XORed twice being counted twice
  abbrev pub FewestSteps : ℕ → List ℕ → Type 0
  FewestSteps t P = (Q : List ℕ) → Pattern t Q → length P ≤ length Q

  -- the first t rows are independent: where the XOR of chosen ones holds no card, none is chosen
  abbrev pub Independent : ℕ → Type 0
  Independent t =
      (chosen : ℕ → Bool) → ((j : ℕ) → 1 ≤ j → j ≤ m → parity (λ a. on a j) (listed chosen t) ≡ false)
      → (i : ℕ) → 1 ≤ i → i ≤ t → chosen i ≡ false
