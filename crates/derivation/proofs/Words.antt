-- The words of a pattern: one step more, and the room that fewer take.
use Rattle.std.specs.Prelude.{◌≡◌, ◌∷◌, ◌++◌, ◌+◌, ◌≤◌, ◌<◌}
use Rattle.fips197.proofs.Kit.{refl, sym, ap, ap₂, ◌∙◌, List, [], append-nil, append_assoc, ℕ, zero, suc, arith, add-one, length, get_or, take, drop, length-append, take_at, take_all, take-length}
use Rattle.printing.specs.Text.{labelled}
use Rattle.printing.proofs.Behind.{two}
use Rattle.derivation.specs.Lines.{words}
use Rattle.derivation.specs.Derived.{derived}

pub words-next : (P : List ℕ) (i : ℕ) → i < length P → words (take (i + 1) P) ≡ words (take i P) ++ labelled " " (get_or P i 0)
unfolding words
words-next P i h = ap (λ (n : ℕ). words (take n P)) (add-one i) ∙ more P i h
  where
    more : (P : List ℕ) (i : ℕ) → i < length P → words (take (suc i) P) ≡ words (take i P) ++ labelled " " (get_or P i 0)
    more [] i h = absurd (omega arith)
    more (k ∷ P) zero h = append-nil (labelled " " k)
    more (k ∷ P) (suc i) h =
        ap (λ (l : List ℕ). labelled " " k ++ l) (more P i (omega arith)) ∙ sym (append_assoc (labelled " " k) (words (take i P)) _)

-- fewer steps take no more room
pub words_fewer : (P : List ℕ) (i n : ℕ) → i ≤ n → length (words (take i P)) ≤ length (words (take n P))
unfolding words
words_fewer [] zero n h = omega arith
words_fewer [] (suc i) n h = omega arith
words_fewer (k ∷ P) zero n h = omega arith
words_fewer (k ∷ P) (suc i) zero h = absurd (omega arith)
words_fewer (k ∷ P) (suc i) (suc n) h =
    omega (arith, length-append (labelled " " k) (words (take i P)), length-append (labelled " " k) (words (take n P)), words_fewer P i n (omega arith))

-- the step behind the first i is put, where there is room for all
module _ (i : ℕ) (P s s₁ : List ℕ) (e : s₁ ≡ s ++ words (take i P)) where
  pub words_put : (s₂ : List ℕ) → i < length P → s₂ ≡ s₁ ++ labelled " " (get_or P i 0) → s₂ ≡ s ++ words (take (i + 1) P)
  words_put s₂ h f = two s (words (take i P)) (labelled " " (get_or P i 0)) e f ∙ ap (λ (l : List ℕ). s ++ l) (sym (words-next P i h))

  pub words_all : length P ≤ i → s₁ ≡ s ++ words P
  words_all h = e ∙ ap (λ (l : List ℕ). s ++ words l) (take_all i P h)

pub words_room : (room i : ℕ) (P s s₁ : List ℕ) → i < length P → length s + length (words P) ≤ room → s₁ ≡ s ++ words (take i P)
    → length s₁ + length (labelled " " (get_or P i 0)) ≤ room
words_room room i P s s₁ h fits e =
    let f = words_fewer P (i + 1) (length P) (omega arith) in
    omega (
      arith,
      ap length (words-next P i h),
      length-append (words (take i P)) (labelled " " (get_or P i 0)),
      ap length e,
      length-append s (words (take i P)),
      ap (λ (l : List ℕ). length (words l)) (take-length P),
      f,
    )

-- ---- the steps of a pattern at the front of an array

module _ (s n : ℕ) (l o : List ℕ) (e : l ≡ derived s ++ drop (length (derived s)) o) (f : n ≡ length (derived s)) where
  pub words-front : words (take n l) ≡ words (derived s)
  words-front = ap words (ap₂ take f e ∙ take_at (derived s) (drop (length (derived s)) o) (length (derived s)) refl)
