-- Texts put one behind another: there is room for each, and they are put as one.
use Rattle.std.specs.Prelude.{◌≡◌, ◌++◌, ◌+◌, ◌≤◌}
use Rattle.fips197.proofs.Kit.{sym, ◌∙◌, ap, List, [], append-nil, append_assoc, ℕ, arith, length, length-append}

-- a text of at most so many bytes
pub room_for : (s text : List ℕ) (room most : ℕ) → length text ≤ most → length s + most ≤ room → length s + length text ≤ room
room_for s text room most h l = omega arith

pub short_by : (s text s' : List ℕ) (most : ℕ) → length text ≤ most → s' ≡ s ++ text → length s' ≤ length s + most
short_by s text s' most h e = omega (arith, ap length e, length-append s text)

pub room_as : (s t u : List ℕ) (room : ℕ) → t ≡ u → length s + length u ≤ room → length s + length t ≤ room
room_as s t u room e h = omega (arith, ap length e, h)

-- no text, and a text that is named otherwise
pub put_none : (s : List ℕ) → s ≡ s ++ []
put_none s = sym (append-nil s)

pub put_as : (s t u s' : List ℕ) → t ≡ u → s' ≡ s ++ t → s' ≡ s ++ u
put_as s t u s' e p = p ∙ ap (λ (x : List ℕ). s ++ x) e

-- two texts
module _ (room : ℕ) (s a b : List ℕ) (fits : length s + length (a ++ b) ≤ room) where
  pub two₁ : length s + length a ≤ room
  two₁ = omega (arith, length-append a b)

  pub two₂ : {s₁ : List ℕ} → s₁ ≡ s ++ a → length s₁ + length b ≤ room
  two₂ p = omega (arith, length-append a b, ap length p, length-append s a)

pub two : (s a b : List ℕ) {s₁ s₂ : List ℕ} → s₁ ≡ s ++ a → s₂ ≡ s₁ ++ b → s₂ ≡ s ++ (a ++ b)
two s a b p q = q ∙ ap (λ (x : List ℕ). x ++ b) p ∙ append_assoc s a b

-- three
module _ (room : ℕ) (s a b d : List ℕ) (fits : length s + length (a ++ b ++ d) ≤ room) where
  pub three₁ : length s + length a ≤ room
  three₁ = two₁ room s a b (two₁ room s (a ++ b) d fits)

  pub three₂ : {s₁ : List ℕ} → s₁ ≡ s ++ a → length s₁ + length b ≤ room
  three₂ p = two₂ room s a b (two₁ room s (a ++ b) d fits) p

  pub three₃ : {s₁ s₂ : List ℕ} → s₁ ≡ s ++ a → s₂ ≡ s₁ ++ b → length s₂ + length d ≤ room
  three₃ p q = two₂ room s (a ++ b) d fits (two s a b p q)

pub three : (s a b d : List ℕ) {s₁ s₂ s₃ : List ℕ} → s₁ ≡ s ++ a → s₂ ≡ s₁ ++ b → s₃ ≡ s₂ ++ d → s₃ ≡ s ++ (a ++ b ++ d)
three s a b d p q v = two s (a ++ b) d (two s a b p q) v

-- four
module _ (room : ℕ) (s a b d e : List ℕ) (fits : length s + length (a ++ b ++ d ++ e) ≤ room) where
  fits₃ : length s + length (a ++ b ++ d) ≤ room
  fits₃ = two₁ room s (a ++ b ++ d) e fits

  pub four₁ : length s + length a ≤ room
  four₁ = three₁ room s a b d fits₃

  pub four₂ : {s₁ : List ℕ} → s₁ ≡ s ++ a → length s₁ + length b ≤ room
  four₂ p = three₂ room s a b d fits₃ p

  pub four₃ : {s₁ s₂ : List ℕ} → s₁ ≡ s ++ a → s₂ ≡ s₁ ++ b → length s₂ + length d ≤ room
  four₃ p q = three₃ room s a b d fits₃ p q

  pub four₄ : {s₁ s₂ s₃ : List ℕ} → s₁ ≡ s ++ a → s₂ ≡ s₁ ++ b → s₃ ≡ s₂ ++ d → length s₃ + length e ≤ room
  four₄ p q v = two₂ room s (a ++ b ++ d) e fits (three s a b d p q v)

pub four : (s a b d e : List ℕ) {s₁ s₂ s₃ s₄ : List ℕ} → s₁ ≡ s ++ a → s₂ ≡ s₁ ++ b → s₃ ≡ s₂ ++ d → s₄ ≡ s₃ ++ e → s₄ ≡ s ++ (a ++ b ++ d ++ e)
four s a b d e p q v w = two s (a ++ b ++ d) e (three s a b d p q v) w
