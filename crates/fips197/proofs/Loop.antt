-- One law for every loop that writes an array from the front: where it is to become t, after i turns the array l is `part i t l`.
-- A loop's invariant is that equation; a turn is `part_turn`, what is not yet written is `part_read`, and the end is `part_done`.
use Rattle.std.specs.Prelude.{◌≡◌, ◌∷◌, ◌++◌, ◌+◌, ◌≤◌, ◌<◌}
use Rattle.fips197.proofs.Kit.{refl, sym, ap, ◌∙◌, List, [], append_assoc, ℕ, zero, suc, zero-le, not-suc-le-zero, le_of_suc-le-suc, add-one, length, get_or, set, take, drop, length-append, length-take, length-drop, take_at, take-append-drop, drop_of_length-le, drop-nil, get_or-append-add, List·getD-append, arith}

abbrev pub part : ℕ → List ℕ → List ℕ → List ℕ
part i t l = take i t ++ drop i l

part_suc : (i : ℕ) (t l : List ℕ) → i < length l → i < length t → set (part i t l) i (get_or t i 0) ≡ part (suc i) t l
part_suc i t [] h k = absurd (not-suc-le-zero h)
part_suc i [] (x ∷ l) h k = absurd (not-suc-le-zero k)
part_suc zero (y ∷ t) (x ∷ l) h k = refl
part_suc (suc i) (y ∷ t) (x ∷ l) h k = ap (λ (z : List ℕ). y ∷ z) (part_suc i t l (le_of_suc-le-suc h) (le_of_suc-le-suc k))

-- a turn stores t's element
pub part_more : (i : ℕ) (t l : List ℕ) (v : ℕ) → i < length l → i < length t → v ≡ get_or t i 0 → set (part i t l) i v ≡ part (i + 1) t l
part_more i t l v h k e = ap (set (part i t l) i) e ∙ part_suc i t l h k ∙ ap (λ (n : ℕ). part n t l) (sym (add-one i))

-- what has not been reached is l's
pub part_at : (i : ℕ) (t l : List ℕ) → i < length t → get_or (part i t l) i 0 ≡ get_or l i 0
part_at i [] l k = absurd (not-suc-le-zero k)
part_at zero (y ∷ t) [] k = refl
part_at zero (y ∷ t) (x ∷ l) k = refl
part_at (suc i) (y ∷ t) [] k = ap (λ (z : List ℕ). get_or (take i t ++ z) i 0) (sym (drop-nil i)) ∙ part_at i t [] (le_of_suc-le-suc k)
part_at (suc i) (y ∷ t) (x ∷ l) k = part_at i t l (le_of_suc-le-suc k)

-- at the end it is t
pub part_all : (i : ℕ) (t l : List ℕ) → length t ≤ i → length l ≤ i → part i t l ≡ t
part_all zero [] [] h k = refl
part_all zero [] (x ∷ l) h k = absurd (not-suc-le-zero k)
part_all zero (y ∷ t) l h k = absurd (not-suc-le-zero h)
part_all (suc i) [] [] h k = refl
part_all (suc i) [] (x ∷ l) h k = drop_of_length-le l (le_of_suc-le-suc k)
part_all (suc i) (y ∷ t) [] h k = ap (λ (z : List ℕ). y ∷ z) (ap (λ (z : List ℕ). take i t ++ z) (sym (drop-nil i)) ∙ part_all i t [] (le_of_suc-le-suc h) zero-le)
part_all (suc i) (y ∷ t) (x ∷ l) h k = ap (λ (z : List ℕ). y ∷ z) (part_all i t l (le_of_suc-le-suc h) (le_of_suc-le-suc k))

pub part_turn : (i : ℕ) (t l s : List ℕ) (v : ℕ) → s ≡ part i t l → i < length l → i < length t → v ≡ get_or t i 0 → set s i v ≡ part (i + 1) t l
part_turn i t l s v p h k e = ap (λ (z : List ℕ). set z i v) p ∙ part_more i t l v h k e

pub part_read : (i : ℕ) (t l s : List ℕ) → s ≡ part i t l → i < length t → get_or s i 0 ≡ get_or l i 0
part_read i t l s p k = ap (λ (z : List ℕ). get_or z i 0) p ∙ part_at i t l k

pub part_done : (n : ℕ) (i : ℕ) (t l s : List ℕ) → s ≡ part i t l → n ≤ i → length t ≡ n → length l ≡ n → s ≡ t
part_done n i t l s p h e k = p ∙ part_all i t l (omega arith) (omega arith)

-- ---- a loop that writes b at a place of w, from where it stands on

module _ (w b : List ℕ) (at n : ℕ) (room : at + n ≤ length w) (long : length b ≡ n) where
  abbrev pub placed : List ℕ
  placed = take at w ++ (b ++ drop (at + n) w)

  front_long : length (take at w) ≡ at
  front_long = simp length-take (omega arith)

  pub placed-long : length placed ≡ length w
  placed-long = length-append (take at w) (b ++ drop (at + n) w) ∙ simp (length-append, length-take, length-drop) (omega arith)

  pub place-first : w ≡ part at placed w
  place-first = sym (take-append-drop at w) ∙ ap (λ (l : List ℕ). l ++ drop at w) (sym (take_at (take at w) (b ++ drop (at + n) w) at front_long))

  pub place_turn : (i : ℕ) (s : List ℕ) (v : ℕ) → i < n → s ≡ part (at + i) placed w → v ≡ get_or b i 0 → set s (at + i) v ≡ part (at + (i + 1)) placed w
  place_turn i s v h p e =
      let z : at + i + 1 ≡ at + (i + 1) = omega arith in
      part_turn (at + i) placed w s v p (omega arith) (omega (arith, placed-long))
      (e ∙ sym (ap (λ (k : ℕ). get_or placed (k + i) 0) (sym front_long) ∙ get_or-append-add (take at w) (b ++ drop (at + n) w) i 0 ∙ List·getD-append b (drop (at + n) w) 0 i (omega arith)))
      ∙ ap (λ (k : ℕ). part k placed w) z

  pub place_done : (i : ℕ) (s : List ℕ) → i ≡ n → s ≡ part (at + i) placed w → s ≡ placed
  place_done i s e p =
      let z : length (take at w ++ b) ≡ at + n = length-append (take at w) b ∙ omega (arith, front_long) in
      p ∙ ap (λ (k : ℕ). part (at + k) placed w) e
      ∙ ap (λ (l : List ℕ). l ++ drop (at + n) w) (ap (take (at + n)) (sym (append_assoc (take at w) b (drop (at + n) w))) ∙ take_at (take at w ++ b) (drop (at + n) w) (at + n) z)
      ∙ append_assoc (take at w) b (drop (at + n) w)
