-- The lines of the four sizes: one more behind the others, those of the patterns in use, and that they fit 256 bytes.
use Rattle.std.specs.Prelude.{◌≡◌, ◌++◌, ◌+◌, ◌-◌, ◌≤◌}
use Rattle.fips197.proofs.Kit.{refl, ap, ap₂, ◌∙◌, Bool, true, List, ℕ, zero, suc, arith, leb, length, length-append, drop, leb-true}
use Rattle.incidence.proofs.Counting.{every, every_at}
use Rattle.plane.specs.Table.{pattern_lists, plane_pattern}
use Rattle.printing.specs.Text.{ascii, digits, decimal, labelled}
use Rattle.derivation.specs.Derived.{derived}
use Rattle.derivation.specs.Lines.{words, pattern_line, pattern_lines}
use Rattle.derivation.proofs.Planes.{derived_in_use}

pub lines_more : (s : ℕ) → 1 ≤ s → pattern_lines derived (s - 1) ++ pattern_line s (derived s) ≡ pattern_lines derived (s + 1 - 1)
unfolding pattern_lines
lines_more zero l = absurd (omega arith)
lines_more (suc n) l =
    let a : suc n - 1 ≡ n = omega arith in
    let b : suc n ≡ suc n + 1 - 1 = omega arith in
    ap (λ (k : ℕ). pattern_lines derived k ++ pattern_line (suc n) (derived (suc n))) a ∙ ap (pattern_lines derived) b

lines_in_use : (n : ℕ) → n ≤ 4 → pattern_lines derived n ≡ pattern_lines plane_pattern n
unfolding pattern_lines
lines_in_use zero h = refl
lines_in_use (suc n) h =
    ap₂ (λ (l P : List ℕ). l ++ pattern_line (suc n) P) (lines_in_use n (omega arith)) (derived_in_use (suc n) (omega arith) h)

fit_test : ℕ → Bool
fit_test n = leb (length (pattern_lines plane_pattern n)) 256

fits : every fit_test 5 ≡ true
unfolding fit_test pattern_lines pattern_line words labelled ascii decimal digits plane_pattern pattern_lists
fits = refl

lines_fit : (n : ℕ) → n ≤ 4 → length (pattern_lines derived n) ≤ 256
unfolding fit_test
lines_fit n h = omega (arith, ap length (lines_in_use n h), leb-true (length (pattern_lines plane_pattern n)) 256 (every_at fit_test 5 fits n (omega arith)))

-- one line more, and room for it
pub lines_next : (s : ℕ) (l l' : List ℕ) → 1 ≤ s → l ≡ pattern_lines derived (s - 1) → l' ≡ l ++ pattern_line s (derived s)
    → l' ≡ pattern_lines derived (s + 1 - 1)
lines_next s l l' h e f = f ∙ ap (λ (x : List ℕ). x ++ pattern_line s (derived s)) e ∙ lines_more s h

pub lines_room : (s : ℕ) (l : List ℕ) → 1 ≤ s → s ≤ 4 → l ≡ pattern_lines derived (s - 1) → length l + length (pattern_line s (derived s)) ≤ 256
lines_room s l h u e =
    let f : length (pattern_lines derived (s + 1 - 1)) ≤ 256 = lines_fit (s + 1 - 1) (omega arith) in
    omega (arith, ap length (lines_more s h), length-append (pattern_lines derived (s - 1)) (pattern_line s (derived s)), ap length e)

pub all_in_use : (out out' : List ℕ) → out' ≡ pattern_lines derived 4 ++ drop (length (pattern_lines derived 4)) out
    → out' ≡ pattern_lines plane_pattern 4 ++ drop (length (pattern_lines plane_pattern 4)) out
all_in_use out out' e = e ∙ ap (λ (l : List ℕ). l ++ drop (length l) out) (lines_in_use 4 (omega arith))
