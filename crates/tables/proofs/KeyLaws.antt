-- The words of the deciphering schedule: the loop that makes them, and the round keys that they are.
use Rattle.std.specs.Prelude.{◌≡◌, ◌++◌, ◌+◌, ◌*◌, ◌<◌, ◌≤◌}
use Rattle.fips197.proofs.Kit.{refl, sym, ap, ◌∙◌, List, ⊎_elim, ℕ, eq-or-lt_of_le, arith, length, get_or, set, get_or-set_same, get_or-set_other, le-leb, lt-leb}
use Rattle.fips197.specs.Block.{◌⊕◌}
use Rattle.fips197.specs.Aes.{word, round_key, inv_mixed, columnwise, inv_mix_columns, inv_sub_bytes, inv_shift_rows}
use Rattle.fips197.specs.Words.{bytes_of, column}
use Rattle.fips197.proofs.Schedules.{word_is, round_key-words, round_key-length}
use Rattle.tables.specs.RoundTables.{decipher_word}
use Rattle.tables.proofs.Joining.{inv_mix_columns-xor}

-- ---- the loop

-- one more word is written
pub words_more : (f : ℕ → List ℕ) (k : List ℕ) (i v : ℕ) → i < length k → ((j : ℕ) → j < i → bytes_of (get_or k j 0) ≡ f j) → bytes_of v ≡ f i
    → (j : ℕ) → j < i + 1 → bytes_of (get_or (set k i v) j 0) ≡ f j
words_more f k i v h e here j l =
    ⊎_elim
    (λ (p : j ≡ i). ap (λ (n : ℕ). bytes_of (get_or (set k i v) n 0)) p ∙ ap bytes_of (get_or-set_same k i v 0 h) ∙ here ∙ ap f (sym p))
    (λ (p : j < i). ap bytes_of (get_or-set_other k i j v 0 (λ (q : j ≡ i). omega arith)) ∙ e j p)
    (eq-or-lt_of_le (omega arith))

-- ---- a word of the deciphering schedule

pub decipher-inside : (w : List ℕ) (i : ℕ) → 4 ≤ i → i ≤ 39 → decipher_word w i ≡ column inv_mixed (word w i)
unfolding decipher_word
decipher-inside w i l h = rw (le-leb 4 i l, le-leb i 39 h) refl

pub decipher_below : (w : List ℕ) (i : ℕ) → i < 4 → decipher_word w i ≡ word w i
unfolding decipher_word
decipher_below w i h = rw (lt-leb 4 i h) refl

pub decipher-above : (w : List ℕ) (i : ℕ) → 39 < i → decipher_word w i ≡ word w i
unfolding decipher_word
decipher-above w i h = rw (le-leb 4 i (omega arith), lt-leb i 39 h) refl

-- ---- its round keys

-- the words of round n
abbrev pub round_words : (ℕ → List ℕ) → ℕ → List ℕ
round_words f n = f (4 * n) ++ f (4 * n + 1) ++ f (4 * n + 2) ++ f (4 * n + 3)

pub decipher-first : (w : List ℕ) → round_words (decipher_word w) 0 ≡ round_key w 0
decipher-first w =
    (λ i. decipher_below w 0 (omega arith) i ++ decipher_below w 1 (omega arith) i ++ decipher_below w 2 (omega arith) i ++ decipher_below w 3 (omega arith) i)
    ∙ sym (round_key-words w 0)

pub decipher-last : (w : List ℕ) → round_words (decipher_word w) 10 ≡ round_key w 10
decipher-last w =
    (λ i. decipher-above w 40 (omega arith) i ++ decipher-above w 41 (omega arith) i ++ decipher-above w 42 (omega arith) i ++ decipher-above w 43 (omega arith) i)
    ∙ sym (round_key-words w 10)

-- round 1 to 9's are the round key, mixed back
pub decipher-mixed : (w : List ℕ) (n : ℕ) → length w ≡ 176 → 0 < n → n ≤ 9 → round_words (decipher_word w) n ≡ inv_mix_columns (round_key w n)
unfolding inv_mix_columns columnwise column
decipher-mixed w n h l m =
    let w0 = word_is w (4 * n) (omega arith) in
    let w1 = word_is w (4 * n + 1) (omega arith) in
    let w2 = word_is w (4 * n + 2) (omega arith) in
    let w3 = word_is w (4 * n + 3) (omega arith) in
    let d0 = decipher-inside w (4 * n) (omega arith) (omega arith) in
    let d1 = decipher-inside w (4 * n + 1) (omega arith) (omega arith) in
    let d2 = decipher-inside w (4 * n + 2) (omega arith) (omega arith) in
    let d3 = decipher-inside w (4 * n + 3) (omega arith) (omega arith) in
    (λ i. d0 i ++ d1 i ++ d2 i ++ d3 i)
    ∙ (λ i. column inv_mixed (w0 i) ++ column inv_mixed (w1 i) ++ column inv_mixed (w2 i) ++ column inv_mixed (w3 i))
    ∙ ap inv_mix_columns (sym (round_key-words w n ∙ (λ i. w0 i ++ w1 i ++ w2 i ++ w3 i)))

-- a round key added to what is mixed back is the round key added before
pub mixed_back : (w : List ℕ) (n : ℕ) (s t : List ℕ) → length w ≡ 176 → 0 < n → n ≤ 9 → t ≡ inv_mix_columns (inv_sub_bytes (inv_shift_rows s))
    → t ⊕ round_words (decipher_word w) n ≡ inv_mix_columns (inv_sub_bytes (inv_shift_rows s) ⊕ round_key w n)
unfolding inv_sub_bytes
mixed_back w n s t h l m e =
    (λ i. e i ⊕ decipher-mixed w n h l m i)
    ∙ sym (inv_mix_columns-xor (inv_sub_bytes (inv_shift_rows s)) (round_key w n) refl (round_key-length w n h (omega arith)))
