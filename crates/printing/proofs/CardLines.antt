-- The lines of the named cards: one card more, and what is left to put.
use Rattle.std.specs.Prelude.{◌≡◌, ◌++◌, ◌+◌, ◌≤◌, ◌<◌, if◌then◌else◌}
use Rattle.fips197.proofs.Kit.{refl, sym, ap, ap₂, ◌∙◌, Bool, true, false, List, [], ℕ, zero, suc, arith, add-one, eqb, length, get_or, get_or-take, take, length-take, length-append, eqb-true, eqb-false, eq-eqb, ne_eqb}
use Rattle.printing.specs.Lines.{card_line, card_part, card_lines}

pub part_none : (mark j : ℕ) → (mark ≡ 1 → ⊥) → [] ≡ card_part mark j
unfolding card_part
part_none mark j h = sym (ap (λ (t : Bool). if t then card_line j else []) (ne_eqb mark 1 h))

pub part_named : (mark j : ℕ) → mark ≡ 1 → card_line j ≡ card_part mark j
unfolding card_part
part_named mark j h = sym (ap (λ (t : Bool). if t then card_line j else []) (eq-eqb mark 1 h))

pub lines_next : (marks : List ℕ) (k : ℕ) → card_lines marks (k + 1) ≡ card_lines marks k ++ card_part (get_or marks k 0) (k + 1)
unfolding card_lines
lines_next marks k = rw (add-one k) refl

-- the lines of fewer cards are no longer
pub lines_fewer : (marks : List ℕ) (k n : ℕ) → k ≤ n → length (card_lines marks k) ≤ length (card_lines marks n)
unfolding card_lines
lines_fewer marks k zero h =
    let e : k ≡ 0 = omega arith in
    rw e (omega arith)
lines_fewer marks k (suc n) h = go (eqb k (suc n)) refl (lines_fewer marks k n)
  where
    more : length (card_lines marks (suc n)) ≡ length (card_lines marks n) + length (card_part (get_or marks n 0) (suc n))
    more = length-append (card_lines marks n) (card_part (get_or marks n 0) (suc n))

    go : (t : Bool) → eqb k (suc n) ≡ t → (k ≤ n → length (card_lines marks k) ≤ length (card_lines marks n))
        → length (card_lines marks k) ≤ length (card_lines marks (suc n))
    go true e next =
        let q : k ≡ suc n = eqb-true k (suc n) e in
        rw q (omega arith)
    go false e next =
        let q : k ≡ suc n → ⊥ = eqb-false k (suc n) e in
        let l = next (omega arith) in
        omega (arith, more, l)

-- where there is room for the lines of n cards, there is for those of k and of the one behind them
pub lines_room : (room k n : ℕ) (marks s : List ℕ) → k < n → length s + length (card_lines marks n) ≤ room
    → length s + length (card_lines marks k ++ card_part (get_or marks k 0) (k + 1)) ≤ room
lines_room room k n marks s h l =
    let e : length (card_lines marks (k + 1)) ≡ length (card_lines marks k ++ card_part (get_or marks k 0) (k + 1)) = ap length (lines_next marks k) in
    let m = lines_fewer marks (k + 1) n (omega arith) in
    omega (arith, e, m)

-- the lines of the first k marks are those of all marks up to k
cards_front : (marks : List ℕ) (k n : ℕ) → n ≤ k → card_lines (take k marks) n ≡ card_lines marks n
unfolding card_lines
cards_front marks k zero l = refl
cards_front marks k (suc n) l =
    ap₂ ◌++◌ (cards_front marks k n (omega arith)) (ap (λ (m : ℕ). card_part m (suc n)) (get_or-take k marks n 0 (omega arith)))

pub cards_of : (marks : List ℕ) (k : ℕ) → k ≤ length marks → card_lines (take k marks) (length (take k marks)) ≡ card_lines marks k
cards_of marks k l =
    let e : length (take k marks) ≡ k = simp length-take (omega arith) in
    ap (card_lines (take k marks)) e ∙ cards_front marks k k (omega arith)
