-- The law of loops that write an array from the front (fips197's Loop), passed on; and what it gives for the front and for a part of a longer slice.
-- And parts put one behind another.
use Rattle.std.specs.Prelude.{◌≡◌, ◌∷◌, ◌++◌, ◌+◌, ◌-◌, ◌≤◌, ◌<◌}
use Rattle.fips197.proofs.Kit.{refl, sym, ap, ap₂, ◌∙◌, List, [], map, append-nil, append_assoc, ℕ, zero, suc, not-suc-le-zero, le_of_suc-le-suc, arith, length, get_or, take, drop, length-append, length-drop, take_all, take_at, drop_at, drop-drop, drop-length, put_mid}
pub use Rattle.fips197.proofs.Loop.{part, part_turn, part_read, part_done}

pub map_at : (f : ℕ → ℕ) (l : List ℕ) (i : ℕ) → i < length l → get_or (map f l) i 0 ≡ f (get_or l i 0)
map_at f [] i h = absurd (not-suc-le-zero h)
map_at f (x ∷ l) zero h = refl
map_at f (x ∷ l) (suc i) h = map_at f l i (le_of_suc-le-suc h)

-- the front of a longer list, once all of t is written
pub part_front : (n i : ℕ) (t l s : List ℕ) → s ≡ part i t l → i ≡ n → length t ≡ n → s ≡ t ++ drop n l
part_front n i t l s p e h = p ∙ ap (λ (k : ℕ). part k t l) e ∙ ap (λ (z : List ℕ). z ++ drop n l) (take_all n t (omega arith))

-- a part of a list, from a to the end, that comes back with n new elements in front
pub part_back : (xs ys new : List ℕ) (a n : ℕ) → a + n ≤ length xs → ys ≡ new ++ drop n (take (length xs - a) (drop a xs))
    → put_mid a (length xs - a) xs ys ≡ take a xs ++ (new ++ drop (a + n) xs)
part_back xs ys new a n h e =
    let all : take (length xs - a) (drop a xs) ≡ drop a xs = take_all (length xs - a) (drop a xs) (simp length-drop (omega arith)) in
    let none : drop (length xs - a) (drop a xs) ≡ [] = rw (← length-drop a xs) (drop-length (drop a xs)) in
    rw (e, all, none, append-nil, drop-drop) refl

-- a part that is a text's copy, as long as it
pub part_copied : (xs ys text : List ℕ) (a : ℕ) → a + length text ≤ length xs → ys ≡ text
    → put_mid a (a + length text - a) xs ys ≡ take a xs ++ (text ++ drop (a + length text) xs)
part_copied xs ys text a h e =
    let n : a + length text - a ≡ length text = omega arith in
    rw (e, n, drop-drop) refl

-- ---- one part put behind another, at the front of a list o: o1 has f there, and o2 x behind it

pub front_kept : (f o o1 : List ℕ) (at : ℕ) → length f ≡ at → at ≤ length o → o1 ≡ f ++ drop at o → length o1 ≡ length o
front_kept f o o1 at h l e = ap length e ∙ length-append f (drop at o) ∙ simp length-drop (omega arith)

pub put_behind : (f x o o1 o2 : List ℕ) (at k : ℕ) → length f ≡ at → o1 ≡ f ++ drop at o → o2 ≡ take at o1 ++ (x ++ drop (at + k) o1)
    → o2 ≡ (f ++ x) ++ drop (at + k) o
put_behind f x o o1 o2 at k h e1 e2 =
    e2
    ∙ ap₂ (λ (a b : List ℕ). a ++ (x ++ b)) (ap (take at) e1 ∙ take_at f (drop at o) at h)
    (sym (drop-drop k at o1) ∙ ap (drop k) (ap (drop at) e1 ∙ drop_at f (drop at o) at h) ∙ drop-drop k at o)
    ∙ sym (append_assoc f x (drop (at + k) o))
