-- A list a turn, of fewer than 256 entries.
use Rattle.std.specs.Prelude.{◌≡◌, ◌+◌}
use Rattle.fips197.proofs.Kit.{refl, sym, ap, ◌∙◌, List, ℕ, add-one, arith}
use Rattle.affine.specs.Walk.{entry_of, past_lists}
use Rattle.affine.proofs.table.skip.Goals as goal

-- one list more
one_more : (T : List ℕ) (a k p e : ℕ) → p ≡ past_lists T a k → e ≡ entry_of T p → p + (1 + e) ≡ past_lists T a (k + 1)
unfolding past_lists
one_more T a k p e h f =
    let q : p + (1 + entry_of T p) ≡ p + 1 + entry_of T p = omega arith in
    ap (λ (x : ℕ). p + (1 + x)) f ∙ q ∙ ap (λ (x : ℕ). x + 1 + entry_of T x) h ∙ ap (past_lists T a) (sym (add-one k))

pub loop-init : goal.loop-init
unfolding past_lists
loop-init c = (refl, omega arith)

pub loop-preserved : goal.loop-preserved
loop-preserved c =
    let l = c.loop in
    (one_more _ _ l.counter l.place c.entry.result l.invariant.0 c.entry.ensures.read, omega (arith, c.entry.ensures.byte, l.invariant.1))

pub returns : goal.returns
returns c =
    let l = c.loop in
    let e : l.counter ≡ c.args.n = omega arith in
    record { past = l.invariant.0 ∙ ap (past_lists _ _) e; short = omega (arith, l.invariant.1) }

pub overflow_add-place : goal.overflow_add-place
overflow_add-place c = omega (arith, c.entry.ensures.byte)

pub overflow_add-place-in-loop : goal.overflow_add-place-in-loop
overflow_add-place-in-loop c = omega (arith, c.entry.ensures.byte, c.loop.invariant.1, c.requires.0)
