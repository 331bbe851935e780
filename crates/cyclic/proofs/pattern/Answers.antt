-- Where the call refuses, nothing is done; else the array has m + 1 places (Deriving).
use Rattle.std.specs.Prelude.{◌≡◌, ◌++◌, ◌≤◌}
use Rattle.fips197.proofs.Kit.{ap, ◌∙◌, List, ℕ, true, ⊎_elim, arith, length, drop, lt-ltb, le-ltb, rules}
use Rattle.cyclic.specs.Deriving.{refuses}
use Rattle.cyclic.proofs.Deriving.{pattern_so, refuses-none, refuses-many, refuses-short, refuses-not, not-derived, none_written, is_derived, is_written}
use Rattle.cyclic.proofs.pattern.Goals as goal

pub returns-then-m-eq0 : goal.returns-then-m-eq0
returns-then-m-eq0 c =
    let m = c.args.m in
    let o = c.args.out.now in
    let e : refuses m (length o) ≡ true = ⊎_elim
    (refuses-none m (length o))
    (⊎_elim (λ w. refuses-many m (length o) (lt-ltb 273 m w.1)) (λ w. refuses-short m (length o) (lt-ltb (length o) m w.2)))
    c.then-m-eq0.either in
    record { answer = not-derived m c.args.list.now (length o) e; written = none_written m c.args.list.now o e }

pub returns : goal.returns
returns c =
    let m = c.args.m in
    let o = c.args.out.now in
    let room : m ≤ length o = omega arith in
    let w = pattern_so m c.args.list.now _ _ c.put_check.ensures (search rules) in
    let e = refuses-not m (length o) c.if-m-eq0.false (le-ltb 273 m c.if-m-gt273.false) (le-ltb (length o) m room) in
    record {
      answer = is_derived m c.args.list.now (length o) _ e (c.put_steps.ensures.count ∙ ap length w);
      written = is_written m c.args.list.now o _ e (c.put_steps.ensures.written ∙ ap (λ (l : List ℕ). l ++ drop (length l) o) w);
    }
