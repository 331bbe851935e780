-- Each entry by its place; beyond them both are 0.
use Rattle.std.specs.Prelude.{◌≡◌}
use Rattle.fips197.proofs.Kit.{sym, ap, ℕ, arith, length, get_or, List·getD-eq-default, rules}
use Rattle.plane.proofs.table.column.Goals as goal

pub returns-in-0 : goal.returns-in-0
returns-in-0 c = ap (λ (s : ℕ). get_or c.args.t s 0) (sym c.in-0.is)

pub returns-in-1 : goal.returns-in-1
returns-in-1 c = ap (λ (s : ℕ). get_or c.args.t s 0) (sym c.in-1.is)

pub returns-in-2 : goal.returns-in-2
returns-in-2 c = ap (λ (s : ℕ). get_or c.args.t s 0) (sym c.in-2.is)

pub returns-in-3 : goal.returns-in-3
returns-in-3 c = ap (λ (s : ℕ). get_or c.args.t s 0) (sym c.in-3.is)

pub returns-in-4 : goal.returns-in-4
returns-in-4 c = ap (λ (s : ℕ). get_or c.args.t s 0) (sym c.in-4.is)

pub returns-in_default : goal.returns-in_default
returns-in_default c =
    let h : length c.args.t ≡ 5 = search rules in
    sym (List·getD-eq-default c.args.t 0 (omega (arith, c.in_default.in_default-own.rest)))
