use Rattle.std.specs.Prelude.{◌≡◌, ◌-◌}
use Rattle.fips197.proofs.Kit.{length}
use Rattle.polynomials.specs.Polynomial.{gcd_in, gcd}
use Rattle.polynomials.proofs.gcd.Given as goal

abbrev pub invariant-loop-step : goal.invariant-loop-step
invariant-loop-step l =
    (length l.p ≡ length l.initial.p) × (length l.q ≡ length l.initial.q) × (gcd_in (l.most - l._step) l.p l.q ≡ gcd l.initial.p l.initial.q)
