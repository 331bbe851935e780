use Rattle.std.specs.Prelude.{◌≡◌, ◌-◌}
use Rattle.fips197.proofs.Kit.{length}
use Rattle.polynomials.specs.Polynomial.{quotient_in, quotient}
use Rattle.polynomials.proofs.divide.Given as goal

abbrev pub invariant-loop-step : goal.invariant-loop-step
invariant-loop-step l =
    (length l.h ≡ length l.initial.h) × (length l.p ≡ length l.initial.p) × (quotient_in (l.most - l._step) l.h l.p l.q ≡ quotient l.initial.p l.q)
