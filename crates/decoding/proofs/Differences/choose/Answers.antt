-- By its tests (incidence Reports).
use Rattle.std.specs.Prelude.{◌<◌}
use Rattle.fips197.proofs.Kit.{sym, ◌∙◌, arith}
use Rattle.incidence.proofs.Reports.{answer-intact, answer-named, answer-beyond}
use Rattle.decoding.proofs.Differences.choose.Goals as goal
use Rattle.decoding.proofs.Differences.choose.Goals.{else-names-ge1-via-then-names-ge1+then-names-limit+else-not-find_unexplained, else-names-ge1-via-then-names-ge1+else-names-limit, else-names-ge1-via-else-names-ge1}

pub returns-then-rows-eq0 : goal.returns-then-rows-eq0
returns-then-rows-eq0 c = sym (answer-intact _ _ _ _ c.if-rows-eq0.true)

pub returns-then-not-find_unexplained : goal.returns-then-not-find_unexplained
returns-then-not-find_unexplained c =
    sym (answer-named _ _ _ _ (omega (arith, c.if-rows-eq0.false)) c.if-names-ge1.true (omega (arith, c.if-names-limit.true, c.limit.ensures))
    (sym c.find_unexplained.ensures ∙ c.if-not-find_unexplained.true))

pub returns : goal.returns
returns c =
    let some : 0 < c.args.rows = omega (arith, c.if-rows-eq0.false) in
    elim c.else-names-ge1.branch [
      | else-names-ge1-via-then-names-ge1+then-names-limit+else-not-find_unexplained w ↦
          sym (answer-beyond _ _ _ _ some (λ l u. sym w.find_unexplained.ensures ∙ w.if-not-find_unexplained.false))
      | else-names-ge1-via-then-names-ge1+else-names-limit w ↦
          sym (answer-beyond _ _ _ _ some (λ l u. absurd (omega (arith, w.if-names-limit.false, w.limit.ensures, u))))
      | else-names-ge1-via-else-names-ge1 w ↦ sym (answer-beyond _ _ _ _ some (λ l u. absurd (omega (arith, w.if-names-ge1.false, l))))
    ]
