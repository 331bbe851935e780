-- Each test settles it (Fronts).
use Rattle.std.specs.Prelude.{◌≡◌, ◌+◌}
use lib.Pointwise.{bytes_decides}
use Rattle.fips197.proofs.Kit.{not-true, not-false, sym, ap, ◌∙◌, arith, le-leb, lt-leb}
use Rattle.incidence.specs.Count.{inside}
use Rattle.stamp.specs.Front.{front_size, version_of, begins_as}
use Rattle.stamp.proofs.Fronts.{front_low, begins_as_short, begins_as_other, begins_as_yes}
use Rattle.stamp.proofs.begins_as.Goals as goal

pub returns-then-s-lt-NUMBER_AT : goal.returns-then-s-lt-NUMBER_AT
returns-then-s-lt-NUMBER_AT c =
    let s = c.args.s.now in
    sym (begins_as_short c.args.letters.now c.args.newest s (front_size (version_of s) + c.args.rest) (omega (arith, front_low (version_of s))))

pub returns-then-ne : goal.returns-then-ne
returns-then-ne c =
    let s = c.args.s.now in
    sym (begins_as_other c.args.letters.now c.args.newest s (front_size (version_of s) + c.args.rest) _ (bytes_decides _ _).1 (not-true _ (sym c.ne.ensures ∙ c.if-ne.true)))

pub returns-then-s-front_size : goal.returns-then-s-front_size
returns-then-s-front_size c =
    let s = c.args.s.now in
    let e = c.front_size.ensures.0 ∙ ap front_size c.version_of-version.ensures in
    sym (begins_as_short c.args.letters.now c.args.newest s (front_size (version_of s) + c.args.rest) (omega arith))

pub returns-then-version-ge1 : goal.returns-then-version-ge1
returns-then-version-ge1 c =
    let decides : begins_as c.args.letters.now c.args.newest (front_size (version_of c.args.s.now) + c.args.rest) c.args.s.now ≡ inside c.args.newest c.version_of-version.result =
    let s = c.args.s.now in
    let e = c.front_size.ensures.0 ∙ ap front_size c.version_of-version.ensures in
    begins_as_yes c.args.letters.now c.args.newest s _ (omega arith) ((bytes_decides _ _).0 (not-false _ (sym c.ne.ensures ∙ c.if-ne.false)))
    ∙ ap (inside c.args.newest) (sym c.version_of-version.ensures) in
    sym (decides ∙ rw (le-leb _ _ c.if-version-ge1.true))

pub returns-else-version-ge1 : goal.returns-else-version-ge1
returns-else-version-ge1 c =
    let decides : begins_as c.args.letters.now c.args.newest (front_size (version_of c.args.s.now) + c.args.rest) c.args.s.now ≡ inside c.args.newest c.version_of-version.result =
    let s = c.args.s.now in
    let e = c.front_size.ensures.0 ∙ ap front_size c.version_of-version.ensures in
    begins_as_yes c.args.letters.now c.args.newest s _ (omega arith) ((bytes_decides _ _).0 (not-false _ (sym c.ne.ensures ∙ c.if-ne.false)))
    ∙ ap (inside c.args.newest) (sym c.version_of-version.ensures) in
    sym (decides ∙ rw (lt-leb _ _ c.if-version-ge1.false))
