-- Both as they stand; version 1 has no bytes for a number.
use Rattle.fips197.proofs.Kit.{sym, ap, ◌∙◌, ℕ, arith, take, drop}
use Rattle.blocks.specs.Number.{number_of, number}
use Rattle.stamp.specs.Front.{front_size, version_of, stamp_of}
use Rattle.stamp.proofs.Fronts.{size-first, size_later, front_low}
use Rattle.stamp.proofs.stamp_of.Goals as goal

pub returns-then-version-eq1 : goal.returns-then-version-eq1
unfolding stamp_of number number_of
returns-then-version-eq1 c =
    let s = c.args.s.now in
    let z = size-first _ (sym c.version_of-version.ensures ∙ c.if-version-eq1.true) in
    λ i. record { version = c.version_of-version.ensures i; number = number (take (sym z i) (drop 5 s)) }

pub number_behind-requires : goal.number_behind-requires
unfolding front_size
number_behind-requires c =
    let z = size_later _ (λ e. c.if-version-eq1.false (c.version_of-version.ensures ∙ e)) in
    omega (arith, c.requires)

pub returns : goal.returns
unfolding stamp_of
returns c =
    let s = c.args.s.now in
    let z = size_later _ (λ e. c.if-version-eq1.false (c.version_of-version.ensures ∙ e)) in
    λ i. record { version = c.version_of-version.ensures i; number = (c.number_behind.ensures ∙ ap (λ (k : ℕ). number (take k (drop 5 s))) (sym z)) i }

pub version_of-version-requires : goal.version_of-version-requires
version_of-version-requires c = omega (arith, c.requires, front_low (version_of c.args.s.now))
