-- From behind the head to the MAC.
use Rattle.std.specs.Prelude.{◌≡◌, ◌+◌, ◌-◌}
use Rattle.fips197.proofs.Kit.{ap, ap₂, ◌∙◌, ℕ, arith, length, take, drop}
use Rattle.stamp.specs.Front.{version_of}
use Rattle.stamp.proofs.Fronts.{front_low}
use Rattle.files.specs.TagFile.{tags_at, tags_in}
use Rattle.files.proofs.tagfile.tags_in.Goals as goal

pub version_of-requires : goal.version_of-requires
unfolding tags_at
version_of-requires c = omega (arith, c.requires, front_low (version_of c.args.s.now))

pub returns : goal.returns
unfolding tags_in
returns c =
    let place : c.tags_at-at.result ≡ tags_at (version_of c.args.s.now) =
    c.tags_at-at.ensures.0 ∙ ap tags_at c.version_of.ensures in
    let s = c.args.s.now in
    let e = place in
    let z : length s - 16 - c.tags_at-at.result ≡ length s - (tags_at (version_of s) + 16) = omega (arith, e) in
    ap₂ (λ (n k : ℕ). take n (drop k s)) z e

pub overflow_sub-end : goal.overflow_sub-end
overflow_sub-end c =
    let place : c.tags_at-at.result ≡ tags_at (version_of c.args.s.now) =
    c.tags_at-at.ensures.0 ∙ ap tags_at c.version_of.ensures in
    omega (arith, place, c.requires)

pub slice_bounds-result-count : goal.slice_bounds-result-count
slice_bounds-result-count c =
    let place : c.tags_at-at.result ≡ tags_at (version_of c.args.s.now) =
    c.tags_at-at.ensures.0 ∙ ap tags_at c.version_of.ensures in
    omega (arith, place, c.requires)

pub slice_bounds-result-start : goal.slice_bounds-result-start
slice_bounds-result-start c =
    let place : c.tags_at-at.result ≡ tags_at (version_of c.args.s.now) =
    c.tags_at-at.ensures.0 ∙ ap tags_at c.version_of.ensures in
    omega (arith, place, c.requires)
