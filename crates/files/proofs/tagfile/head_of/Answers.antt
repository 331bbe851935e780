-- The stamp, and the two numbers behind it.
use Rattle.std.specs.Prelude.{◌≡◌, ◌+◌}
use Rattle.fips197.proofs.Kit.{ap, ◌∙◌, ℕ, arith, get_or}
use Rattle.stamp.specs.declared.Stamp.{Stamp}
use Rattle.stamp.specs.Front.{front_size, version_of, stamp_of}
use Rattle.files.specs.Message.{number16}
use Rattle.files.specs.TagFile.{tags_at, code_of, count_of, head_of}
use Rattle.files.proofs.tagfile.head_of.Goals as goal

pub stamp_of-stamp-requires : goal.stamp_of-stamp-requires
unfolding tags_at
stamp_of-stamp-requires c = omega (arith, c.requires)

pub bounds-s-at : goal.bounds-s-at
unfolding tags_at stamp_of
bounds-s-at c =
    let place : c.front_size-at.result ≡ front_size (version_of c.args.s.now) =
    c.front_size-at.ensures.0 ∙ ap (λ (st : Stamp). front_size st.version) c.stamp_of-stamp.ensures in
    omega (arith, place, c.requires)

pub overflow_add-at : goal.overflow_add-at
overflow_add-at c = omega (arith, c.front_size-at.ensures.2)

pub number16-requires : goal.number16-requires
unfolding tags_at stamp_of
number16-requires c =
    let place : c.front_size-at.result ≡ front_size (version_of c.args.s.now) =
    c.front_size-at.ensures.0 ∙ ap (λ (st : Stamp). front_size st.version) c.stamp_of-stamp.ensures in
    omega (arith, place, c.requires)

pub returns : goal.returns
unfolding head_of code_of count_of stamp_of
returns c =
    let place : c.front_size-at.result ≡ front_size (version_of c.args.s.now) =
    c.front_size-at.ensures.0 ∙ ap (λ (st : Stamp). front_size st.version) c.stamp_of-stamp.ensures in
    let s = c.args.s.now in
    let e = place in (
      (λ i. record {
        stamp = c.stamp_of-stamp.ensures i;
        code = (c.from.ensures ∙ ap (λ (k : ℕ). get_or s k 0) e) i;
        count = (c.number16.ensures.0 ∙ ap (λ (k : ℕ). number16 s (k + 1)) e) i;
      }),
      c.number16.ensures.1,
    )
