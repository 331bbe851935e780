-- The number behind letters, version and number.
use Rattle.std.specs.Prelude.{◌≡◌}
use Rattle.fips197.proofs.Kit.{ap, ◌∙◌, arith}
use Rattle.stamp.specs.Front.{front_size, version_of}
use Rattle.stamp.proofs.Fronts.{front_low}
use Rattle.files.specs.Message.{number16, items_at, item_count}
use Rattle.files.proofs.message.item_count.Goals as goal

pub version_of-requires : goal.version_of-requires
unfolding items_at
version_of-requires c = omega (arith, c.requires, front_low (version_of c.args.s.now))

pub number16-requires : goal.number16-requires
unfolding items_at
number16-requires c =
    let place : c.front_size.result ≡ front_size (version_of c.args.s.now) =
    c.front_size.ensures.0 ∙ ap front_size c.version_of.ensures in
    omega (arith, c.requires, place)

pub returns : goal.returns
unfolding item_count
returns c =
    let place : c.front_size.result ≡ front_size (version_of c.args.s.now) =
    c.front_size.ensures.0 ∙ ap front_size c.version_of.ensures in
    let s = c.args.s.now in
    (c.number16.ensures.0 ∙ ap (number16 s) place, c.number16.ensures.1)
