-- The message in front of zeros, and the mark behind it (Chain).
use Rattle.std.specs.Prelude.{◌≡◌, ◌-◌}
use Rattle.fips197.proofs.Kit.{arith, length}
use Rattle.cipher.proofs.Chain.{padded_set}
use Rattle.cipher.proofs.cmac.padded.Goals as goal

pub returns : goal.returns
returns c =
    let l = c.args.l.now in
    let e : length l - 0 ≡ length l = omega arith in
    rw (c.copy_from_slice.ensures.after, e) (padded_set l c.requires)
