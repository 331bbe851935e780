use Rattle.std.specs.Prelude.{◌≡◌, ◌+◌, ◌-◌, ◌≤◌}
use Rattle.fips197.proofs.Kit.{length}
use Rattle.blocks.proofs.Loop.{part}
use Rattle.incidence.specs.Family.{tags_of}
use Rattle.plane.specs.Table.{plane_items}
use Rattle.plane.specs.Plane.{plane}
use Rattle.plane.proofs.walk.write_tags.Given as goal

abbrev pub invariant-loop-k : goal.invariant-loop-k
invariant-loop-k l =
    (l.k ≤ length (tags_of (plane l.s) (plane_items l.s + 1 - l.i))) × (length l.out ≡ length l.initial.out) × (l.out ≡ part l.k (tags_of (plane l.s) (plane_items l.s + 1 - l.i)) l.initial.out)
