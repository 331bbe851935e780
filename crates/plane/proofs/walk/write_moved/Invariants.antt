use Rattle.std.specs.Prelude.{◌≡◌, ◌++◌, ◌+◌, ◌-◌}
use Rattle.fips197.proofs.Kit.{map, length, take, drop}
use Rattle.fips197.proofs.Loop.{part}
use Rattle.plane.proofs.walk.write_moved.Given as goal

abbrev pub invariant-loop-k : goal.invariant-loop-k
invariant-loop-k l =
    (length l.out ≡ length l.initial.out) × (l.out ≡ part (l.at + l.k) (take l.at l.initial.out ++ (map (λ e. l.up + e - l.down) l.list ++ drop (l.at + length l.list) l.initial.out)) l.initial.out)
