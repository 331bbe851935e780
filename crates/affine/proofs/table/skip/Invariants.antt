use Rattle.std.specs.Prelude.{◌≡◌, ◌+◌, ◌*◌, ◌≤◌}
use Rattle.affine.specs.Walk.{past_lists}
use Rattle.affine.proofs.table.skip.Given as goal

abbrev pub invariant-loop : goal.invariant-loop
invariant-loop l = (l.place ≡ past_lists l.t l.at l.counter) × (l.place ≤ l.at + 256 * l.counter)
