-- By the definition.
use Rattle.fips197.proofs.Kit.{sym, arith, List·getD-eq-default}
use Rattle.affine.specs.Walk.{entry_of}
use Rattle.affine.proofs.table.entry.Goals as goal

pub returns-then-k-t : goal.returns-then-k-t
unfolding entry_of
returns-then-k-t c = record { read = c.from.ensures; byte = omega arith }

pub returns-else-k-t : goal.returns-else-k-t
unfolding entry_of
returns-else-k-t c = record { read = sym (List·getD-eq-default c.args.t.now 0 c.if-k-t.false); byte = omega arith }
