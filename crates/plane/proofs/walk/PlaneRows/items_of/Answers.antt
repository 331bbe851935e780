-- The walk, or nothing where there is no such row (Walks).
use Rattle.incidence.proofs.Counting.{inside-low, inside-high, inside_of}
use Rattle.incidence.proofs.Listing.{written_none}
use Rattle.plane.specs.Walk.{along}
use Rattle.plane.proofs.Walks.{items_out}
use Rattle.plane.proofs.walk.PlaneRows.items_of.Goals as goal

pub walk-requires : goal.walk-requires
walk-requires c =
    let i = c.args.row in
    let w = inside_of i c.items.ensures c.inside.ensures c.if-inside.true in
    record { le_i = (inside-low _ i w, inside-high _ i w) }

pub returns-then-inside : goal.returns-then-inside
unfolding along
returns-then-inside c = record { written = c.walk.ensures.written; count = c.walk.ensures.count }

pub returns-else-inside : goal.returns-else-inside
returns-else-inside c =
    let r = written_none c.args.out.now (items_out _ _ (inside_of c.args.row c.items.ensures c.inside.ensures c.if-inside.false)) in
    record { written = r.0; count = r.1 }
