-- By the pattern, or nothing where the row has a tag or there is no such row (Walks).
use Rattle.fips197.proofs.Kit.{refl, arith}
use Rattle.incidence.proofs.Listing.{written_none}
use Rattle.plane.specs.Table.{pattern_lists}
use Rattle.plane.proofs.Walks.{made-none-low, made-none-high}
use Rattle.plane.proofs.walk.PlaneRows.made_of.Goals as goal

pub returns-then-row-tags : goal.returns-then-row-tags
returns-then-row-tags c =
    let a = c.args in
    let r = written_none a.out.now (made-none-low a.self.now.s a.row (omega (arith, c.if-row-tags.true, c.tags.ensures))) in
    record { written = r.0; count = r.1 }

pub returns-then-items-row : goal.returns-then-items-row
returns-then-items-row c =
    let a = c.args in
    let r = written_none a.out.now (made-none-high a.self.now.s a.row (omega (arith, c.if-items-row.true, c.items.ensures))) in
    record { written = r.0; count = r.1 }

pub pattern-requires : goal.pattern-requires
unfolding pattern_lists
pattern-requires c = refl
