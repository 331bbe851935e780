-- The walk back along the row that stands as far from the end as the item, or nothing where there is no such item (Walks).
use Rattle.std.specs.Prelude.{◌≡◌, ◌+◌, ◌-◌}
use Rattle.fips197.proofs.Kit.{sym, ap, ◌∙◌, arith}
use Rattle.incidence.specs.Family.{tags_of}
use Rattle.incidence.proofs.Counting.{inside-low, inside-high, inside_of}
use Rattle.incidence.proofs.Listing.{written_as, written_none}
use Rattle.plane.specs.Table.{plane_items}
use Rattle.plane.specs.Plane.{plane}
use Rattle.plane.specs.Walk.{along}
use Rattle.plane.proofs.Lookup.{items-most}
use Rattle.plane.proofs.Walks.{tags_out}
use Rattle.plane.proofs.walk.PlaneRows.tags_of.Goals as goal

pub overflow_add-m : goal.overflow_add-m
overflow_add-m c = omega (arith, c.items-m.ensures, items-most c.args.self.now.s)

pub overflow_sub-m : goal.overflow_sub-m
overflow_sub-m c =
    let j = c.args.item in
    omega (arith, c.items-m.ensures, inside-high _ j (sym c.inside.ensures ∙ c.if-inside.true))

pub walk-requires : goal.walk-requires
walk-requires c =
    let m = c.items-m.ensures in
    let j = c.args.item in
    let w = sym c.inside.ensures ∙ c.if-inside.true in
    record { le_i = (omega (arith, m, inside-high _ j w), omega (arith, m, inside-low _ j w)) }

pub returns-then-inside : goal.returns-then-inside
unfolding along
returns-then-inside c =
    let m = c.items-m.ensures in
    let a = c.args in
    let e : plane_items a.self.now.s + 1 - (c.items-m.result + 1 - a.item) ≡ a.item = omega (arith, m, inside-high _ a.item (sym c.inside.ensures ∙ c.if-inside.true)) in
    let r = written_as a.out.now (ap (tags_of (plane a.self.now.s)) e) (c.walk.ensures.written, c.walk.ensures.count) in
    record { written = r.0; count = r.1 }

pub returns-else-inside : goal.returns-else-inside
returns-else-inside c =
    let r = written_none c.args.out.now (tags_out _ _ (inside_of c.args.item c.items-m.ensures c.inside.ensures c.if-inside.false)) in
    record { written = r.0; count = r.1 }
