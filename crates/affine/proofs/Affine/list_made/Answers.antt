-- From the table, or nothing where there is no such row (Steps).
use Rattle.incidence.proofs.Counting.{inside-low, inside-high, inside_of}
use Rattle.incidence.proofs.Listing.{written_none}
use Rattle.affine.specs.Affine.{affine_family}
use Rattle.affine.proofs.Steps.{made_out}
use Rattle.affine.proofs.Affine.list_made.Goals as goal

pub made_at-requires : goal.made_at-requires
unfolding affine_family
made_at-requires c =
    let i = c.args.row in
    let w = inside_of i c.rows.ensures c.inside.ensures c.if-inside.true in
    (inside-low _ i w, inside-high _ i w, c.requires)

pub returns-else-inside : goal.returns-else-inside
unfolding affine_family
returns-else-inside c =
    let a = c.args in
    let r = written_none a.out.now (made_out a.self.now.field.s a.self.now.l a.row (inside_of a.row c.rows.ensures c.inside.ensures c.if-inside.false)) in
    record { written = r.0; count = r.1 }
