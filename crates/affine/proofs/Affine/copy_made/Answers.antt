-- The row's part of the tables, which stands behind its length (Tables).
use Rattle.std.specs.Prelude.{◌+◌, ◌-◌, ◌*◌, ◌/◌, ◌<◌}
use Rattle.fips197.proofs.Kit.{arith}
use Rattle.incidence.proofs.Listing.{written_as}
use Rattle.affine.proofs.Tables.{made_room, made_part, made_few, index_high, rows-high}
use Rattle.affine.proofs.Affine.copy_made.Goals as goal

pub slice_bounds-copy-end : goal.slice_bounds-copy-end
slice_bounds-copy-end c =
    made_room c.args.self.now.field.s c.args.self.now.l c.requires.made_in c.skip-at.ensures.past c.wide_entry-start.ensures.read c.index.ensures c.entry.ensures.read

pub copy-requires : goal.copy-requires
copy-requires c = (
  rw (made_part c.args.self.now.field.s c.args.self.now.l c.requires.made_in c.skip-at.ensures.past c.wide_entry-start.ensures.read c.index.ensures c.entry.ensures.read)
      (made_few c.args.self.now.field.s c.args.self.now.l c.args.self.now.size c.args.i c.requires.le_i.0 c.requires.le_i.1),
  c.requires.le_i.2,
)

pub returns : goal.returns
returns c =
    let r = written_as c.args.out.now
    (made_part c.args.self.now.field.s c.args.self.now.l c.requires.made_in c.skip-at.ensures.past c.wide_entry-start.ensures.read c.index.ensures c.entry.ensures.read) (c.copy.ensures.written, c.copy.ensures.count) in
    record { written = r.0; count = r.1 }

pub overflow_mul-index : goal.overflow_mul-index
overflow_mul-index c =
    let low : 8 * c.index.result + (c.args.i - 1) / 8 < 80 =
    omega (arith, c.index.ensures, index_high c.args.self.now.field.s c.args.self.now.l c.args.self.now.size, c.requires.le_i.1, rows-high c.args.self.now.field.s c.args.self.now.l c.args.self.now.size) in
    omega (arith, low)

pub overflow_add-index : goal.overflow_add-index
overflow_add-index c =
    let low : 8 * c.index.result + (c.args.i - 1) / 8 < 80 =
    omega (arith, c.index.ensures, index_high c.args.self.now.field.s c.args.self.now.l c.args.self.now.size, c.requires.le_i.1, rows-high c.args.self.now.field.s c.args.self.now.l c.args.self.now.size) in
    omega (arith, low)

pub wide_entry-start-requires : goal.wide_entry-start-requires
wide_entry-start-requires c =
    let low : 8 * c.index.result + (c.args.i - 1) / 8 < 80 =
    omega (arith, c.index.ensures, index_high c.args.self.now.field.s c.args.self.now.l c.args.self.now.size, c.requires.le_i.1, rows-high c.args.self.now.field.s c.args.self.now.l c.args.self.now.size) in
    low

pub skip-at-requires : goal.skip-at-requires
skip-at-requires c = (c.wide_entry-start.ensures.short, omega arith)

pub overflow_add-first : goal.overflow_add-first
overflow_add-first c = omega (arith, c.skip-at.ensures.short, c.wide_entry-start.ensures.short)

pub overflow_add-first-2 : goal.overflow_add-first-2
overflow_add-first-2 c = omega (arith, c.entry.ensures.byte, c.skip-at.ensures.short, c.wide_entry-start.ensures.short)
