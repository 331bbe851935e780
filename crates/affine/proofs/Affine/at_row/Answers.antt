-- The size's part of the table (Tables).
use Rattle.std.specs.Prelude.{◌+◌, ◌-◌, ◌*◌}
use Rattle.fips197.proofs.Kit.{ap, ◌∙◌, ℕ, arith}
use Rattle.affine.specs.Walk.{entry_of}
use Rattle.affine.proofs.Tables.{index_high, rows-high}
use Rattle.affine.proofs.Affine.at_row.Goals as goal

pub overflow_mul-index : goal.overflow_mul-index
overflow_mul-index c =
    let a = c.args in
    omega (arith, c.index.ensures, index_high a.self.now.field.s a.self.now.l c.args.self.now.size, c.requires, rows-high a.self.now.field.s a.self.now.l c.args.self.now.size)

pub overflow_add-index : goal.overflow_add-index
overflow_add-index c =
    let a = c.args in
    omega (arith, c.index.ensures, index_high a.self.now.field.s a.self.now.l c.args.self.now.size, c.requires, rows-high a.self.now.field.s a.self.now.l c.args.self.now.size)

pub returns : goal.returns
returns c = c.entry.ensures.read ∙ ap (λ (z : ℕ). entry_of c.args.t.now (64 * z + (c.args.i - 1))) c.index.ensures
