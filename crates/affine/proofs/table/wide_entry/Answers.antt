-- By the definition.
use Rattle.std.specs.Prelude.{◌+◌, ◌*◌}
use Rattle.fips197.proofs.Kit.{ap₂, arith, ℕ}
use Rattle.affine.specs.Walk.{wide_entry_of}
use Rattle.affine.proofs.table.wide_entry.Goals as goal

pub returns : goal.returns
unfolding wide_entry_of
returns c =
    record {
      read = ap₂ (λ (x y : ℕ). 256 * x + y) c.entry.ensures.read c.entry-2.ensures.read;
      short = omega (arith, c.entry.ensures.byte, c.entry-2.ensures.byte);
    }

pub overflow_mul-k : goal.overflow_mul-k
overflow_mul-k c = omega (arith, c.requires)

pub overflow_mul-result : goal.overflow_mul-result
overflow_mul-result c = omega (arith, c.entry.ensures.byte)

pub overflow_add-k : goal.overflow_add-k
overflow_add-k c = omega (arith, c.requires)

pub overflow_add-result : goal.overflow_add-result
overflow_add-result c = omega (arith, c.entry-2.ensures.byte, c.entry.ensures.byte)
