-- As a sum of three (Computing).
use Rattle.std.specs.Prelude.{◌%◌, ◌/◌, ◌^◌, ◌≤◌, ◌<◌}
use Rattle.fips197.proofs.Kit.{◌∙◌, ℕ, arith, mod-lt, zero-lt-suc}
use Rattle.affine.specs.Field.{product}
use Rattle.affine.proofs.Computing.{elements_few, times_small, product_is, reduced-low, bit_times}
use Rattle.affine.proofs.field.Field.product.Goals as goal

pub nonzero_rem-by : goal.nonzero_rem-by
nonzero_rem-by c = omega (arith, c.elements-q.ensures, (elements_few c.args.self.s c.args.self.here).0)

pub nonzero_rem-once : goal.nonzero_rem-once
nonzero_rem-once c = omega (arith, c.elements-q.ensures, (elements_few c.args.self.s c.args.self.here).0)

under : {a q : ℕ} → a < q → q ≤ 8 → a < 8
under l h = omega arith

pub times_x-twice-requires : goal.times_x-twice-requires
times_x-twice-requires c =
    let once-low : c.args.a % c.elements-q.result < 2 ^ c.args.self.s =
    rw c.elements-q.ensures (reduced-low c.args.self.s c.args.self.here c.args.a) in
    once-low

pub times_x-fourfold-requires : goal.times_x-fourfold-requires
times_x-fourfold-requires c =
    let once-low : c.args.a % c.elements-q.result < 2 ^ c.args.self.s =
    rw c.elements-q.ensures (reduced-low c.args.self.s c.args.self.here c.args.a) in
    let twice-low : c.times_x-twice.result < 2 ^ c.args.self.s =
    rw c.times_x-twice.ensures (times_small _ c.args.self.here _ once-low) in
    twice-low

pub overflow_mul-result : goal.overflow_mul-result
overflow_mul-result c =
    let once-low : c.args.a % c.elements-q.result < 2 ^ c.args.self.s =
    rw c.elements-q.ensures (reduced-low c.args.self.s c.args.self.here c.args.a) in
    let few : 2 ^ c.args.self.s ≤ 8 = (elements_few c.args.self.s c.args.self.here).1 in
    omega (arith, bit_times _ _ (mod-lt (c.args.b % c.elements-q.result) (zero-lt-suc 1)) (under once-low few))

pub overflow_mul-result-2 : goal.overflow_mul-result-2
overflow_mul-result-2 c =
    let once-low : c.args.a % c.elements-q.result < 2 ^ c.args.self.s =
    rw c.elements-q.ensures (reduced-low c.args.self.s c.args.self.here c.args.a) in
    let few : 2 ^ c.args.self.s ≤ 8 = (elements_few c.args.self.s c.args.self.here).1 in
    let twice-low : c.times_x-twice.result < 2 ^ c.args.self.s =
    rw c.times_x-twice.ensures (times_small _ c.args.self.here _ once-low) in
    omega (arith, bit_times _ _ (mod-lt (c.args.b % c.elements-q.result / 2) (zero-lt-suc 1)) (under twice-low few))

pub overflow_mul-result-3 : goal.overflow_mul-result-3
overflow_mul-result-3 c =
    let once-low : c.args.a % c.elements-q.result < 2 ^ c.args.self.s =
    rw c.elements-q.ensures (reduced-low c.args.self.s c.args.self.here c.args.a) in
    let by-low : c.args.b % c.elements-q.result < 2 ^ c.args.self.s =
    rw c.elements-q.ensures (reduced-low c.args.self.s c.args.self.here c.args.b) in
    let few : 2 ^ c.args.self.s ≤ 8 = (elements_few c.args.self.s c.args.self.here).1 in
    let twice-low : c.times_x-twice.result < 2 ^ c.args.self.s =
    rw c.times_x-twice.ensures (times_small _ c.args.self.here _ once-low) in
    let fourfold-low : c.times_x-fourfold.result < 2 ^ c.args.self.s =
    rw c.times_x-fourfold.ensures (times_small _ c.args.self.here _ twice-low) in
    let low : c.args.b % c.elements-q.result / 4 < 2 = omega (arith, by-low, few) in
    omega (arith, bit_times _ _ low (under fourfold-low few))

pub returns : goal.returns
unfolding product
returns c =
    let once-low : c.args.a % c.elements-q.result < 2 ^ c.args.self.s =
    rw c.elements-q.ensures (reduced-low c.args.self.s c.args.self.here c.args.a) in
    let by-low : c.args.b % c.elements-q.result < 2 ^ c.args.self.s =
    rw c.elements-q.ensures (reduced-low c.args.self.s c.args.self.here c.args.b) in
    rw (c.times_x-fourfold.ensures, c.times_x-twice.ensures)
    (product_is _ c.args.self.here _ _ once-low by-low
    ∙ rw c.elements-q.ensures)
