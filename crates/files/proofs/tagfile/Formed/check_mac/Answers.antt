-- The last 16 bytes against CMAC of those before (TagFiles).
use Rattle.std.specs.Prelude.{◌≤◌}
use Rattle.fips197.proofs.Kit.{refl, ◌∙◌, arith, length}
use Rattle.files.proofs.Accepted.{formed}
use Rattle.files.proofs.TagFiles.{mac_is}
use Rattle.files.proofs.tagfile.Formed.check_mac.Goals as goal

pub returns : goal.returns
returns c =
    let long : 16 ≤ length c.args.self.now.bytes.now = omega (arith, (formed c.args.self.now.bytes.now c.args.self.now.formed).long) in
    c.unless.ensures
    ∙ mac_is c.args.key c.args.self.now.bytes.now _ _ _ _ _ refl refl c.cmac_with-mac.ensures c.block_at.ensures long c.equal.ensures

pub overflow_sub-end : goal.overflow_sub-end
overflow_sub-end c =
    let long : 16 ≤ length c.args.self.now.bytes.now = omega (arith, (formed c.args.self.now.bytes.now c.args.self.now.formed).long) in
    omega (arith, long)

pub slice_bounds-cmac_with-count : goal.slice_bounds-cmac_with-count
slice_bounds-cmac_with-count c =
    let long : 16 ≤ length c.args.self.now.bytes.now = omega (arith, (formed c.args.self.now.bytes.now c.args.self.now.formed).long) in
    omega (arith, long)

pub slice_bounds-cmac_with-end : goal.slice_bounds-cmac_with-end
slice_bounds-cmac_with-end c =
    let long : 16 ≤ length c.args.self.now.bytes.now = omega (arith, (formed c.args.self.now.bytes.now c.args.self.now.formed).long) in
    omega (arith, long)

pub block_at-requires : goal.block_at-requires
block_at-requires c =
    let long : 16 ≤ length c.args.self.now.bytes.now = omega (arith, (formed c.args.self.now.bytes.now c.args.self.now.formed).long) in
    omega (arith, long)
