-- The part behind the first n bytes comes back with their MAC in front.
use Rattle.std.specs.Prelude.{◌≡◌, ◌++◌, ◌+◌, ◌-◌}
use Rattle.fips197.proofs.Kit.{ap, ◌∙◌, List, ℕ, arith, take, drop}
use Rattle.cipher.specs.Cmac.{cmac}
use Rattle.blocks.proofs.Loop.{part_back}
use Rattle.files.proofs.tagfile.seal.Goals as goal

pub returns : goal.returns
returns c =
    let o = c.args.out.now in
    let n = c.args.n in
    let z : n - 0 ≡ n = omega arith in
    part_back o c.put.new.out c.cmac_with-mac.result n 16 c.requires.n_in_bounds c.put.ensures
    ∙ ap (λ (t : List ℕ). take n o ++ (t ++ drop (n + 16) o))
    (c.cmac_with-mac.ensures ∙ ap (λ (k : ℕ). cmac c.args.key (take k o)) z)
