-- Three stores, the count as to_be16 gives it.
use Rattle.std.specs.Prelude.{◌≡◌, ◌∷◌, ◌++◌, ◌+◌}
use Rattle.fips197.proofs.Kit.{◌∙◌, [], append_assoc, suc, add-one, arith, get_or, set, take, drop, length-set, sets-eq}
use Rattle.blocks.specs.Number.{big_endian}
use Rattle.files.proofs.tagfile.put_size.Goals as goal

pub returns : goal.returns
unfolding big_endian
returns c =
    let o = c.args.out.now in
    let at = c.args.at in
    let r = c.to_be16-n.result in
    let e1 = add-one at in
    let e2 : at + 2 ≡ suc (suc at) = omega arith in
    (λ i. set (set (set o at c.args.code) (e1 i) (get_or r 0 0)) (e2 i) (get_or r 1 0))
    ∙ sets-eq (c.args.code ∷ get_or r 0 0 ∷ get_or r 1 0 ∷ []) o at c.requires
    ∙ (λ i. (take at o ++ (c.args.code ∷ get_or (c.to_be16-n.ensures i) 0 0 ∷ get_or (c.to_be16-n.ensures i) 1 0 ∷ [])) ++ drop (at + 3) o)
    ∙ append_assoc (take at o) (c.args.code ∷ big_endian 2 c.args.count) (drop (at + 3) o)

pub bounds-out-at-2 : goal.bounds-out-at-2
bounds-out-at-2 c = simp length-set (omega arith)

pub bounds-out-at-3 : goal.bounds-out-at-3
bounds-out-at-3 c = simp length-set (omega arith)
