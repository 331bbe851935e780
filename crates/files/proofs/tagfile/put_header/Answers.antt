-- The stamp, then size code and count behind it (TagFiles).
use Rattle.std.specs.Prelude.{◌∷◌, ◌++◌, ◌+◌}
use Rattle.fips197.proofs.Kit.{ap, ◌∙◌, ℕ, arith, take, drop}
use Rattle.blocks.specs.Number.{big_endian}
use Rattle.files.specs.TagFile.{tag_letters, tags_at}
use Rattle.files.proofs.TagFiles.{front_put, header_put}
use Rattle.files.proofs.tagfile.put_header.Goals as goal

pub put_front-requires : goal.put_front-requires
unfolding tags_at
put_front-requires c = omega (arith, c.requires.2)

pub put_size-requires : goal.put_size-requires
unfolding tags_at tag_letters
put_size-requires c =
    let z = front_put c.args.head c.args.out.now _ c.put_front.ensures (omega (arith, c.requires.2)) in
    omega (arith, c.requires.2, z, c.front_size.ensures.0)

pub returns : goal.returns
unfolding tag_letters
returns c =
    header_put c.args.head c.args.out.now c.put_front.new.out c.put_front.ensures _
    (c.put_size.ensures
    ∙ ap (λ (k : ℕ). take k c.put_front.new.out ++ ((c.args.head.code ∷ big_endian 2 c.args.head.count) ++ drop (k + 3) c.put_front.new.out)) c.front_size.ensures.0)
