-- The bytes before the tags, the tags and the MAC.
use Rattle.std.specs.Prelude.{◌≤◌}
use Rattle.fips197.proofs.Kit.{arith}
use Rattle.sizes.proofs.Laws.{tags_few}
use Rattle.files.specs.TagFile.{file_size}
use Rattle.files.proofs.tagfile.file_size.Goals as goal

pub overflow_mul-result : goal.overflow_mul-result
unfolding file_size
overflow_mul-result c =
    let few : c.tags.result ≤ 82 = omega (arith, c.tags.ensures, tags_few c.args.head.code) in
    omega (arith, few)

pub overflow_add-result : goal.overflow_add-result
unfolding file_size
overflow_add-result c =
    let few : c.tags.result ≤ 82 = omega (arith, c.tags.ensures, tags_few c.args.head.code) in
    omega (arith, few, c.tags_at.ensures.1)

pub overflow_add-result-2 : goal.overflow_add-result-2
unfolding file_size
overflow_add-result-2 c =
    let few : c.tags.result ≤ 82 = omega (arith, c.tags.ensures, tags_few c.args.head.code) in
    omega (arith, few, c.tags_at.ensures.1)

pub returns : goal.returns
unfolding file_size
returns c =
    let few : c.tags.result ≤ 82 = omega (arith, c.tags.ensures, tags_few c.args.head.code) in
    (omega (arith, few, c.tags.ensures, c.tags_at.ensures), omega (arith, few, c.tags_at.ensures.1))
