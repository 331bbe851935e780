-- The sums of the tags, then the file of those sums (Filing).
use Rattle.std.specs.Prelude.{◌≡◌, ◌*◌, ◌≤◌}
use Rattle.fips197.proofs.Kit.{ap, ◌∙◌, true, ℕ, arith}
use Rattle.sizes.specs.Sizes.{known, family_of}
use Rattle.sizes.proofs.Laws.{tags_few}
use Rattle.files.specs.declared.tagfile.Head.{Head}
use Rattle.files.specs.Message.{item_count, item}
use Rattle.files.specs.TagFile.{file_size}
use Rattle.tagging.specs.Tagging.{tag_sum, tag_head}
use Rattle.tagging.proofs.Summing.{zero_sums, summed_zeros, tag_sum-length}
use Rattle.scheme.proofs.Filing.{tag_file_made, item_key_long}
use Rattle.scheme.proofs.write_tag_file.Goals as goal

pub add_items-requires : goal.add_items-requires
unfolding tag_head
add_items-requires c =
    let code_is : c.head_for-head.result.code ≡ c.args.code = ap (λ (h : Head). h.code) c.head_for-head.ensures in
    let few : 16 * (family_of c.head_for-head.result.code).tags ≤ 1312 =
    omega (arith, tags_few c.head_for-head.result.code) in
    let m = c.requires.message in
    record {
      s_in_bounds = (m.long, m.short, m.whole);
      code_in_bounds = few;
    }

pub write_file-requires : goal.write_file-requires
unfolding tag_head
write_file-requires c =
    let code_is : c.head_for-head.result.code ≡ c.args.code = ap (λ (h : Head). h.code) c.head_for-head.ensures in
    let count-is : c.head_for-head.result.count ≡ item_count c.args.s.now =
    ap (λ (h : Head). h.count) c.head_for-head.ensures in
    let code-known : known c.head_for-head.result.code ≡ true = ap known code_is ∙ c.requires.code in
    let few : 16 * (family_of c.head_for-head.result.code).tags ≤ 1312 =
    omega (arith, tags_few c.head_for-head.result.code) in
    record {
      code_value = code-known;
      count_bound = omega (arith, count-is, c.requires.high, ap (λ (x : ℕ). (family_of x).items) code_is);
      code_in_bounds = (omega (arith, few, c.add_items.ensures.size), omega (arith, c.requires.fits, ap file_size c.head_for-head.ensures));
    }

pub returns : goal.returns
unfolding tag_head
returns c =
    let few : 16 * (family_of c.head_for-head.result.code).tags ≤ 1312 =
    omega (arith, tags_few c.head_for-head.result.code) in
    let k = c.keys_in-k.result in
    let g = c.head_for-head.result in
    let sums = summed_zeros (family_of g.code).tags (tag_sum k g.stamp g.code (item c.args.s.now) (item_count c.args.s.now)) _ _
    (λ t l u. zero_sums 1312 t l (omega (arith, few))) (tag_sum-length k g.stamp g.code (item c.args.s.now) (item_count c.args.s.now) (item_key_long k _ c.keys_in-k.ensures c.requires.keys48))
    c.add_items.ensures in
    tag_file_made _ _ g (tag_head c.args.code c.args.s.now) (item c.args.s.now) _ _ c.args.out.now _ c.keys_in-k.ensures c.head_for-head.ensures sums c.write_file.ensures
