-- The tags of the sums, compared with those of the file (Filing).
use Rattle.std.specs.Prelude.{◌≡◌, ◌*◌, ◌≤◌}
use Rattle.fips197.proofs.Kit.{refl, ap, ap₂, ◌∙◌, arith, length}
use Rattle.blocks.specs.Block.{same, zeros}
use Rattle.sizes.specs.Sizes.{family_of}
use Rattle.sizes.proofs.Laws.{tags_few}
use Rattle.stamp.specs.Front.{version_of, stamp_of}
use Rattle.files.specs.declared.tagfile.Head.{Head}
use Rattle.files.specs.TagFile.{code_of, head_of}
use Rattle.files.specs.Message.{item_count, item}
use Rattle.keyed.proofs.KeyedLaws.{tags-expanded}
use Rattle.tagging.specs.Tagging.{tag_sum}
use Rattle.tagging.proofs.Summing.{zero_sums, summed_zeros, tag_sum-length}
use Rattle.scheme.specs.Calls.{stamp_in}
use Rattle.scheme.proofs.Filing.{same_is, written_long, tags_written, tag_key_long, item_key_long}
use Rattle.std.proofs.lemmas.Bool.Decides.{Decides-eqb}
use Rattle.std.proofs.lemmas.Slice.Eq.{slice_eq-Decides}
use Rattle.scheme.proofs.tags_equal.Goals as goal

pub add_items-requires : goal.add_items-requires
unfolding head_of
add_items-requires c =
    let code_is : c.head_of-head.result.code ≡ code_of c.args.f.now = ap (λ (h : Head). h.code) c.head_of-head.ensures.0 in
    let few : 16 * c.tags-n.result ≤ 1312 = omega (arith, c.tags-n.ensures, tags_few c.head_of-head.result.code) in
    record {
      s_in_bounds = (c.requires.comparable.message.long, c.requires.comparable.message.short, c.requires.comparable.message.whole);
      code_in_bounds = omega (arith, few, c.tags-n.ensures);
    }

pub write_tags-requires : goal.write_tags-requires
write_tags-requires c =
    let few : 16 * c.tags-n.result ≤ 1312 = omega (arith, c.tags-n.ensures, tags_few c.head_of-head.result.code) in
    (omega (arith, few, c.add_items.ensures.size), few)

pub slice_bounds-eq-end : goal.slice_bounds-eq-end
slice_bounds-eq-end c =
    let few : 16 * c.tags-n.result ≤ 1312 = omega (arith, c.tags-n.ensures, tags_few c.head_of-head.result.code) in
    let key-long : length c.keys_in-k.result.tag ≡ 16 =
    tag_key_long c.keys_in-k.result _ c.keys_in-k.ensures c.requires.comparable.keys48 in
    let e = tags-expanded c.keys_in-k.result.tag _ _ _ _ _ c.expand.ensures c.write_tags.ensures in
    omega (arith, few, written_long c.keys_in-k.result.tag _ (zeros 1312) _ _ key-long few e)

pub tags_in-requires : goal.tags_in-requires
tags_in-requires c =
    c.requires.comparable.file.long

pub returns : goal.returns
unfolding head_of stamp_of
returns c =
    let code_is : c.head_of-head.result.code ≡ code_of c.args.f.now = ap (λ (h : Head). h.code) c.head_of-head.ensures.0 in
    let few : 16 * c.tags-n.result ≤ 1312 = omega (arith, c.tags-n.ensures, tags_few c.head_of-head.result.code) in
    let stamp-is : c.stamp_in.result ≡ stamp_in (version_of c.args.f.now) c.args.s.now =
    c.stamp_in.ensures ∙ ap (λ (x : Head). stamp_in x.stamp.version c.args.s.now) c.head_of-head.ensures.0 in
    let key-long : length c.keys_in-k.result.tag ≡ 16 =
    tag_key_long c.keys_in-k.result _ c.keys_in-k.ensures c.requires.comparable.keys48 in
    let e = tags-expanded c.keys_in-k.result.tag _ _ _ _ _ c.expand.ensures c.write_tags.ensures in
    let g = c.head_of-head.result in
    let st = c.stamp_in.result in
    let sums = summed_zeros (family_of g.code).tags (tag_sum c.keys_in-k.result st g.code (item c.args.s.now) (item_count c.args.s.now)) _ _
    (λ i l u. zero_sums 1312 i l (omega (arith, few, c.tags-n.ensures)))
    (tag_sum-length c.keys_in-k.result st g.code (item c.args.s.now) (item_count c.args.s.now) (item_key_long c.keys_in-k.result _ c.keys_in-k.ensures c.requires.comparable.keys48))
    c.add_items.ensures in
    let eq = slice_eq-Decides Decides-eqb _ _ _ c.eq.ensures in
    same_is _ _ _ eq.0 eq.1
    ∙ ap₂ same
    (tags_written c.keys_in-k.result _ c.args.s.now c.args.f.now _ _ _ _ _ _ _ _ key-long c.keys_in-k.ensures stamp-is code_is c.tags-n.ensures refl sums e)
    c.tags_in.ensures

pub overflow_mul-end : goal.overflow_mul-end
overflow_mul-end c =
    let few : 16 * c.tags-n.result ≤ 1312 = omega (arith, c.tags-n.ensures, tags_few c.head_of-head.result.code) in
    omega (arith, few)
