-- The sums of the tags, both hashes added, then the file of those sums (Filing).
use Rattle.std.specs.Prelude.{◌≡◌, ◌*◌, ◌≤◌}
use Rattle.fips197.proofs.Kit.{refl, ap, ◌∙◌, true, ℕ, arith, rules}
use Rattle.sizes.specs.Sizes.{known, family_of}
use Rattle.sizes.proofs.Laws.{tags_few}
use Rattle.files.specs.declared.tagfile.Head.{Head}
use Rattle.files.specs.TagFile.{file_size, code_of, count_of, head_of}
use Rattle.checks.proofs.Checking.{file-code, file-count}
use Rattle.tagging.proofs.Summing.{added_ready}
use Rattle.scheme.proofs.Filing.{replaced_made}
use Rattle.scheme.proofs.write_replaced.Goals as goal

-- each step leaves the array's length
pub read_sums-requires : goal.read_sums-requires
unfolding head_of
read_sums-requires c =
    let code_is : c.head_of-head.result.code ≡ code_of c.args.f.now = ap (λ (h : Head). h.code) c.head_of-head.ensures.0 in
    let few : 16 * (family_of c.head_of-head.result.code).tags ≤ 1312 =
    omega (arith, tags_few c.head_of-head.result.code) in
    record {
      formed = c.requires.replaceable.file;
      f_in_bounds = omega (arith, few, ap (λ (x : ℕ). (family_of x).tags) code_is);
    }

pub add_item-requires : goal.add_item-requires
unfolding head_of
add_item-requires c =
    let code_is : c.head_of-head.result.code ≡ code_of c.args.f.now = ap (λ (h : Head). h.code) c.head_of-head.ensures.0 in
    let few : 16 * (family_of c.head_of-head.result.code).tags ≤ 1312 =
    omega (arith, tags_few c.head_of-head.result.code) in
    record {
      code_in_bounds = omega (arith, few, c.read_sums.ensures.size);
      item_len_bound = (c.requires.replaceable.short_old, search rules);
    }

pub add_item-requires-2 : goal.add_item-requires-2
unfolding head_of
add_item-requires-2 c =
    let code_is : c.head_of-head.result.code ≡ code_of c.args.f.now = ap (λ (h : Head). h.code) c.head_of-head.ensures.0 in
    let few : 16 * (family_of c.head_of-head.result.code).tags ≤ 1312 =
    omega (arith, tags_few c.head_of-head.result.code) in
    record {
      code_in_bounds = omega (arith, few, c.read_sums.ensures.size, c.add_item.ensures.added.size);
      item_len_bound = (omega (arith, c.requires.replaceable.short_old, c.requires.replaceable.short_new), search rules);
    }

pub write_file-requires : goal.write_file-requires
unfolding head_of
write_file-requires c =
    let code_is : c.head_of-head.result.code ≡ code_of c.args.f.now = ap (λ (h : Head). h.code) c.head_of-head.ensures.0 in
    let count-is : c.head_of-head.result.count ≡ count_of c.args.f.now =
    ap (λ (h : Head). h.count) c.head_of-head.ensures.0 in
    let code-known : known c.head_of-head.result.code ≡ true = ap known code_is ∙ file-code _ c.requires.replaceable.file in
    let few : 16 * (family_of c.head_of-head.result.code).tags ≤ 1312 =
    omega (arith, tags_few c.head_of-head.result.code) in
    record {
      code_value = code-known;
      count_bound = omega (arith, count-is, file-count _ c.requires.replaceable.file, ap (λ (x : ℕ). (family_of x).items) code_is);
      code_in_bounds = (omega (arith, few, c.read_sums.ensures.size, c.add_item.ensures.added.size, c.add_item-2.ensures.added.size), omega (arith, c.requires.replaceable.fits, ap file_size c.head_of-head.ensures.0));
    }

pub returns : goal.returns
returns c =
    replaced_made c.keys_in-k.result _ c.args.f.now c.head_of-head.result c.args.j c.args.old.now c.args.new.now _ _ _ _ c.args.out.now _
    c.keys_in-k.ensures c.head_of-head.ensures.0 c.read_sums.ensures
    (added_ready c.head_of-head.result.code c.args.j c.keys_in-k.result.item _ _ c.head_of-head.result.stamp c.args.old.now _ _ c.prepare-m.ensures refl c.add_item.ensures.added)
    (added_ready c.head_of-head.result.code c.args.j c.keys_in-k.result.item _ _ c.head_of-head.result.stamp c.args.new.now _ _ c.prepare-m.ensures refl c.add_item-2.ensures.added)
    c.write_file.ensures
