-- The tags deciphered one after another (Filing).
use Rattle.std.specs.Prelude.{◌≡◌, ◌*◌}
use Rattle.fips197.proofs.Kit.{sym, ◌∙◌, ap, ℕ, arith, length, rules}
use Rattle.sizes.specs.Sizes.{family_of}
use Rattle.files.specs.declared.tagfile.Head.{Head}
use Rattle.files.specs.TagFile.{code_of, head_of}
use Rattle.keyed.proofs.KeyedLaws.{sums-expanded}
use Rattle.scheme.specs.Calls.{sum_tagged}
use Rattle.scheme.proofs.Filing.{tags-long, sums_read}
use Rattle.scheme.proofs.read_sums.Goals as goal

pub write_sums-requires : goal.write_sums-requires
unfolding head_of
write_sums-requires c =
    let tags-are : c.tags-n.result ≡ (family_of (code_of c.args.f.now)).tags =
    c.tags-n.ensures ∙ ap (λ (h : Head). (family_of h.code).tags) c.head_of-head.ensures.0 in
    let tags-read : length c.tags_in.result.now ≡ 16 * c.tags-n.result =
    ap length c.tags_in.ensures ∙ tags-long c.args.f.now c.requires.formed ∙ ap (λ (n : ℕ). 16 * n) (sym tags-are) in
    (omega (arith, tags-read), omega (arith, tags-are, c.requires.f_in_bounds))

pub returns : goal.returns
unfolding sum_tagged head_of
returns c =
    let tags-are : c.tags-n.result ≡ (family_of (code_of c.args.f.now)).tags =
    c.tags-n.ensures ∙ ap (λ (h : Head). (family_of h.code).tags) c.head_of-head.ensures.0 in
    let key-long : length c.args.keys.tag ≡ 16 = search rules in
    sums_read c.args.keys.tag c.args.f.now c.tags_in.result.now c.args.sums.now _ _ key-long c.tags_in.ensures tags-are (omega (arith, tags-are, c.requires.f_in_bounds))
    (sums-expanded c.args.keys.tag _ _ _ _ _ c.expand.ensures c.write_sums.ensures)
