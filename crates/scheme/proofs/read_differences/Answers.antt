-- The sums of the file's tags, and the message's added (Filing).
use Rattle.std.specs.Prelude.{◌≡◌}
use Rattle.fips197.proofs.Kit.{ap, ◌∙◌, ℕ, arith}
use Rattle.sizes.specs.Sizes.{family_of}
use Rattle.stamp.specs.Front.{version_of, stamp_of}
use Rattle.files.specs.declared.tagfile.Head.{Head}
use Rattle.files.specs.TagFile.{code_of, head_of}
use Rattle.scheme.specs.Calls.{stamp_in}
use Rattle.scheme.proofs.Filing.{differences-made}
use Rattle.scheme.proofs.read_differences.Goals as goal

pub read_sums-requires : goal.read_sums-requires
read_sums-requires c =
    record {
      formed = c.requires.formed;
      f_in_bounds = c.requires.f_in_bounds;
    }

pub add_items-requires : goal.add_items-requires
unfolding head_of
add_items-requires c =
    let code_is : c.head_of-head.result.code ≡ code_of c.args.f.now = ap (λ (h : Head). h.code) c.head_of-head.ensures.0 in
    record {
      s_in_bounds = (c.requires.sound.long, c.requires.sound.short, c.requires.sound.whole);
      code_in_bounds = omega (arith, c.read_sums.ensures.size, c.requires.f_in_bounds, ap (λ (x : ℕ). (family_of x).tags) code_is);
    }

pub returns : goal.returns
unfolding head_of stamp_of
returns c =
    let code_is : c.head_of-head.result.code ≡ code_of c.args.f.now = ap (λ (h : Head). h.code) c.head_of-head.ensures.0 in
    let stamp-is : c.stamp_in.result ≡ stamp_in (version_of c.args.f.now) c.args.s.now =
    c.stamp_in.ensures ∙ ap (λ (x : Head). stamp_in x.stamp.version c.args.s.now) c.head_of-head.ensures.0 in
    differences-made c.args.keys c.args.s.now c.args.f.now _ _ _ _ _ stamp-is code_is c.read_sums.ensures c.add_items.ensures
