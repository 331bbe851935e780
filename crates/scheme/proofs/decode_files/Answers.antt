-- The size code and the count are those of the files.
use Rattle.std.specs.Prelude.{◌≡◌, ◌++◌}
use Rattle.fips197.proofs.Kit.{ap, ap₂, ◌∙◌, ℕ, arith, drop}
use Rattle.incidence.specs.Report.{named, number_named, disagreeing, answer}
use Rattle.sizes.specs.Sizes.{known, family_of}
use Rattle.files.specs.declared.tagfile.Head.{Head}
use Rattle.files.specs.TagFile.{code_of, head_of}
use Rattle.decoding.specs.Decoding.{agrees_from, marks_of}
use Rattle.checks.proofs.Checking.{file-code, file-count}
use Rattle.scheme.proofs.decode_files.Goals as goal

pub decode_tags-requires : goal.decode_tags-requires
unfolding head_of
decode_tags-requires c =
    let code_is : c.head_of-head.result.code ≡ code_of c.args.f.now = ap (λ (h : Head). h.code) c.head_of-head.ensures.0 in
    record {
      code_value = ap known code_is ∙ file-code _ c.requires.formed;
      n_bound = (omega (arith, c.item_count.ensures.0, c.requires.s_value.0, file-count _ c.requires.formed, ap (λ (x : ℕ). (family_of x).items) code_is), omega (arith, c.item_count.ensures.0, c.requires.s_value.1));
      code_in_bounds = omega (arith, c.requires.f_in_bounds, ap (λ (x : ℕ). (family_of x).rows) code_is);
    }

pub returns : goal.returns
unfolding head_of
returns c =
    let code_is : c.head_of-head.result.code ≡ code_of c.args.f.now = ap (λ (h : Head). h.code) c.head_of-head.ensures.0 in
    let a = c.args in
    record {
      written = c.decode_tags.ensures.written ∙ ap₂ (λ (x y : ℕ). marks_of (named (family_of x) (agrees_from (family_of x) a.sums.now)) y ++ drop y a.marks.now) code_is c.item_count.ensures.0;
      answer = c.decode_tags.ensures.answer ∙ ap₂ (λ (x y : ℕ). answer (family_of x) (agrees_from (family_of x) a.sums.now) y) code_is c.item_count.ensures.0;
      named = c.decode_tags.ensures.named ∙ ap₂ (λ (x y : ℕ). number_named (family_of x) (agrees_from (family_of x) a.sums.now) y) code_is c.item_count.ensures.0;
      rows = c.decode_tags.ensures.rows ∙ ap (λ (x : ℕ). disagreeing (agrees_from (family_of x) a.sums.now) (family_of x).rows) code_is;
    }
