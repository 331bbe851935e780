-- The rows agree by the tags' differences as Report's definition says, and so does all that is decoded from them.
use Rattle.std.specs.Prelude.{◌≡◌, ◌++◌, ◌-◌, ◌≤◌}
use Rattle.fips197.proofs.Kit.{ap, ◌∙◌, sym, List, ℕ, suc, arith, length, drop}
use Rattle.blocks.specs.Block.{slot}
use Rattle.incidence.specs.Report.{named, number_named, disagreeing, answer}
use Rattle.incidence.specs.declared.Answer.{Answer}
use Rattle.incidence.proofs.Differences.{difference_zero}
use Rattle.incidence.proofs.Rowwise.{number_named_ext, disagreeing_ext, answer_ext}
use Rattle.sizes.specs.Sizes.{family_of}
use Rattle.sizes.proofs.Laws.{lawful}
use Rattle.stamp.specs.Front.{version_of}
use Rattle.files.specs.Message.{item_count, item}
use Rattle.files.specs.TagFile.{code_of, count_of, tags_in, Formed}
use Rattle.keyed.specs.Keyed.{sum_of_tag}
use Rattle.keyed.proofs.KeyedLaws.{sum_of_tag-length}
use Rattle.sums.specs.Adding.{sum_in, Holds}
use Rattle.decoding.specs.Decoding.{agrees_from, marks_of}
use Rattle.decoding.proofs.Agreeing.{marks_ext}
use Rattle.tagging.specs.declared.Keys.{Keys}
use Rattle.tagging.specs.Tagging.{hashes, tag_sum}
use Rattle.tagging.proofs.Summing.{hashes-long}
use Rattle.scheme.specs.Calls.{stamp_in, sum_from, sum_tagged, sum_expanded, agrees, tag_difference}
use Rattle.checks.proofs.Checking.{file-code, file-count}

-- the sum had back from a tag has 16 bytes
tagged-long : (k : Keys) (f : List ℕ) → length k.tag ≡ 16 → (t : ℕ) → 1 ≤ t → length (sum_tagged k f t) ≡ 16
unfolding sum_tagged
tagged-long k f h t l =
    let e : suc (t - 1) ≡ t = omega arith in
    ap (λ (x : ℕ). length (sum_of_tag k.tag x (slot (tags_in f) (t - 1)))) (sym e) ∙ sum_of_tag-length k.tag h (t - 1) _

module _ (k : Keys) (s f z d : List ℕ) (F : Formed f) (counts : item_count s ≡ count_of f) (hi : length k.item ≡ 16) (ht : length k.tag ≡ 16)
    (H : Holds (family_of (code_of f)).tags (tag_difference k s f) z d) where
  rows_same : (i : ℕ) → 1 ≤ i → i ≤ (family_of (code_of f)).rows → agrees_from (family_of (code_of f)) d i ≡ agrees k s f i
  unfolding agrees_from agrees sum_from sum_expanded tag_sum tag_difference
  rows_same =
      let st = stamp_in (version_of f) s in
      difference_zero (family_of (code_of f)) (lawful (code_of f) (file-code f F)) (hashes k st (item s)) (hashes-long k hi st (item s)) (item_count s) (omega (arith, counts, file-count f F))
      (sum_tagged k f) (sum_in d) (λ t a b. tagged-long k f ht t a) H.sums

  pub written_as : (marks o : List ℕ) → o ≡ marks_of (named (family_of (code_of f)) (agrees_from (family_of (code_of f)) d)) (item_count s) ++ drop (item_count s) marks
      → o ≡ marks_of (named (family_of (code_of f)) (agrees k s f)) (item_count s) ++ drop (item_count s) marks
  written_as marks o e =
      e ∙ ap (λ (l : List ℕ). l ++ drop (item_count s) marks) (marks_ext (family_of (code_of f)) _ (agrees k s f) rows_same (item_count s))

  pub answer_as : (a : Answer) → a ≡ answer (family_of (code_of f)) (agrees_from (family_of (code_of f)) d) (item_count s) → a ≡ answer (family_of (code_of f)) (agrees k s f) (item_count s)
  answer_as a e = e ∙ answer_ext (family_of (code_of f)) _ (agrees k s f) rows_same (item_count s)

  pub named_as : (a : ℕ) → a ≡ number_named (family_of (code_of f)) (agrees_from (family_of (code_of f)) d) (item_count s) → a ≡ number_named (family_of (code_of f)) (agrees k s f) (item_count s)
  named_as a e = e ∙ number_named_ext (family_of (code_of f)) _ (agrees k s f) rows_same (item_count s)

  pub rows_as : (a : ℕ) → a ≡ disagreeing (agrees_from (family_of (code_of f)) d) (family_of (code_of f)).rows → a ≡ disagreeing (agrees k s f) (family_of (code_of f)).rows
  rows_as a e = e ∙ disagreeing_ext (family_of (code_of f)) _ (agrees k s f) rows_same
