-- The sums that a session carries: a value added to those of one item's tags; zeros leave them as they are.
use Rattle.std.specs.Prelude.{◌≡◌, ◌++◌, ◌-◌, ◌*◌, ◌≤◌, ◌<◌, if◌then◌else◌}
use Rattle.fips197.proofs.Kit.{refl, sym, ap, ◌∙◌, Bool, true, false, List, ℕ, suc, arith, length, drop, length-append, length-drop, drop_at}
use Rattle.blocks.specs.Block.{◌⊕◌, zeros, slot, list_of}
use Rattle.blocks.proofs.Xor.{⊕-length}
use Rattle.blocks.proofs.Slots.{slot-length, slot-list_of, list_of-length, list_of_ext}
use Rattle.incidence.proofs.Sums.{adds_nothing}
use Rattle.sizes.specs.Sizes.{family_of}
use Rattle.sizes.proofs.Laws.{tags_few}
use Rattle.sums.specs.Adding.{sum_in, Added}
use Rattle.tagging.proofs.Summing.{holds_is}
use Rattle.session.specs.Session.{added_to_tags}

-- the sums take at most 82 blocks
pub sums_fit : (c : ℕ) (sums : List ℕ) → length sums ≡ 1312 → 16 * (family_of c).tags ≤ length sums
sums_fit c sums h = omega (arith, tags_few c)

-- the array is the one that `added_to_tags` gives
pub added_is : (c j : ℕ) (value before after : List ℕ) → length before ≡ 1312
    → Added (λ t. (family_of c).on ((family_of c).row_of_tag t) j) (family_of c).tags value before after → after ≡ added_to_tags c j value before
unfolding added_to_tags sum_in
added_is c j value before after h A =
    let F = family_of c in
    holds_is F.tags _ before after A (sums_fit c before h)
    ∙ ap (λ (l : List ℕ). l ++ drop (16 * F.tags) before)
    (list_of_ext _ _ F.tags (λ k l.
    let z : suc k - 1 ≡ k = omega arith in
    ap (λ (m : ℕ). if F.on (F.row_of_tag (suc k)) j then slot before m ⊕ value else slot before m) z))

-- and that array has the value added, and nothing else
module _ (c j : ℕ) (value sums : List ℕ) (v : length value ≡ 16) (s : length sums ≡ 1312) where
  block : ℕ → List ℕ
  block k = if (family_of c).on ((family_of c).row_of_tag (suc k)) j then slot sums k ⊕ value else slot sums k

  block-length : (k : ℕ) → k < (family_of c).tags → length (block k) ≡ 16
  unfolding block
  block-length k l =
      let z : length (slot sums k) ≡ 16 = slot-length sums k (omega (arith, sums_fit c sums s)) in
      go ((family_of c).on ((family_of c).row_of_tag (suc k)) j) z
    where
      go : (t : Bool) → length (slot sums k) ≡ 16 → length (if t then slot sums k ⊕ value else slot sums k) ≡ 16
      go true z = ⊕-length (slot sums k) value (omega arith) ∙ z
      go false z = z

  pub tags_added : Added (λ t. (family_of c).on ((family_of c).row_of_tag t) j) (family_of c).tags value sums (added_to_tags c j value sums)
  unfolding added_to_tags block sum_in
  tags_added =
      let F = family_of c in
      let m = F.tags in
      let l = list_of-length block m block-length in
      let f = sums_fit c sums s in
      record {
        size = length-append (list_of block m) (drop (16 * m) sums) ∙ simp length-drop (omega (arith, l, f));
        sums = λ t lo hi.
            let e : suc (t - 1) ≡ t = omega arith in
            slot-list_of block m (drop (16 * m) sums) block-length (t - 1) (omega arith)
            ∙ ap (λ (x : ℕ). if F.on (F.row_of_tag x) j then slot sums (t - 1) ⊕ value else slot sums (t - 1)) e;
        rest = drop_at (list_of block m) (drop (16 * m) sums) (16 * m) l;
      }

pub zeros_added : (c j : ℕ) (sums : List ℕ) → length sums ≡ 1312 → added_to_tags c j (zeros 16) sums ≡ sums
unfolding sum_in
zeros_added c j sums h =
    let F = family_of c in
    sym (added_is c j (zeros 16) sums sums h
    (record {
      size = refl;
      sums = λ t l u. sym (adds_nothing (F.on (F.row_of_tag t) j) (slot sums (t - 1)) (zeros 16) (slot-length sums (t - 1) (omega (arith, sums_fit c sums h))) (λ e. refl));
      rest = refl;
    }))
