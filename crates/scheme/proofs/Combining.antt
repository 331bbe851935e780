-- Request 2.10. What Replace wrote, on any file that it accepts, is the file of that file's sums with both hashes added (Replacing), so that a
-- second call finds these sums in it; and sums combine as hashes do under XOR. A run on an unaltered file, with the old items as premise, keeps it
-- the unaltered file of the items as they are by then.
use Rattle.std.specs.Prelude.{◌≡◌, ◌∷◌, ◌++◌, ◌≤◌, if◌then◌else◌}
use Rattle.fips197.proofs.Kit.{refl, sym, ap, ap₂, ◌∙◌, Bool, true, false, List, [], ℕ, arith, eqb, length, take, drop, take_at}
use Rattle.blocks.specs.Block.{Bytes}
use Rattle.incidence.proofs.Sums.{row_sum-same}
use Rattle.sizes.specs.Sizes.{family_of}
use Rattle.files.specs.Refusals.{Refusal}
use Rattle.files.specs.Refusals.{none, passes, first}
use Rattle.files.specs.Message.{refuse8}
use Rattle.files.specs.declared.tagfile.Head.{Head}
use Rattle.files.specs.TagFile.{file_size, count_of, head_of, count_fits, refuse6, refuse20}
use Rattle.files.specs.Arguments.{refuse1, refuse7, refuse9}
use Rattle.files.proofs.Passing.{given}
use Rattle.keyed.specs.Keyed.{item_hash}
use Rattle.tagging.specs.declared.Keys.{Keys}
use Rattle.tagging.specs.Tagging.{keys_in, hashes, tag_sum, file_of, tag_file}
use Rattle.tagging.proofs.Writing.{file-same, file-length}
use Rattle.checks.specs.Refused.{replace_refusal}
use Rattle.checks.specs.Passed.{Replaceable}
use Rattle.checks.proofs.Checking.{replaceable}
use Rattle.scheme.specs.Calls.{sum_tagged, replaced_item, replace_writes}
use Rattle.scheme.specs.Claim.{Unaltered}
use Rattle.scheme.specs.Replacements.{both_added, new_file, Combines, Run}
use Rattle.scheme.proofs.FromSums.{Layable, head-said, laid_accepted, own_layable, own_sums}
use Rattle.scheme.proofs.Unaltered.{KeyBlocks, key_blocks, head_is}
use Rattle.scheme.proofs.Replacing.{replace_not_refused, room_alone, seal_right, replaced_both, added_layable, replaced_of_sums, sums-onward, sums_same, sums_swap}
use Rattle.scheme.proofs.Guarantees.{replace_passes, replace_afresh, old_unnoticed}

-- ---- one call after another, on a file that is accepted

-- two files that say the same and that are both accepted are refused alike
refused_alike : (keys g f : List ℕ) → head_of g ≡ head_of f → refuse6 g ≡ refuse6 f → refuse20 (keys_in keys).seal g ≡ refuse20 (keys_in keys).seal f
    → (i : ℕ) (before after : List ℕ) (room : ℕ) → replace_refusal keys g i before after room ≡ replace_refusal keys f i before after room
unfolding replace_refusal head_of
refused_alike keys g f e e6 e20 i before after room = λ t.
    first (refuse1 (length keys) ∷ e6 t ∷ e20 t ∷ refuse8 (e t).count i ∷ refuse9 (length before) 1 ∷ refuse9 (length after) 2
    ∷ refuse7 (file_size (e t)) room ∷ [])

-- what a call writes, by the sums of the file's tags with both hashes added
writes_both : (keys f : List ℕ) (j : ℕ) (old new out : List ℕ) → replace_writes keys f j old new out
    ≡ (if passes (replace_refusal keys f j old new (length out))
    then file_of (keys_in keys) (head_of f) (both_added (keys_in keys) (head_of f) j old new (sum_tagged (keys_in keys) f)) ++ drop (file_size (head_of f)) out else out)
unfolding replace_writes
writes_both keys f j old new out =
    ap (λ (x : ℕ → List ℕ). if passes (replace_refusal keys f j old new (length out)) then file_of (keys_in keys) (head_of f) x ++ drop (file_size (head_of f)) out else out)
    (replaced_both (keys_in keys) f j old new)

-- a call that is not refused
module _ (keys f : List ℕ) (b : Bytes keys) (fb : Bytes f) (j : ℕ) (old new out : List ℕ) (o : Bytes old) (n : Bytes new)
    (z : (replace_refusal keys f j old new (length out)).number ≡ 0) where
  abbrev K : Keys
  K = keys_in keys

  abbrev h : Head
  h = head_of f

  abbrev sum : ℕ → List ℕ
  sum = sum_tagged K f

  R : Replaceable keys f j old new (length out)
  R = replaceable keys f j old new (length out) _ refl z

  B : KeyBlocks K
  B = key_blocks keys b R.keys48

  -- f is the file of its sums
  L : Layable h sum
  L = own_layable K B f fb R.file (seal_right keys f j old new (length out) z)

  f_is : f ≡ file_of K h sum
  f_is = own_sums K B f fb R.file (seal_right keys f j old new (length out) z)

  -- and what was written that of the sums with both hashes added
  abbrev added : ℕ → List ℕ
  added = both_added K h j old new sum

  LA : Layable h added
  LA = added_layable K B h sum L j old new o n

  g : List ℕ
  g = new_file f (replace_writes keys f j old new out)

  g_is : g ≡ file_of K h added
  unfolding g new_file
  g_is =
      ap (take (file_size h))
      (writes_both keys f j old new out
      ∙ sym (given _ (replace_refusal keys f j old new (length out)) refl (file_of K h added ++ drop (file_size h) out) out z))
      ∙ take_at (file_of K h added) (drop (file_size h) out) (file_size h) (file-length K h added B.tag.long B.seal.long)

  -- "the sheet that Replace wrote is accepted", and says what f says
  pub wrote_head : head_of (new_file f (replace_writes keys f j old new out)) ≡ head_of f
  unfolding g
  wrote_head = ap head_of g_is ∙ head-said K B h added LA

  pub wrote_accepted : (refuse6 (new_file f (replace_writes keys f j old new out)) ≡ none) × (refuse20 (keys_in keys).seal (new_file f (replace_writes keys f j old new out)) ≡ none)
  unfolding g
  wrote_accepted =
      let a = laid_accepted K B h added LA in
      (ap refuse6 g_is ∙ a.0, ap (refuse20 K.seal) g_is ∙ a.1)

  wrote_refusals : (i : ℕ) (before after : List ℕ) (room : ℕ) → replace_refusal keys g i before after room ≡ replace_refusal keys f i before after room
  unfolding g
  wrote_refusals =
      let a = laid_accepted K B h sum L in
      refused_alike keys g f wrote_head (wrote_accepted.0 ∙ sym (ap refuse6 f_is ∙ a.0)) (wrote_accepted.1 ∙ sym (ap (refuse20 K.seal) f_is ∙ a.1))

  -- what a second call writes, in terms of f and its sums
  second_writes : (i : ℕ) (before after to : List ℕ) → replace_writes keys g i before after to
      ≡ (if passes (replace_refusal keys f i before after (length to)) then file_of K h (both_added K h i before after added) ++ drop (file_size h) to else to)
  second_writes i before after to =
      ap (λ (x : List ℕ). replace_writes keys x i before after to) g_is
      ∙ replaced_of_sums keys B h added LA i before after to
      ∙ ap (λ (r : Refusal). if passes r then file_of K h (both_added K h i before after added) ++ drop (file_size h) to else to)
      (ap (λ (x : List ℕ). replace_refusal keys x i before after (length to)) (sym g_is) ∙ wrote_refusals i before after (length to))

  onward-refusals : (next : List ℕ) (room : ℕ) → replace_refusal keys f j new next room ≡ replace_refusal keys f j old next room
  onward-refusals next room = old_unnoticed keys f j new old next room R.short_new R.short_old

  onwards : (next to : List ℕ) → replace_writes keys g j new next to ≡ replace_writes keys f j old next to
  onwards next to =
      second_writes j new next to
      ∙ ap₂ (λ (r : Refusal) (x : List ℕ). if passes r then x ++ drop (file_size h) to else to) (onward-refusals next (length to))
      (file-same K h _ _ (λ k l u. sums-onward K B h sum k (L.blocks k l u) j old new next o n))
      ∙ sym (writes_both keys f j old next to)

  -- "B back to A": onward to A itself, and both hashes of A are gone
  backs : (to : List ℕ) → (replace_refusal keys g j new old (length to)).number ≡ 0 → replace_writes keys g j new old to ≡ f ++ drop (length f) to
  backs to q =
      onwards old to ∙ writes_both keys f j old old to
      ∙ sym (given _ _ (wrote_refusals j new old (length to) ∙ onward-refusals old (length to)) (file_of K h (both_added K h j old old sum) ++ drop (file_size h) to) to q)
      ∙ ap₂ (λ (x : List ℕ) (m : ℕ). x ++ drop m to) (file-same K h _ _ (λ k l u. sums_same K B h sum k (L.blocks k l u) j old o) ∙ sym f_is) (sym R.file.size)

  -- where the file has the number, the items are short enough and the buffer has room, a second call is not refused
  pub second_passes : (i : ℕ) → 1 ≤ i → i ≤ count_of f → (before after : List ℕ) (room : ℕ) → length before ≤ 1024 → length after ≤ 1024 → file_size (head_of f) ≤ room
      → replace_refusal keys (new_file f (replace_writes keys f j old new out)) i before after room ≡ none
  unfolding g
  second_passes i low high before after room lb la r =
      let a = laid_accepted K B h sum L in
      wrote_refusals i before after room
      ∙ replace_not_refused keys f R.keys48 (ap refuse6 f_is ∙ a.0) (ap (refuse20 K.seal) f_is ∙ a.1) i low high before after room lb la r

-- Request 2.10, of every call that is not refused.
pub combines : (keys f : List ℕ) → Bytes keys → Bytes f → (j : ℕ) (old new out : List ℕ) → Bytes old → Bytes new → (replace_refusal keys f j old new (length out)).number ≡ 0
    → Combines keys f j old new (new_file f (replace_writes keys f j old new out))
unfolding g
combines keys f b fb j old new out o n z = record {
  head = wrote_head keys f b fb j old new out o n z;
  refusals = wrote_refusals keys f b fb j old new out o n z;
  onward = onwards keys f b fb j old new out o n z;
  back = backs keys f b fb j old new out o n z;
  either_order = λ i before after spare to bb ba y.
      second_writes keys f b fb j old new out o n z i before after to
      ∙ ap₂ (λ (r : Refusal) (x : List ℕ). if passes r then x ++ drop (file_size (head_of f)) to else to)
      (room_alone keys f i before after (length spare) y (length to) ∙ sym (room_alone keys f j old new (length out) z (length to)))
      (file-same (keys_in keys) (head_of f) _ _ (λ k l u. sums_swap (keys_in keys) (head_of f) (sum_tagged (keys_in keys) f) k j i old new before after))
      ∙ sym (second_writes keys f b fb i before after spare bb ba y j old new to);
}

-- ---- a run on an unaltered file

-- files of the same items
same-file : (K : Keys) (h : Head) (items other : ℕ → List ℕ) → ((j : ℕ) → 1 ≤ j → j ≤ h.count → items j ≡ other j) → tag_file K h items ≡ tag_file K h other
unfolding tag_file tag_sum hashes
same-file K h items other e =
    file-same K h _ _ (λ k l u. row_sum-same (family_of h.code) (hashes K h.stamp items) (hashes K h.stamp other) h.count ((family_of h.code).row_of_tag k)
    (λ j a c on. ap (item_hash K.item h.stamp j) (e j a c)))

module _ (keys : List ℕ) (b : Bytes keys) (h : Head) (fit : count_fits h.code h.count ≡ true) where
  -- one call more
  module _ (items : ℕ → List ℕ) (g : List ℕ) (U : Unaltered (keys_in keys) h items g) (j : ℕ) (new out : List ℕ) (nb : Bytes new)
      (z : (replace_refusal keys g j (items j) new (length out)).number ≡ 0) where
    step_bytes : (i : ℕ) → 1 ≤ i → i ≤ h.count → Bytes (replaced_item items j new i)
    unfolding replaced_item
    step_bytes i l u = go (eqb i j)
      where
        go : (t : Bool) → Bytes (if t then new else items i)
        go true = nb
        go false = U.bytes i l u

    step_file : new_file g (replace_writes keys g j (items j) new out) ≡ tag_file (keys_in keys) h (replaced_item items j new)
    unfolding new_file tag_file head_of
    step_file =
        let K = keys_in keys in
        let R = replaceable keys g j (items j) new (length out) _ refl z in
        let B = key_blocks keys b R.keys48 in
        let says = ap head_of U.file ∙ head_is K B h U.stamped fit items U.bytes in
        let count = ap (λ (x : Head). x.count) says in
        let size = ap file_size says in
        ap₂ take size
        (ap (λ (x : List ℕ). replace_writes keys x j (items j) new out) U.file
        ∙ replace_afresh keys b R.keys48 h U.stamped fit items U.bytes j R.low (omega (arith, R.high)) new out
        (replace_passes keys b R.keys48 h U.stamped fit items U.bytes j R.low (omega (arith, R.high)) new (items j) (length out) R.short_old R.short_new (omega (arith, R.fits))))
        ∙ take_at (tag_file K h (replaced_item items j new)) (drop (file_size h) out) (file_size h) (file-length K h _ B.tag.long B.seal.long)

    step : Unaltered (keys_in keys) h (replaced_item items j new) (new_file g (replace_writes keys g j (items j) new out))
    step = record { stamped = U.stamped; bytes = step_bytes; file = step_file }

  module _ (first : ℕ → List ℕ) (f : List ℕ) (U : Unaltered (keys_in keys) h first f) where
    -- The file after a run is the unaltered file of the items after it: all that is said of unaltered files holds of it.
    pub run_unaltered : (items : ℕ → List ℕ) (g : List ℕ) → Run keys first f items g → Unaltered (keys_in keys) h items g
    run_unaltered items g Run.begun = U
    run_unaltered items g (Run.replaced before last run j new out nb z) = step before last (run_unaltered before last run) j new out nb z

    -- So two runs that come to the same items come to the same bytes.
    pub runs_agree : (items other : ℕ → List ℕ) (g g' : List ℕ) → Run keys first f items g → Run keys first f other g'
        → ((j : ℕ) → 1 ≤ j → j ≤ h.count → items j ≡ other j) → g ≡ g'
    runs_agree items other g g' r r' e =
        (run_unaltered items g r).file ∙ same-file (keys_in keys) h items other e ∙ sym (run_unaltered other g' r').file

    -- It can always go on: with any number among the items, a new item that is short enough, and room.
    pub run_goes_on : length keys ≡ 48 → (items : ℕ → List ℕ) (g : List ℕ) → Run keys first f items g → (j : ℕ) → 1 ≤ j → j ≤ h.count → (new : List ℕ) (room : ℕ)
        → length (items j) ≤ 1024 → length new ≤ 1024 → file_size h ≤ room → replace_refusal keys g j (items j) new room ≡ none
    run_goes_on k48 items g r j low high new room lo ln fits =
        let V = run_unaltered items g r in
        ap (λ (x : List ℕ). replace_refusal keys x j (items j) new room) V.file
        ∙ replace_passes keys b k48 h V.stamped fit items V.bytes j low high new (items j) room lo ln fits
