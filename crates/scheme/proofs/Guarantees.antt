-- What follows from the definitions of the calls, for a reader who wants to know what they are good for: Tag's file is accepted and
-- verified, a report against an unaltered file of any version is not refused, but by 25 where the numbers differ, nor is a second one against
-- the file of a first, Replace is tagging afresh, demand 3 is met by no report that names every item, none, or says "beyond" of an unchanged
-- message, and what the number of rows tells.
use Rattle.std.specs.Prelude.{◌≡◌, ◌∷◌, ◌++◌, ◌↔◌, ◌+◌, ◌*◌, ◌≤◌, ◌<◌, if◌then◌else◌}
use Rattle.fips197.proofs.Kit.{refl, sym, ap, ◌∙◌, Bool, true, false, not, List, [], ℕ, suc, arith, length, drop, eq-eqb, ne_eqb, le-leb, lt-ltb}
use Rattle.blocks.specs.Block.{Bytes, ◌⊕◌, same, list_of}
use Rattle.blocks.proofs.Xor.{same_true, same_eq, take-bytes, drop-bytes, ⊕_assoc}
use Rattle.incidence.specs.Count.{count_up_to}
use Rattle.incidence.specs.Family.{Family}
use Rattle.incidence.specs.Sum.{row_sum}
use Rattle.incidence.specs.declared.Answer.{Answer}
use Rattle.incidence.specs.declared.Answer.TheVariants.{Intact, Beyond}
use Rattle.incidence.proofs.Booleans.{not_both, and_both}
use Rattle.incidence.proofs.Counting.{Found, found, count_none}
use Rattle.incidence.proofs.Sums.{row_sum-same, row_sum_change}
use Rattle.incidence.proofs.Rejects as rejects
use Rattle.sizes.specs.Sizes.{plane_code, family_of}
use Rattle.sizes.proofs.Laws.{plane-limit}
use Rattle.stamp.specs.declared.Stamp.{Stamp}
use Rattle.stamp.specs.Front.{number_size, stamp_fits, version_of, stamp_of}
use Rattle.stamp.proofs.Fronts.{number_small}
use Rattle.files.specs.Refusals.{Refusal}
use Rattle.files.specs.Refusals.{refusal, none, unless, first}
use Rattle.files.specs.Message.{items_at, item_count, item, item_start, item_size, refuse3, refuse5, refuse8}
use Rattle.files.specs.declared.tagfile.Head.{Head}
use Rattle.files.specs.TagFile.{newest_tag_file, stamp_for, file_size, code_of, count_of, head_of, tags_in, count_fits, refuse6, refuse20}
use Rattle.files.specs.Arguments.{refuse1, refuse7, refuse9}
use Rattle.files.proofs.Passing.{first_here, first_later, first-none, rest-passes, unless_true, unless_false, given}
use Rattle.files.proofs.Accepted.{plain6, plain20}
use Rattle.keyed.specs.Keyed.{item_hash, tag_of}
use Rattle.tagging.specs.Tagging.{keys_in, hashes, tag_sum, file_of, tag_file, tag_head}
use Rattle.tagging.proofs.Writing.{file-same}
use Rattle.checks.specs.Refused.{refuse21, refuse25, tag_refusal, verify_refusal, report_refusal, replace_refusal}
use Rattle.scheme.specs.Calls.{stamp_in, tags_for, verify_yes, sum_tagged, replaced_sum, replaced_item, replace_writes}
use Rattle.scheme.specs.Claim.{Unaltered, changed, marked, NoneCancels, Claim, RowClaim}
use Rattle.checks.proofs.Checking.{taggable, reportable}
use Rattle.tagging.proofs.Summing.{hashes-long}
use Rattle.scheme.proofs.Unaltered.{key_blocks, head_is, tags_are, accepted, sums_back}
use Rattle.scheme.proofs.Claiming.{number-says}

-- ---- nothing is refused

-- keys, message and file that pass each check by itself
module _ (keys s f : List ℕ) (h : length keys ≡ 48) (a : refuse3 s ≡ none) (b : refuse5 s ≡ none) (d : refuse6 f ≡ none) (e : refuse20 (keys_in keys).seal f ≡ none)
    (g : item_count s ≡ count_of f) where
  -- all but the last
  verify_last : verify_refusal keys s f ≡ first (refuse25 s f ∷ [])
  unfolding verify_refusal refuse1 refuse21
  verify_last =
      first_later (refuse1 (length keys)) _ (unless_true _ 1 0 (eq-eqb (length keys) 48 h))
      ∙ first_later (refuse3 s) _ a ∙ first_later (refuse5 s) _ b ∙ first_later (refuse6 f) _ d ∙ first_later (refuse20 (keys_in keys).seal f) _ e
      ∙ first_later (refuse21 s f) _ (unless_true _ 21 0 (eq-eqb (item_count s) (count_of f) g))

  verify_passes : (stamp_of s).number ≡ (stamp_of f).number → verify_refusal keys s f ≡ none
  unfolding refuse25
  verify_passes n = verify_last ∙ first-none (refuse25 s f) (unless_true _ 25 0 (eq-eqb (stamp_of s).number (stamp_of f).number n))

  -- and with room for the marks
  pub report_not_refused : (room : ℕ) → (stamp_of s).number ≡ (stamp_of f).number → item_count s ≤ room → report_refusal keys s f room ≡ none
  unfolding report_refusal refuse7
  report_not_refused room n r =
      first_later _ _ (verify_passes n) ∙ first-none (refuse7 (item_count s) room) (unless_true _ 7 0 (le-leb (item_count s) room r))

  verify_differs : ((stamp_of s).number ≡ (stamp_of f).number → ⊥) → verify_refusal keys s f ≡ refusal 25 0
  unfolding refuse25
  verify_differs n =
      verify_last ∙ ap (λ (r : Refusal). first (r ∷ [])) (unless_false _ 25 0 (ne_eqb (stamp_of s).number (stamp_of f).number n))
      ∙ first_here (refusal 25 0) [] (λ (z : 25 ≡ 0). omega arith)

-- where Verify refuses nothing, the file by itself is not refused
file_accepted : (keys s f : List ℕ) → (verify_refusal keys s f).number ≡ 0 → (refuse6 f ≡ none) × (refuse20 (keys_in keys).seal f ≡ none)
unfolding verify_refusal
file_accepted keys s f z =
    let a = rest-passes _ _ z in
    let b = rest-passes _ _ a.1 in
    let c = rest-passes _ _ b.1 in
    let d = rest-passes _ _ c.1 in
    (plain6 f d.0, plain20 (keys_in keys).seal f (rest-passes _ _ d.1).0)

-- Where one report is not refused, neither is another against that file on a message of the same count and number.
pub other_not_refused : (keys s t f : List ℕ) (room other : ℕ) → (report_refusal keys s f room).number ≡ 0 → refuse3 t ≡ none → refuse5 t ≡ none
    → item_count t ≡ item_count s → (stamp_of t).number ≡ (stamp_of s).number → item_count t ≤ other → report_refusal keys t f other ≡ none
unfolding report_refusal
other_not_refused keys s t f room other z p q as_many number fits =
    let R = reportable keys s f room _ refl z in
    let a = file_accepted keys s f (rest-passes _ _ z).0 in
    report_not_refused keys t f R.files.keys48 p q a.0 a.1 (as_many ∙ R.files.counts) other (number ∙ R.files.numbers) fits

-- ---- nothing changed

pub unchanged_self : (items : ℕ → List ℕ) (j : ℕ) → changed items items j ≡ false
unfolding changed
unchanged_self items j = ap not (same_eq (items j) (items j) refl)

-- a message none of whose items changed: none is counted, and no row cancels
module _ (s : List ℕ) (old : ℕ → List ℕ) (same : (j : ℕ) → 1 ≤ j → j ≤ item_count s → changed old (item s) j ≡ false) where
  pub nothing-changed : count_up_to (changed old (item s)) (item_count s) ≡ 0
  nothing-changed = count_none (changed old (item s)) (item_count s) (λ j l u t. not_both _ t (same j l u))

  pub nothing_cancels : (keys : List ℕ) (h : Head) → NoneCancels keys s h old
  nothing_cancels keys h i c = not_both _ c.changes (same c.at c.at_low c.at_high)

-- ---- against an unaltered file

-- a message that is not refused itself, and the unaltered file, in any version, of old items of the same count under these keys
module _ (keys s f : List ℕ) (b : Bytes keys) (k48 : length keys ≡ 48) (p : refuse3 s ≡ none) (q : refuse5 s ≡ none) (h : Head) (old : ℕ → List ℕ)
    (U : Unaltered (keys_in keys) h old f) (fit : count_fits h.code h.count ≡ true) (count : h.count ≡ item_count s) where
  says : head_of f ≡ h
  says = ap head_of U.file ∙ head_is (keys_in keys) (key_blocks keys b k48) h U.stamped fit old U.bytes

  is_accepted : (refuse6 f ≡ none) × (refuse20 (keys_in keys).seal f ≡ none)
  is_accepted =
      let a = accepted (keys_in keys) (key_blocks keys b k48) h U.stamped fit old U.bytes in
      (ap refuse6 U.file ∙ a.0, ap (refuse20 (keys_in keys).seal) U.file ∙ a.1)

  same_count : item_count s ≡ count_of f
  unfolding head_of
  same_count = sym (ap (λ (x : Head). x.count) says ∙ count)

  number_is : (stamp_of f).number ≡ h.stamp.number
  unfolding head_of
  number_is = ap (λ (x : Head). x.stamp.number) says

  -- Demand 3 is not empty: with the right number, and room for the marks, a report is not refused.
  pub report_passes : (room : ℕ) → (stamp_of s).number ≡ h.stamp.number → item_count s ≤ room → report_refusal keys s f room ≡ none
  report_passes room n r = report_not_refused keys s f k48 p q is_accepted.0 is_accepted.1 same_count room (n ∙ sym number_is) r

  -- With another number it is refused, and the refusal says so: 25.
  pub other_number : (room : ℕ) → ((stamp_of s).number ≡ h.stamp.number → ⊥) → report_refusal keys s f room ≡ refusal 25 0
  unfolding report_refusal
  other_number room n =
      ap (λ (r : Refusal). first (r ∷ refuse7 (item_count s) room ∷ [])) (verify_differs keys s f k48 p q is_accepted.0 is_accepted.1 same_count (λ z. n (z ∙ number_is)))
      ∙ first_here (refusal 25 0) _ (λ (z : 25 ≡ 0). omega arith)

  -- Verify says yes of a message that holds the old items under their number.
  pub verifies : (stamp_of s).number ≡ h.stamp.number → ((j : ℕ) → item s j ≡ old j) → (verify_refusal keys s f ≡ none) × (verify_yes keys s f ≡ true)
  unfolding verify_yes tags_for head_of stamp_of stamp_in
  verifies n same-items =
      let K = keys_in keys in
      let v = verify_passes keys s f k48 p q is_accepted.0 is_accepted.1 same_count (n ∙ sym number_is) in
      let items : item s ≡ old = λ i j. same-items j i in (
        v,
        sym (given none (verify_refusal keys s f) (sym v) _ _ refl)
            ∙ same_eq _ _
            (ap (λ (x : Head). tags_for K x.stamp.version x.code s) says
            ∙ (λ i. list_of (λ k. tag_of K.tag (suc k) (tag_sum K (record { version = h.stamp.version; number = n i }) h.code (items i) (sym count i) (suc k))) (family_of h.code).tags)
            ∙ sym (ap tags_in U.file ∙ tags_are K (key_blocks keys b k48) h U.stamped fit old U.bytes)),
      )

-- Wherever a report against an unaltered file is not refused, the two numbers are equal.
pub same_number : (keys s f : List ℕ) (room : ℕ) (h : Head) (old : ℕ → List ℕ) → report_refusal keys s f room ≡ none → Unaltered (keys_in keys) h old f
    → (stamp_of s).number ≡ h.stamp.number
same_number keys s f room h old e U = (reportable keys s f room none (sym e) refl).files.numbers ∙ number-says keys h old f U

-- ---- Tag and Verify

pub item-bytes : (s : List ℕ) → Bytes s → (j : ℕ) → Bytes (item s j)
unfolding item
item-bytes s b j = take-bytes (item_size s j) (drop (item_start s j) s) (drop-bytes (item_start s j) s b)

-- what Tag makes of a message that it does not refuse
module _ (keys : List ℕ) (c : ℕ) (s : List ℕ) (room : ℕ) (m : Bytes s) (e : tag_refusal keys c s room ≡ none) where
  pub tag_fits : count_fits (tag_head c s).code (tag_head c s).count ≡ true
  unfolding count_fits tag_head
  tag_fits =
      let t = taggable keys c s room none (sym e) refl in
      and_both t.code (and_both (le-leb 1 (item_count s) t.low) (le-leb (item_count s) (family_of c).items t.high))

  -- is the unaltered file of its items
  pub tag_unaltered : Unaltered (keys_in keys) (tag_head c s) (item s) (tag_file (keys_in keys) (tag_head c s) (item s))
  unfolding stamp_fits stamp_for newest_tag_file tag_head number_size items_at
  tag_unaltered =
      let t = taggable keys c s room none (sym e) refl in
      let l = t.message.long in
      record { stamped = lt-ltb _ _ (number_small s m (omega arith)); bytes = λ j a b. item-bytes s m j; file = refl }

  -- and Verify accepts it and says yes
  pub tag_verifies : Bytes keys
      → (verify_refusal keys s (tag_file (keys_in keys) (tag_head c s) (item s)) ≡ none) × (verify_yes keys s (tag_file (keys_in keys) (tag_head c s) (item s)) ≡ true)
  unfolding tag_head stamp_for
  tag_verifies b =
      let t = taggable keys c s room none (sym e) refl in
      verifies keys s _ b t.keys48 t.message.head t.message.whole (tag_head c s) (item s) tag_unaltered tag_fits refl refl (λ j. refl)

-- where Verify does not refuse, it says yes exactly when the message's tags equal the file's
pub verify_yes_lem : (keys s f : List ℕ) → verify_refusal keys s f ≡ none → (verify_yes keys s f ≡ true) ↔ (tags_for (keys_in keys) (version_of f) (code_of f) s ≡ tags_in f)
unfolding verify_yes
verify_yes_lem keys s f e =
    let d = given none (verify_refusal keys s f) (sym e) (same (tags_for (keys_in keys) (version_of f) (code_of f) s) (tags_in f)) false refl in
    ((λ y. same_true _ _ (d ∙ y)), (λ y. sym d ∙ same_eq _ _ y))

-- ---- Replace

pub replaced_there : (items : ℕ → List ℕ) (j : ℕ) (new : List ℕ) → replaced_item items j new j ≡ new
unfolding replaced_item
replaced_there items j new = ap (λ (t : Bool). if t then new else items j) (eq-eqb j j refl)

-- an unaltered file of items, in any version, and a number among theirs
module _ (keys : List ℕ) (b : Bytes keys) (k48 : length keys ≡ 48) (h : Head) (stamped : stamp_fits newest_tag_file h.stamp ≡ true)
    (fit : count_fits h.code h.count ≡ true) (items : ℕ → List ℕ) (bytes : (i : ℕ) → 1 ≤ i → i ≤ h.count → Bytes (items i))
    (j : ℕ) (low : 1 ≤ j) (high : j ≤ h.count) (new : List ℕ) where
  abbrev n : ℕ
  n = h.count

  abbrev st : Stamp
  st = h.stamp

  -- the hash of item j alone is another
  new_there : hashes (keys_in keys) st (replaced_item items j new) j ≡ item_hash (keys_in keys).item st j new
  unfolding hashes
  new_there = ap (item_hash (keys_in keys).item st j) (replaced_there items j new)

  others_stay : (i : ℕ) → (i ≡ j → ⊥) → hashes (keys_in keys) st items i ≡ hashes (keys_in keys) st (replaced_item items j new) i
  unfolding hashes replaced_item
  others_stay i ne = ap (λ (t : Bool). item_hash (keys_in keys).item st i (if t then new else items i)) (sym (ne_eqb i j ne))

  -- a row's sum with both hashes added where the row holds item j is its sum afresh
  row_afresh : (F : Family) (i : ℕ) (t : Bool) → F.on i j ≡ t
      → (if t then (row_sum F (hashes (keys_in keys) st items) n i ⊕ item_hash (keys_in keys).item st j (items j)) ⊕ item_hash (keys_in keys).item st j new else row_sum F (hashes (keys_in keys) st items) n i)
      ≡ row_sum F (hashes (keys_in keys) st (replaced_item items j new)) n i
  unfolding hashes
  row_afresh F i true e =
      let K = keys_in keys in
      let B = key_blocks keys b k48 in
      ⊕_assoc (row_sum F (hashes K st items) n i) (item_hash K.item st j (items j)) (item_hash K.item st j new)
      ∙ ap (λ (x : List ℕ). row_sum F (hashes K st items) n i ⊕ (item_hash K.item st j (items j) ⊕ x)) (sym new_there)
      ∙ sym (row_sum_change F (hashes K st items) (hashes K st (replaced_item items j new)) n j i (hashes-long K B.item.long st items)
      (hashes-long K B.item.long st (replaced_item items j new)) low high e (λ k l u ne. others_stay k ne))
  row_afresh F i false e =
      let K = keys_in keys in
      row_sum-same F (hashes K st items) (hashes K st (replaced_item items j new)) n i
      (λ k l u o. others_stay k (λ q. not_both (F.on i k) o (ap (F.on i) q ∙ e)))

  sums_replaced : (k : ℕ) → 1 ≤ k → k ≤ (family_of h.code).tags
      → replaced_sum (keys_in keys) (tag_file (keys_in keys) h items) j (items j) new k ≡ tag_sum (keys_in keys) st h.code (replaced_item items j new) n k
  unfolding replaced_sum tag_sum head_of
  sums_replaced k l u =
      let K = keys_in keys in
      let B = key_blocks keys b k48 in
      let F = family_of h.code in
      let f = tag_file K h items in
      ap (λ (x : Head). if (family_of x.code).on ((family_of x.code).row_of_tag k) j
      then (sum_tagged K f k ⊕ item_hash K.item x.stamp j (items j)) ⊕ item_hash K.item x.stamp j new else sum_tagged K f k)
      (head_is K B h stamped fit items bytes)
      ∙ ap (λ (x : List ℕ). if F.on (F.row_of_tag k) j then (x ⊕ item_hash K.item st j (items j)) ⊕ item_hash K.item st j new else x) (sums_back K B h stamped fit items bytes k l u)
      ∙ row_afresh F (F.row_of_tag k) (F.on (F.row_of_tag k) j) refl

  -- On an unaltered file, with the keys it was made with, Replace is not refused: whatever the old item, where both are short enough and the
  -- lent buffer has room.
  pub replace_passes : (old : List ℕ) (room : ℕ) → length old ≤ 1024 → length new ≤ 1024 → file_size h ≤ room
      → replace_refusal keys (tag_file (keys_in keys) h items) j old new room ≡ none
  unfolding replace_refusal refuse1 refuse8 refuse9 refuse7 head_of
  replace_passes old room lo ln r =
      let K = keys_in keys in
      let B = key_blocks keys b k48 in
      let f = tag_file K h items in
      let a = accepted K B h stamped fit items bytes in
      let e = head_is K B h stamped fit items bytes in
      let en = ap (λ (x : Head). x.count) e in
      let ez = ap file_size e in
      first_later (refuse1 (length keys)) _ (unless_true _ 1 0 (eq-eqb (length keys) 48 k48))
      ∙ first_later (refuse6 f) _ a.0 ∙ first_later (refuse20 K.seal f) _ a.1
      ∙ first_later (refuse8 (count_of f) j) _ (unless_true _ 8 0 (and_both (le-leb 1 j low) (le-leb j (count_of f) (omega arith))))
      ∙ first_later (refuse9 (length old) 1) _ (unless_true _ 9 1 (le-leb (length old) 1024 lo))
      ∙ first_later (refuse9 (length new) 2) _ (unless_true _ 9 2 (le-leb (length new) 1024 ln))
      ∙ first-none (refuse7 (file_size (head_of f)) room) (unless_true _ 7 0 (le-leb (file_size (head_of f)) room (omega arith)))

  -- "On an unaltered sheet, with the keys it was made with, it equals tagging afresh when the old card is the one tagged": "tagging afresh
  -- being meant in that version".
  pub replace_afresh : (out : List ℕ) → replace_refusal keys (tag_file (keys_in keys) h items) j (items j) new (length out) ≡ none
      → replace_writes keys (tag_file (keys_in keys) h items) j (items j) new out ≡ tag_file (keys_in keys) h (replaced_item items j new) ++ drop (file_size h) out
  unfolding replace_writes tag_file
  replace_afresh out e =
      let K = keys_in keys in
      let B = key_blocks keys b k48 in
      let f = tag_file K h items in
      sym (given none (replace_refusal keys f j (items j) new (length out)) (sym e) _ _ refl)
      ∙ ap (λ (x : Head). file_of K x (replaced_sum K f j (items j) new) ++ drop (file_size x) out) (head_is K B h stamped fit items bytes)
      ∙ ap (λ (x : List ℕ). x ++ drop (file_size h) out) (file-same K h (replaced_sum K f j (items j) new) (tag_sum K st h.code (replaced_item items j new) n) sums_replaced)

-- "another old card goes unnoticed": of any two old items that are not too long, both are refused alike, or neither is
pub old_unnoticed : (keys f : List ℕ) (j : ℕ) (old other new : List ℕ) (room : ℕ) → length old ≤ 1024 → length other ≤ 1024
    → replace_refusal keys f j old new room ≡ replace_refusal keys f j other new room
unfolding replace_refusal refuse9
old_unnoticed keys f j old other new room l o =
    ap (λ (t : Bool). first (refuse1 (length keys) ∷ refuse6 f ∷ refuse20 (keys_in keys).seal f ∷ refuse8 (count_of f) j ∷ unless t 9 1
    ∷ refuse9 (length new) 2 ∷ refuse7 (file_size (head_of f)) room ∷ []))
    (le-leb (length old) 1024 l ∙ sym (le-leb (length other) 1024 o))

-- ---- what demand 3 rules out, of a report against the unaltered file of the old items

module _ (keys s f marks : List ℕ) (names : ℕ) (said : Answer) (D : Claim keys s f marks names said) (h : Head) (old : ℕ → List ℕ)
    (U : Unaltered (keys_in keys) h old f) (count : h.count ≡ item_count s) where
  -- where at most d items changed and one did not, not every item is named
  pub never_all_named : count_up_to (changed old (item s)) (item_count s) ≤ (family_of h.code).limit → (j : ℕ) → 1 ≤ j → j ≤ item_count s → changed old (item s) j ≡ false
      → ((i : ℕ) → 1 ≤ i → i ≤ item_count s → marked marks i ≡ true) → ⊥
  never_all_named few j l u same all = not_both (marked marks j) (all j l u) ((D h old U count).0.spares few j l u same)

  -- where an item changed and no row cancels, some item is named
  pub never_none_named : NoneCancels keys s h old → 0 < count_up_to (changed old (item s)) (item_count s)
      → ((i : ℕ) → 1 ≤ i → i ≤ item_count s → marked marks i ≡ false) → ⊥
  never_none_named free some all =
      let w : Found (changed old (item s)) (item_count s) = found (changed old (item s)) (item_count s) some in
      not_both (marked marks w.at) ((D h old U count).0.finds free w.at w.low w.high w.passes) (all w.at w.low w.high)

  -- an unchanged message is not "beyond"
  pub never_beyond : NoneCancels keys s h old → count_up_to (changed old (item s)) (item_count s) ≡ 0 → said ≡ Beyond → ⊥
  never_beyond free z b =
      let e : Beyond ≡ Intact = sym b ∙ ((D h old U count).0.intact free).1 z in
      let z : ◌≡◌ {A = ℕ} 0 1 = cc in
      omega arith

-- ---- what the number of disagreeing rows tells, of a report on a plane against the unaltered file of the old items

module _ (keys s f : List ℕ) (rows : ℕ) (D : RowClaim keys s f rows) (h : Head) (old : ℕ → List ℕ) (U : Unaltered (keys_in keys) h old f) (count : h.count ≡ item_count s)
    (plane : plane_code h.code ≡ true) where
  -- where no row cancels, d + 1 rows are those of one changed item, and of no other number of them
  pub rows_tell_one : NoneCancels keys s h old → rows ≡ (family_of h.code).limit + 1 → count_up_to (changed old (item s)) (item_count s) ≡ 1
  rows_tell_one free = rejects.tells_one _ _ _ _ rows (D h old U count plane) free (plane-limit h.code plane)

  -- and 2 d + 1 those of two
  pub rows_tell_two : NoneCancels keys s h old → rows ≡ 2 * (family_of h.code).limit + 1 → count_up_to (changed old (item s)) (item_count s) ≡ 2
  rows_tell_two free = rejects.tells_two _ _ _ _ rows (D h old U count plane) free (plane-limit h.code plane)

  -- any row is that of some changed item, and more than k d + 1 are those of more than k, whatever cancels
  pub rows_tell_some : 0 < rows → 0 < count_up_to (changed old (item s)) (item_count s)
  rows_tell_some = rejects.tells_some _ _ _ _ rows (D h old U count plane)

  pub rows_tell_more : (k : ℕ) → k * (family_of h.code).limit + 1 < rows → k < count_up_to (changed old (item s)) (item_count s)
  rows_tell_more = rejects.tells_more _ _ _ _ rows (D h old U count plane)
