-- A run of a session: Begin, a Put for each item, Close. What the session carries after each step (`taken_all`); that a run gets to its
-- end (`accepts`, `runs`); that Close then writes the file that Tag's rule gives for the items put (`closes`); and what a run cannot do:
-- put one item more (`full`), close before the last (`early`), or go on after Close (`shut`). Last, a put of a vacant place (`put_vacant`).
use Rattle.std.specs.Prelude.{◌≡◌, ◌∷◌, ◌++◌, ◌⊎◌, ◌+◌, ◌≤◌, ◌<◌}
use Rattle.fips197.proofs.Kit.{refl, sym, ap, ◌∙◌, subst, true, false, List, [], inl, inr, ℕ, zero, suc, le_of_suc-le-suc, eq-or-lt_of_le, add-one, arith, leb, length, drop, eq-eqb, ne_eqb, le-leb, lt-ltb, le-ltb}
use Rattle.blocks.specs.Block.{zeros, slot}
use Rattle.blocks.proofs.Slots.{slot-length}
use Rattle.cipher.specs.Cmac.{cmac}
use Rattle.sizes.specs.Sizes.{known, family_of}
use Rattle.sizes.proofs.Laws.{tags_few}
use Rattle.files.specs.Refusals.{refusal, none, first}
use Rattle.files.specs.declared.tagfile.Head.{Head}
use Rattle.files.specs.TagFile.{newest_tag_file, stamp_for, head_for, file_size, count_fits}
use Rattle.files.specs.Arguments.{refuse7, refuse9}
use Rattle.incidence.proofs.Booleans.{and_left, and_both, and_false_l, and_false_r}
use Rattle.files.proofs.Passing.{unless_true, unless_false, given}
use Rattle.keyed.specs.Keyed.{item_hash}
use Rattle.keyed.proofs.KeyedLaws.{empty_vacant, hash_vacant, item_hash-length}
use Rattle.sums.specs.Adding.{sum_in, Holds}
use Rattle.tagging.specs.Tagging.{keys_in, hashes, tag_sum, file_of, tag_file}
use Rattle.tagging.proofs.Summing.{zero_sums, summed_first, summed_next, summed_zeros, zeros_summed, tag_sum-length}
use Rattle.tagging.proofs.Writing.{file-same}
use Rattle.session.specs.declared.Session.{Session}
use Rattle.session.specs.Session.{closed, session_is_open, session_head, refuse22, refuse23, refuse24, begin_refusal, begin_gives, put_refusal, added_to_tags, with_item, put_gives, close_refusal, close_gives, close_writes, after}
use Rattle.session.proofs.Carried.{tags_added, zeros_added}
use Rattle.session.proofs.Stepping.{first-same, none_of, begin_tells, put_tells, with_item_is}

module _ (keys : List ℕ) (c n number : ℕ) (items : ℕ → List ℕ) where
  -- Begin and the first k puts pass: they refuse nothing
  pub record Runs (k : ℕ) : Type 0 where
    pub begun : begin_refusal keys c n ≡ none
    pub put : (i : ℕ) → i < k → put_refusal (after keys c n number items i) (items (suc i)) ≡ none

  -- a session, for these keys, number, code and count, that has taken the first k items: it is open, and its sums are those that Tag's rule gives
  -- for these k, one for each tag, with nothing behind them
  pub record Carries (k : ℕ) (s : Session) : Type 0 where
    pub same_number : s.number ≡ number
    pub code : s.code ≡ c
    pub count : s.count ≡ n
    pub taken : s.taken ≡ k
    pub same_keys : s.keys ≡ keys_in keys
    pub sums : Holds (family_of c).tags (tag_sum (keys_in keys) (stamp_for number) c items k) (zeros 1312) s.sums
    pub is_open : session_is_open s ≡ true

  -- the session that Begin gives
  empty : Session
  empty = record { number = number; code = c; count = n; taken = 0; keys = keys_in keys; sums = zeros 1312 }

  -- its sums are zeros
  clear : (t : ℕ) → 1 ≤ t → t ≤ (family_of c).tags → sum_in (zeros 1312) t ≡ zeros 16
  clear t lo hi = zero_sums 1312 t lo (omega (arith, tags_few c))

  sums-long : length keys ≡ 48 → (k t : ℕ) → length (tag_sum (keys_in keys) (stamp_for number) c items k t) ≡ 16
  unfolding keys_in
  sums-long long k t = tag_sum-length (keys_in keys) (stamp_for number) c items k (slot-length keys 0 (omega arith)) t

  carries_none : begin_refusal keys c n ≡ none → Carries 0 empty
  unfolding empty tag_sum sum_in session_is_open count_fits
  carries_none e =
      let b = begin_tells keys c n none (sym e) refl in
      record {
        same_number = refl;
        code = refl;
        count = refl;
        taken = refl;
        same_keys = refl;
        sums = summed_zeros (family_of c).tags (tag_sum (keys_in keys) (stamp_for number) c items 0) (zeros 1312) (zeros 1312) clear (sums-long b.long 0)
            (summed_first (family_of c) (hashes (keys_in keys) (stamp_for number) items) (zeros 1312) 0 refl);
        is_open = and_both (and_both b.code (and_both (le-leb 1 n b.low) (le-leb n _ b.high))) (le-leb 0 n (omega arith));
      }

  module _ (long : length keys ≡ 48) (s : Session) (k : ℕ) (H : Carries k s) (p : put_refusal s (items (suc k)) ≡ none) where
    hash : List ℕ
    hash = item_hash (keys_in keys).item (stamp_for number) (suc k) (items (suc k))

    hash_length : length hash ≡ 16
    unfolding hash keys_in
    hash_length = item_hash-length (slot keys 0) (slot-length keys 0 (omega arith)) (stamp_for number) (suc k) (items (suc k))

    place : s.taken + 1 ≡ suc k
    place = omega (arith, H.taken)

    sums_next : (with_item s (items (suc k))).sums ≡ added_to_tags c (suc k) hash s.sums
    unfolding with_item hash
    sums_next = λ i. added_to_tags (H.code i) (place i) (item_hash (H.same_keys i).item (stamp_for (H.same_number i)) (place i) (items (suc k))) s.sums

    carries_more : Carries (suc k) (with_item s (items (suc k)))
    unfolding with_item tag_sum hashes hash session_is_open
    carries_more =
        let F = family_of c in
        let q = put_tells s (items (suc k)) none (sym p) refl in
        let l : length s.sums ≡ 1312 = H.sums.size in
        record {
          same_number = H.same_number;
          code = H.code;
          count = H.count;
          taken = place;
          same_keys = H.same_keys;
          sums = subst (λ (x : List ℕ). Holds F.tags (tag_sum (keys_in keys) (stamp_for number) c items (suc k)) (zeros 1312) x) (sym sums_next)
              (summed_zeros F.tags (tag_sum (keys_in keys) (stamp_for number) c items (suc k)) (zeros 1312) _ clear (sums-long long (suc k))
              (summed_next F (hashes (keys_in keys) (stamp_for number) items) (zeros 1312) s.sums _ hash k (suc k) (sym (add-one k)) refl
              (zeros_summed F.tags (tag_sum (keys_in keys) (stamp_for number) c items k) (zeros 1312) s.sums clear (sums-long long k) H.sums)
              (tags_added c (suc k) hash s.sums hash_length l)));
          is_open = and_both (and_left (count_fits s.code s.count) (leb s.taken s.count) H.is_open)
              (le-leb (s.taken + 1) s.count (omega (arith, q.more)));
        }

  -- After Begin and k puts that pass, the session is open, has taken k items, and its sums are those that Tag's rule gives for the first k.
  pub taken_all : (k : ℕ) → Runs k → Carries k (after keys c n number items k)
  unfolding after begin_gives put_gives empty
  taken_all zero R = subst (Carries 0) (given none (begin_refusal keys c n) (sym R.begun) empty closed refl) (carries_none R.begun)
  taken_all (suc k) R =
      let s = after keys c n number items k in
      let H = taken_all k (record { begun = R.begun; put = λ i l. R.put i (omega arith) }) in
      let b = begin_tells keys c n none (sym R.begun) refl in
      let p = R.put k (omega arith) in
      subst (Carries (suc k)) (given none (put_refusal s (items (suc k))) (sym p) (with_item s (items (suc k))) s refl)
      (carries_more b.long s k H p)

  -- While fewer than n items are put, a put of any item of at most 1,024 bytes passes.
  pub accepts : (k : ℕ) → Runs k → k < n → (item : List ℕ) → length item ≤ 1024 → put_refusal (after keys c n number items k) item ≡ none
  unfolding put_refusal refuse24 refuse22 refuse9
  accepts k R l item h =
      let s = after keys c n number items k in
      let H = taken_all k R in
      none_of _ _ _ (unless_true _ 24 0 H.is_open) (unless_true _ 22 0 (lt-ltb s.taken s.count (omega (arith, H.taken, H.count))))
      (unless_true _ 9 0 (le-leb (length item) 1024 h))

  -- So where Begin passes and no item has more than 1,024 bytes, every put passes.
  pub runs : begin_refusal keys c n ≡ none → ((j : ℕ) → 1 ≤ j → j ≤ n → length (items j) ≤ 1024) → (k : ℕ) → k ≤ n → Runs k
  runs e h zero l = record { begun = e; put = λ i z. absurd (omega arith) }
  runs e h (suc k) l =
      let R = runs e h k (omega arith) in
      record { begun = e; put = λ i z. go i R (eq-or-lt_of_le (le_of_suc-le-suc z)) }
    where
      go : (i : ℕ) → Runs k → (i ≡ k) ⊎ (i < k) → put_refusal (after keys c n number items i) (items (suc i)) ≡ none
      go i R (inl q) = accepts i (subst Runs (sym q) R) (omega arith) (items (suc i)) (h (suc i) (omega arith) (omega arith))
      go i R (inr z) = R.put i z

  -- what the file says
  abbrev head : Head
  head = head_for (stamp_for number) c n

  same_head : (s : Session) (k : ℕ) → Carries k s → session_head s ≡ head
  unfolding session_head
  same_head s k H = λ i. head_for (stamp_for (H.same_number i)) (H.code i) (H.count i)

  passes_close : (s : Session) (out : List ℕ) → Carries n s → file_size head ≤ length out → close_refusal s out ≡ none
  unfolding close_refusal refuse24 refuse23 refuse7
  passes_close s out H room =
      none_of _ _ _ (unless_true _ 24 0 H.is_open) (unless_true _ 23 s.taken (eq-eqb s.taken s.count (omega (arith, H.taken, H.count))))
      (unless_true _ 7 0 (ap (λ (x : Head). leb (file_size x) (length out)) (same_head s n H) ∙ le-leb (file_size head) (length out) room))

  -- After n puts that pass, Close passes where the lent buffer has room: it writes Tag's rule's file for these keys, number, code and items to
  -- the front, leaves the bytes behind, and gives the closed session. Nothing is asked of the items' length together. Document 01: "writes
  -- the sheet that Tag's rule gives for these cards, even where they are too long together for one shelf file".
  pub closes : Runs n → (out : List ℕ) → file_size (head_for (stamp_for number) c n) ≤ length out
      → (close_refusal (after keys c n number items n) out ≡ none)
      × (close_writes (after keys c n number items n) out ≡ tag_file (keys_in keys) (head_for (stamp_for number) c n) items ++ drop (file_size (head_for (stamp_for number) c n)) out)
      × (close_gives (after keys c n number items n) out ≡ closed)
  unfolding close_writes close_gives tag_file
  closes R out room =
      let s = after keys c n number items n in
      let H = taken_all n R in
      let q = passes_close s out H room in (
        q,
        sym (given none (close_refusal s out) (sym q) (file_of s.keys (session_head s) (sum_in s.sums) ++ drop (file_size (session_head s)) out) out refl)
            ∙ (λ i. file_of (H.same_keys i) (same_head s n H i) (sum_in s.sums) ++ drop (file_size (same_head s n H i)) out)
            ∙ ap (λ (l : List ℕ). l ++ drop (file_size head) out) (file-same (keys_in keys) head (sum_in s.sums) (tag_sum (keys_in keys) (stamp_for number) c items n) H.sums.sums),
        sym (given none (close_refusal s out) (sym q) closed s refl),
      )

  -- After n puts that pass, one more is refused: 22.
  pub full : Runs n → (item : List ℕ) → put_refusal (after keys c n number items n) item ≡ refusal 22 0
  unfolding put_refusal refuse24 refuse22 first
  full R item =
      let s = after keys c n number items n in
      let H = taken_all n R in
      first-same _ _ (refuse9 (length item) 0) none (refusal 22 0) _ (unless_true _ 24 0 H.is_open)
      (unless_false _ 22 0 (le-ltb s.taken s.count (omega (arith, H.taken, H.count)))) refl

  -- After k puts that pass, k below n, Close is refused: 23, at place k.
  pub early : (k : ℕ) → Runs k → k < n → (out : List ℕ) → close_refusal (after keys c n number items k) out ≡ refusal 23 k
  unfolding close_refusal refuse24 refuse23 first
  early k R l out =
      let s = after keys c n number items k in
      let H = taken_all k R in
      let d : (s.taken ≡ s.count → ⊥) = λ e. omega (arith, H.taken, H.count) in
      first-same _ _ (refuse7 (file_size (session_head s)) (length out)) none (refusal 23 k) _ (unless_true _ 24 0 H.is_open)
      (unless_false _ 23 s.taken (ne_eqb s.taken s.count d) ∙ ap (refusal 23) H.taken) refl

-- The closed session is not open: it has no count.
pub closed_shut : session_is_open closed ≡ false
unfolding session_is_open closed count_fits
closed_shut = and_false_l _ _ (and_false_r (known 0) _ refl)

-- A put and a close of it are refused: 24.
pub shut : (item out : List ℕ) → (put_refusal closed item ≡ refusal 24 0) × (close_refusal closed out ≡ refusal 24 0)
unfolding put_refusal close_refusal refuse24 first
shut item out = (rw closed_shut refl, rw closed_shut refl)

-- Document 02, 2.5: a put of an empty item is refused by 24 and 22 alone; where it passes it adds nothing to the sums, and counts as an item.
pub put_vacant : (s : Session) → length s.sums ≡ 1312
    → (put_refusal s [] ≡ first (refuse24 s ∷ refuse22 s ∷ []))
    × (put_refusal s [] ≡ none
    → put_gives s [] ≡ record { number = s.number; code = s.code; count = s.count; taken = s.taken + 1; keys = s.keys; sums = s.sums })
unfolding put_refusal put_gives refuse9 first stamp_for newest_tag_file item_hash
put_vacant s h =
    let st = stamp_for s.number in
    let j = s.taken + 1 in
    let zero_hash = hash_vacant (cmac s.keys.item) st j [] (empty_vacant 3 (omega arith)) in (
      refl,
      λ e. sym (given none (put_refusal s []) (sym e) (with_item s []) s refl)
          ∙ sym (with_item_is s [] s.sums (sym (ap (λ (x : List ℕ). added_to_tags s.code j x s.sums) zero_hash ∙ zeros_added s.code j s.sums h))),
    )
