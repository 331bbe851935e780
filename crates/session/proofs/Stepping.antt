-- One step: what its refusals tell of a session that passes them, and what it gives.
use Rattle.std.specs.Prelude.{◌≡◌, ◌&&◌, ◌∷◌, ◌+◌, ◌≤◌, ◌<◌}
use Rattle.fips197.proofs.Kit.{true, List, [], ℕ, arith, eqb, leb, ltb, length, eqb-true, leb-true, ltb-true}
use Rattle.blocks.specs.Block.{zeros}
use Rattle.incidence.specs.Count.{inside}
use Rattle.incidence.proofs.Counting.{inside-low, inside-high}
use Rattle.sizes.specs.Sizes.{known, family_of}
use Rattle.files.specs.Refusals.{Refusal}
use Rattle.files.specs.Refusals.{none, first}
use Rattle.files.specs.TagFile.{stamp_for, file_size, count_fits}
use Rattle.files.specs.Arguments.{refuse1, refuse2, refuse4, refuse7, refuse9}
use Rattle.incidence.proofs.Booleans.{and_left, and_right}
use Rattle.files.proofs.Passing.{rest-passes, unless-passes, number_along}
use Rattle.keyed.specs.Keyed.{item_hash}
use Rattle.tagging.specs.declared.Keys.{Keys}
use Rattle.tagging.specs.Tagging.{keys_in}
use Rattle.session.specs.declared.Session.{Session}
use Rattle.session.specs.Session.{session_is_open, session_head, refuse22, refuse23, refuse24, begin_refusal, put_refusal, added_to_tags, with_item, close_refusal}

-- ---- the first of three

pub first-same : (a b d a' b' d' : Refusal) → a ≡ a' → b ≡ b' → d ≡ d' → first (a ∷ b ∷ d ∷ []) ≡ first (a' ∷ b' ∷ d' ∷ [])
first-same a b d a' b' d' ea eb ed = λ i. first (ea i ∷ eb i ∷ ed i ∷ [])

pub none_of : (a b d : Refusal) → a ≡ none → b ≡ none → d ≡ none → first (a ∷ b ∷ d ∷ []) ≡ none
unfolding first
none_of a b d ea eb ed = first-same a b d none none none ea eb ed

all_pass : (a b d : Refusal) → (first (a ∷ b ∷ d ∷ [])).number ≡ 0 → (a.number ≡ 0) × (b.number ≡ 0) × (d.number ≡ 0)
all_pass a b d h =
    let p = rest-passes a (b ∷ d ∷ []) h in
    let q = rest-passes b (d ∷ []) p.1 in
    (p.0, q.0, (rest-passes d [] q.1).0)

-- ---- what a step that passes tells

pub record Begins (keys : List ℕ) (c n : ℕ) : Type 0 where
  pub long : length keys ≡ 48
  pub code : known c ≡ true
  pub low : 1 ≤ n
  pub high : n ≤ (family_of c).items

pub begin_tells : (keys : List ℕ) (c n : ℕ) (r : Refusal) → r ≡ begin_refusal keys c n → r.number ≡ 0 → Begins keys c n
unfolding begin_refusal refuse1 refuse2 refuse4
begin_tells keys c n r e h =
    let p = all_pass (refuse1 (length keys)) (refuse2 c) (refuse4 c n) (number_along r _ e h) in
    let t = unless-passes (inside (family_of c).items n) 4 0 (omega arith) p.2 in
    record {
      long = eqb-true (length keys) 48 (unless-passes (eqb (length keys) 48) 1 0 (omega arith) p.0);
      code = unless-passes (known c) 2 0 (omega arith) p.1;
      low = inside-low (family_of c).items n t;
      high = inside-high (family_of c).items n t;
    }

open_tells : (s : Session) → (refuse24 s).number ≡ 0 → (known s.code ≡ true) × (s.count ≤ (family_of s.code).items)
unfolding refuse24 session_is_open count_fits
open_tells s h =
    let a = leb 1 s.count in
    let b = leb s.count (family_of s.code).items in
    let t = and_left (known s.code && (a && b)) (leb s.taken s.count) (unless-passes (session_is_open s) 24 0 (omega arith) h) in
    (and_left (known s.code) (a && b) t, leb-true _ _ (and_right a b (and_right (known s.code) (a && b) t)))

pub record Puts (s : Session) (item : List ℕ) : Type 0 where
  pub code : known s.code ≡ true
  pub more : s.taken < s.count
  pub short : length item ≤ 1024

pub put_tells : (s : Session) (item : List ℕ) (r : Refusal) → r ≡ put_refusal s item → r.number ≡ 0 → Puts s item
unfolding put_refusal refuse22 refuse9
put_tells s item r e h =
    let p = all_pass (refuse24 s) (refuse22 s) (refuse9 (length item) 0) (number_along r _ e h) in
    record {
      code = (open_tells s p.0).0;
      more = ltb-true _ _ (unless-passes (ltb s.taken s.count) 22 0 (omega arith) p.1);
      short = leb-true _ _ (unless-passes (leb (length item) 1024) 9 0 (omega arith) p.2);
    }

pub record Closes (s : Session) (out : List ℕ) : Type 0 where
  pub code : known s.code ≡ true
  pub fits : s.count ≤ (family_of s.code).items
  pub room : file_size (session_head s) ≤ length out

pub close_tells : (s : Session) (out : List ℕ) (r : Refusal) → r ≡ close_refusal s out → r.number ≡ 0 → Closes s out
unfolding close_refusal refuse7
close_tells s out r e h =
    let p = all_pass (refuse24 s) (refuse23 s) (refuse7 (file_size (session_head s)) (length out)) (number_along r _ e h) in
    let o = open_tells s p.0 in
    record { code = o.0; fits = o.1; room = leb-true _ _ (unless-passes (leb (file_size (session_head s)) (length out)) 7 0 (omega arith) p.2) }

-- ---- one item more

pub with_item_is : (s : Session) (item after : List ℕ) → after ≡ added_to_tags s.code (s.taken + 1) (item_hash s.keys.item (stamp_for s.number) (s.taken + 1) item) s.sums
    → ◌≡◌ {A = Session} (record { number = s.number; code = s.code; count = s.count; taken = s.taken + 1; keys = s.keys; sums = after }) (with_item s item)
unfolding with_item
with_item_is s item after e = λ i. record { number = s.number; code = s.code; count = s.count; taken = s.taken + 1; keys = s.keys; sums = e i }

-- ---- no item yet

pub begun_is : (keys : List ℕ) (c n number : ℕ) (k : Keys) → k ≡ keys_in keys
    → ◌≡◌ {A = Session} (record { number = number; code = c; count = n; taken = 0; keys = k; sums = zeros 1312 })
    (record { number = number; code = c; count = n; taken = 0; keys = keys_in keys; sums = zeros 1312 })
begun_is keys c n number k e = λ i. record { number = number; code = c; count = n; taken = 0; keys = e i; sums = zeros 1312 }
