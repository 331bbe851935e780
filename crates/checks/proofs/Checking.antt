-- What passes all checks of a call is known.
use Rattle.std.specs.Prelude.{◌≡◌, ◌&&◌, ◌≤◌}
use Rattle.fips197.proofs.Kit.{refl, true, List, ℕ, arith, eqb, leb, length, eqb-true, leb-true}
use Rattle.incidence.specs.Count.{inside}
use Rattle.incidence.proofs.Counting.{inside-low, inside-high}
use Rattle.sizes.specs.Sizes.{known, family_of}
use Rattle.stamp.specs.Front.{stamp_of}
use Rattle.files.specs.Refusals.{Refusal}
use Rattle.files.specs.Message.{item_count, refuse3, refuse5, refuse8, Sound}
use Rattle.files.specs.TagFile.{file_size, code_of, count_of, head_of, count_fits, Formed}
use Rattle.files.specs.Arguments.{refuse1, refuse2, refuse4, refuse7, refuse9}
use Rattle.incidence.proofs.Booleans.{and_left, and_right}
use Rattle.files.proofs.Passing.{rest-passes, unless-passes, number_along}
use Rattle.files.proofs.Messages.{plain3, plain5, headed}
use Rattle.files.proofs.Accepted.{formed}
use Rattle.tagging.specs.Tagging.{tag_head}
use Rattle.checks.specs.Refused.{refuse21, refuse25, tag_refusal, verify_refusal, report_refusal, replace_refusal}
use Rattle.checks.specs.Passed.{Taggable, Comparable, Reportable, Replaceable}

pub keys_long : (n : ℕ) → (refuse1 n).number ≡ 0 → n ≡ 48
unfolding refuse1
keys_long n h = eqb-true n 48 (unless-passes (eqb n 48) 1 0 (omega arith) h)

sound : (s : List ℕ) → (refuse3 s).number ≡ 0 → (refuse5 s).number ≡ 0 → Sound s
sound s h g = let l = headed s h in record { head = plain3 s h; whole = plain5 s g; long = l.0; short = l.1 }

-- room for what a call writes
roomy : (size room : ℕ) → (refuse7 size room).number ≡ 0 → size ≤ room
unfolding refuse7
roomy size room h = leb-true size room (unless-passes (leb size room) 7 0 (omega arith) h)

-- the code and the count of a tag file that is not refused
module _ (f : List ℕ) (F : Formed f) where
  pub file-code : known (code_of f) ≡ true
  unfolding count_fits
  file-code = and_left (known (code_of f)) (leb 1 (count_of f) && leb (count_of f) (family_of (code_of f)).items) F.fits

  pub file-count : count_of f ≤ (family_of (code_of f)).items
  unfolding count_fits
  file-count =
      leb-true _ _ (and_right (leb 1 (count_of f)) (leb (count_of f) (family_of (code_of f)).items)
      (and_right (known (code_of f)) (leb 1 (count_of f) && leb (count_of f) (family_of (code_of f)).items) F.fits))

-- ---- the calls

pub taggable : (keys : List ℕ) (c : ℕ) (s : List ℕ) (room : ℕ) (r : Refusal) → r ≡ tag_refusal keys c s room → r.number ≡ 0 → Taggable keys c s room
unfolding tag_refusal refuse2 refuse4
taggable keys c s room r e h =
    let a = rest-passes _ _ (number_along r _ e h) in
    let b = rest-passes _ _ a.1 in
    let d = rest-passes _ _ b.1 in
    let f = rest-passes _ _ d.1 in
    let g = rest-passes _ _ f.1 in
    let n = unless-passes (inside (family_of c).items (item_count s)) 4 0 (omega arith) f.0 in
    record {
      keys48 = keys_long (length keys) a.0;
      code = unless-passes (known c) 2 0 (omega arith) b.0;
      message = sound s d.0 g.0;
      low = inside-low _ _ n;
      high = inside-high _ _ n;
      fits = roomy (file_size (tag_head c s)) room (rest-passes _ _ g.1).0;
    }

pub comparable : (keys s f : List ℕ) (r : Refusal) → r ≡ verify_refusal keys s f → r.number ≡ 0 → Comparable keys s f
unfolding verify_refusal refuse21 refuse25
comparable keys s f r e h =
    let a = rest-passes _ _ (number_along r _ e h) in
    let b = rest-passes _ _ a.1 in
    let c = rest-passes _ _ b.1 in
    let d = rest-passes _ _ c.1 in
    let g = rest-passes _ _ d.1 in
    let k = rest-passes _ _ g.1 in
    record {
      keys48 = keys_long (length keys) a.0;
      message = sound s b.0 c.0;
      file = formed f d.0;
      counts = eqb-true _ _ (unless-passes (eqb (item_count s) (count_of f)) 21 0 (omega arith) k.0);
      numbers = eqb-true _ _ (unless-passes (eqb (stamp_of s).number (stamp_of f).number) 25 0 (omega arith) (rest-passes _ _ k.1).0);
    }

pub reportable : (keys s f : List ℕ) (room : ℕ) (r : Refusal) → r ≡ report_refusal keys s f room → r.number ≡ 0 → Reportable keys s f room
unfolding report_refusal
reportable keys s f room r e h =
    let a = rest-passes _ _ (number_along r _ e h) in
    record { files = comparable keys s f (verify_refusal keys s f) refl a.0; fits = roomy (item_count s) room (rest-passes _ _ a.1).0 }

pub replaceable : (keys f : List ℕ) (j : ℕ) (old new : List ℕ) (room : ℕ) (r : Refusal) → r ≡ replace_refusal keys f j old new room → r.number ≡ 0
    → Replaceable keys f j old new room
unfolding replace_refusal refuse8 refuse9
replaceable keys f j old new room r e h =
    let a = rest-passes _ _ (number_along r _ e h) in
    let b = rest-passes _ _ a.1 in
    let c = rest-passes _ _ b.1 in
    let d = rest-passes _ _ c.1 in
    let g = rest-passes _ _ d.1 in
    let k = rest-passes _ _ g.1 in
    let n = unless-passes (leb 1 j && leb j (count_of f)) 8 0 (omega arith) d.0 in
    record {
      keys48 = keys_long (length keys) a.0;
      file = formed f b.0;
      low = inside-low (count_of f) j n;
      high = inside-high (count_of f) j n;
      short_old = leb-true _ _ (unless-passes (leb (length old) 1024) 9 1 (omega arith) g.0);
      short_new = leb-true _ _ (unless-passes (leb (length new) 1024) 9 2 (omega arith) k.0);
      fits = roomy (file_size (head_of f)) room (rest-passes _ _ k.1).0;
    }
