-- Every refusal's number is below 256 and its place at most 65,536, so that both are read back whole from the number that C gets.
use Rattle.std.specs.Prelude.{◌&&◌, ◌∷◌, ◌+◌, ◌≤◌, ◌<◌, if◌then◌else◌}
use Rattle.fips197.proofs.Kit.{Bool, true, false, List, [], ℕ, zero, suc, arith, eqb, leb, length, take, drop, length-take}
use Rattle.blocks.specs.Block.{Bytes, same}
use Rattle.cipher.specs.Cmac.{cmac}
use Rattle.blocks.specs.Number.{number_of, number}
use Rattle.blocks.proofs.Xor.{take-bytes, drop-bytes}
use Rattle.incidence.specs.Count.{inside}
use Rattle.sizes.specs.Sizes.{known, family_of}
use Rattle.stamp.specs.Front.{front_size, version_of, stamp_of, begins_as}
use Rattle.files.specs.Refusals.{Refusal}
use Rattle.files.specs.Refusals.{unless, passes, first}
use Rattle.files.specs.Message.{number16, message_letters, newest_message, items_at, item_count, behind, item_fits, refuse_items, refuse3, refuse5, refuse8}
use Rattle.files.specs.TagFile.{tag_letters, newest_tag_file, tags_at, file_size, code_of, count_of, head_of, body_of, mac_of, count_fits, refuse6, refuse20}
use Rattle.files.specs.Arguments.{refuse1, refuse2, refuse4, refuse7, refuse9}
use Rattle.tagging.specs.Tagging.{keys_in, tag_head}
use Rattle.checks.specs.Refused.{refuse21, refuse25, tag_refusal, verify_refusal, report_refusal, replace_refusal}

-- ---- refusals in a list

-- a number below 256, and a place of at most b
abbrev pub Whole : ℕ → Refusal → Type 0
Whole b r = (r.number < 256) × (r.place ≤ b)

abbrev AllWhole : ℕ → List Refusal → Type 0
AllWhole b [] = Unit {0}
AllWhole b (r ∷ rest) = Whole b r × AllWhole b rest

first-whole : (b : ℕ) (l : List Refusal) → AllWhole b l → Whole b (first l)
unfolding first
first-whole b [] h = (omega arith, omega arith)
first-whole b (r ∷ rest) h = go (passes r) (first-whole b rest h.1)
  where
    go : (t : Bool) → Whole b (first rest) → Whole b (if t then first rest else r)
    go true ih = ih
    go false ih = h.0

unless-whole : (t : Bool) (n p b : ℕ) → n < 256 → p ≤ b → Whole b (unless t n p)
unless-whole true n p b l h = (omega arith, omega arith)
unless-whole false n p b l h = (l, h)

-- ---- a count is a 2-byte number

number-two : (s : List ℕ) → Bytes s → length s ≤ 2 → number s < 65536
unfolding number number_of
number-two [] b h = omega arith
number-two (x ∷ []) b h = omega (arith, b.0)
number-two (x ∷ y ∷ []) b h = omega (arith, b.0, b.1.0)
number-two (x ∷ y ∷ z ∷ rest) b h = absurd (omega arith)

count_small : (s : List ℕ) → Bytes s → item_count s < 65536
unfolding item_count number16
count_small s b =
    let at = front_size (version_of s) in
    number-two (take 2 (drop at s)) (take-bytes 2 (drop at s) (drop-bytes at s b)) (simp length-take (omega arith))

-- ---- 5

items-whole : (s : List ℕ) (k : ℕ) → Whole k (refuse_items s k)
unfolding refuse_items
items-whole s zero = (omega arith, omega arith)
items-whole s (suc k) =
    let r = items-whole s k in
    first-whole (suc k) (refuse_items s k ∷ unless (item_fits s (behind s k)) 5 (suc k) ∷ [])
    ((r.0, omega (arith, r.1)), (unless-whole (item_fits s (behind s k)) 5 (suc k) (suc k) (omega arith) (omega arith), tt))

whole5 : (b : ℕ) (s : List ℕ) → item_count s < b → Whole b (refuse5 s)
unfolding refuse5
whole5 b s few =
    let r = items-whole s (item_count s) in
    first-whole b (refuse_items s (item_count s) ∷ unless (eqb (behind s (item_count s)) (length s)) 5 (item_count s + 1) ∷ [])
    ((r.0, omega (arith, r.1)), (unless-whole (eqb (behind s (item_count s)) (length s)) 5 (item_count s + 1) b (omega arith) (omega arith), tt))

-- ---- the others

module _ (b : ℕ) where
  small : (t : Bool) (n : ℕ) → n < 256 → Whole b (unless t n 0)
  small t n l = unless-whole t n 0 b l (omega arith)

  whole1 : (n : ℕ) → Whole b (refuse1 n)
  unfolding refuse1
  whole1 n = small (eqb n 48) 1 (omega arith)

  whole2 : (c : ℕ) → Whole b (refuse2 c)
  unfolding refuse2
  whole2 c = small (known c) 2 (omega arith)

  whole3 : (s : List ℕ) → Whole b (refuse3 s)
  unfolding refuse3
  whole3 s = small (begins_as message_letters newest_message (items_at (version_of s)) s && leb (length s) 65536) 3 (omega arith)

  whole4 : (c n : ℕ) → Whole b (refuse4 c n)
  unfolding refuse4
  whole4 c n = small (inside (family_of c).items n) 4 (omega arith)

  whole6 : (f : List ℕ) → Whole b (refuse6 f)
  unfolding refuse6
  whole6 f =
      small (begins_as tag_letters newest_tag_file (tags_at (version_of f) + 16) f && (count_fits (code_of f) (count_of f) && eqb (length f) (file_size (head_of f)))) 6 (omega arith)

  whole7 : (size room : ℕ) → Whole b (refuse7 size room)
  unfolding refuse7
  whole7 size room = small (leb size room) 7 (omega arith)

  whole8 : (n j : ℕ) → Whole b (refuse8 n j)
  unfolding refuse8
  whole8 n j = small (leb 1 j && leb j n) 8 (omega arith)

  whole9 : (long p : ℕ) → p ≤ b → Whole b (refuse9 long p)
  unfolding refuse9
  whole9 long p h = unless-whole (leb long 1024) 9 p b (omega arith) h

  whole20 : (key f : List ℕ) → Whole b (refuse20 key f)
  unfolding refuse20
  whole20 key f = small (same (mac_of f) (cmac key (body_of f))) 20 (omega arith)

  whole21 : (s f : List ℕ) → Whole b (refuse21 s f)
  unfolding refuse21
  whole21 s f = small (eqb (item_count s) (count_of f)) 21 (omega arith)

  whole25 : (s f : List ℕ) → Whole b (refuse25 s f)
  unfolding refuse25
  whole25 s f = small (eqb (stamp_of s).number (stamp_of f).number) 25 (omega arith)

  -- ---- each call

  module _ (keys s : List ℕ) (few : item_count s < b) where
    tag_within : (c room : ℕ) → Whole b (tag_refusal keys c s room)
    unfolding tag_refusal
    tag_within c room =
        first-whole b (refuse1 (length keys) ∷ refuse2 c ∷ refuse3 s ∷ refuse4 c (item_count s) ∷ refuse5 s ∷ refuse7 (file_size (tag_head c s)) room ∷ [])
        (whole1 (length keys), (whole2 c, (whole3 s, (whole4 c (item_count s), (whole5 b s few, (whole7 (file_size (tag_head c s)) room, tt))))))

    verify_within : (f : List ℕ) → Whole b (verify_refusal keys s f)
    unfolding verify_refusal
    verify_within f =
        first-whole b (refuse1 (length keys) ∷ refuse3 s ∷ refuse5 s ∷ refuse6 f ∷ refuse20 (keys_in keys).seal f ∷ refuse21 s f ∷ refuse25 s f ∷ [])
        (whole1 (length keys), (whole3 s, (whole5 b s few, (whole6 f, (whole20 (keys_in keys).seal f, (whole21 s f, (whole25 s f, tt)))))))

    report_within : (f : List ℕ) (room : ℕ) → Whole b (report_refusal keys s f room)
    unfolding report_refusal
    report_within f room = first-whole b (verify_refusal keys s f ∷ refuse7 (item_count s) room ∷ []) (verify_within f, (whole7 (item_count s) room, tt))

-- ---- what C reads

module _ (keys s : List ℕ) (bytes : Bytes s) where
  pub tag_whole : (c room : ℕ) → Whole 65536 (tag_refusal keys c s room)
  tag_whole = tag_within 65536 keys s (count_small s bytes)

  pub verify_whole : (f : List ℕ) → Whole 65536 (verify_refusal keys s f)
  verify_whole = verify_within 65536 keys s (count_small s bytes)

  pub report_whole : (f : List ℕ) (room : ℕ) → Whole 65536 (report_refusal keys s f room)
  report_whole = report_within 65536 keys s (count_small s bytes)

pub replace_whole : (keys f : List ℕ) (j : ℕ) (old new : List ℕ) (room : ℕ) → Whole 65536 (replace_refusal keys f j old new room)
unfolding replace_refusal
replace_whole keys f j old new room =
    let b : ℕ = 65536 in
    first-whole b
    (refuse1 (length keys) ∷ refuse6 f ∷ refuse20 (keys_in keys).seal f ∷ refuse8 (count_of f) j ∷ refuse9 (length old) 1 ∷ refuse9 (length new) 2
    ∷ refuse7 (file_size (head_of f)) room ∷ []) (
      whole1 b (length keys),
      (
        whole6 b f,
        (
          whole20 b (keys_in keys).seal f,
          (
            whole8 b (count_of f) j,
            (
              whole9 b (length old) 1 (omega arith),
              (whole9 b (length new) 2 (omega arith), (whole7 b (file_size (head_of f)) room, tt)),
            ),
          ),
        ),
      ),
    )

-- the number by itself, of any lists
pub report_number : (keys s f : List ℕ) (room : ℕ) → (report_refusal keys s f room).number < 256
report_number keys s f room = (report_within (item_count s + 1) keys s (omega arith) f room).0
