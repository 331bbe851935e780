-- The message file: what each check of the code settles, and where the items of a file that is not refused lie.
use Rattle.std.specs.Prelude.{◌≡◌, ◌&&◌, ◌⊎◌, ◌∷◌, ◌+◌, ◌-◌, ◌≤◌, ◌<◌}
use denote.Ref.{Bor}
use Rattle.fips197.proofs.Kit.{refl, sym, ap, ap₂, ◌∙◌, Bool, true, false, inl, inr, List, [], ℕ, zero, suc, not-suc-le-zero, le_of_suc-le-suc, eq-or-lt_of_le, add-one, arith, eqb, leb, length, take, drop, leb-true, le-leb, lt-leb, eq-eqb, ne_eqb}
use Rattle.incidence.specs.Count.{inside}
use Rattle.stamp.specs.Front.{version_of, begins_as}
use Rattle.stamp.proofs.Fronts.{begins_as_so, begins_as_yes}
use Rattle.files.specs.Refusals.{Refusal}
use Rattle.files.specs.Refusals.{refusal, none, unless, first}
use Rattle.files.specs.Message.{number16, message_letters, newest_message, items_at, item_count, behind, item_start, item_size, refuse3, item_fits, refuse_items, refuse5, refuse8, fetch_refusal, fetch_start, fetch_size, PartOf}
use Rattle.incidence.proofs.Booleans.{and_left, and_right, and_both, and_false_l, and_false_r}
use Rattle.files.proofs.Passing.{first_here, first_later, rest-passes, unless_true, unless_false, unless-passes, Plain, plain_unless, plain_first, plain_last, number_along}

-- ---- 3

pub headed : (s : List ℕ) → (refuse3 s).number ≡ 0 → (items_at (version_of s) ≤ length s) × (length s ≤ 65536)
unfolding refuse3
headed s h =
    let a = begins_as message_letters newest_message (items_at (version_of s)) s in
    let b = leb (length s) 65536 in
    let t = unless-passes (a && b) 3 0 (omega arith) h in
    ((begins_as_so message_letters newest_message s (items_at (version_of s)) (and_left a b t)).long, leb-true (length s) 65536 (and_right a b t))

pub header_right : (s : List ℕ) → items_at (version_of s) ≤ length s → length s ≤ 65536 → take 3 s ≡ message_letters → inside newest_message (version_of s) ≡ true
    → refuse3 s ≡ none
unfolding refuse3
header_right s l u e v =
    unless_true _ 3 0 (and_both (begins_as_yes message_letters newest_message s (items_at (version_of s)) l e ∙ v) (le-leb (length s) 65536 u))

-- ---- an item fits

module _ (s : List ℕ) (at : ℕ) where
  pub fits-not-length : length s < at + 2 → false ≡ item_fits s at
  unfolding item_fits
  fits-not-length h = sym (and_false_l _ (leb (number16 s at) 1024 && leb (at + 2 + number16 s at) (length s)) (lt-leb (at + 2) (length s) h))

  pub fits-not-size : 1024 < number16 s at → false ≡ item_fits s at
  unfolding item_fits
  fits-not-size h = sym (and_false_r (leb (at + 2) (length s)) _ (and_false_l _ (leb (at + 2 + number16 s at) (length s)) (lt-leb (number16 s at) 1024 h)))

  pub fits_else : at + 2 ≤ length s → number16 s at ≤ 1024 → leb (at + 2 + number16 s at) (length s) ≡ item_fits s at
  unfolding item_fits
  fits_else h g = sym (ap₂ (λ (a b : Bool). a && (b && leb (at + 2 + number16 s at) (length s))) (le-leb (at + 2) (length s) h) (le-leb (number16 s at) 1024 g))

  pub record Fits : Type 0 where
    pub head : at + 2 ≤ length s
    pub small : number16 s at ≤ 1024
    pub room : at + 2 + number16 s at ≤ length s

  pub fits-so : item_fits s at ≡ true → Fits
  unfolding item_fits
  fits-so h =
      let b = and_right (leb (at + 2) (length s)) _ h in
      record {
        head = leb-true _ _ (and_left (leb (at + 2) (length s)) _ h);
        small = leb-true _ _ (and_left (leb (number16 s at) 1024) (leb (at + 2 + number16 s at) (length s)) b);
        room = leb-true _ _ (and_right (leb (number16 s at) 1024) (leb (at + 2 + number16 s at) (length s)) b);
      }

-- ---- 5

module _ (s : List ℕ) where
  -- one item more
  pub behind_more : (k at : ℕ) → at ≡ behind s k → at + 2 + number16 s at ≡ behind s (k + 1)
  unfolding behind
  behind_more k at e = ap (λ (a : ℕ). a + 2 + number16 s a) e ∙ ap (behind s) (sym (add-one k))

  -- each takes two bytes at least
  pub behind-low : (k : ℕ) → k + k ≤ behind s k
  unfolding behind
  behind-low zero = omega arith
  behind-low (suc k) = omega (arith, behind-low k)

  pub items_more : (k at : ℕ) (t : Bool) → refuse_items s k ≡ none → at ≡ behind s k → t ≡ item_fits s at → t ≡ true → refuse_items s (k + 1) ≡ none
  unfolding refuse_items first
  items_more k at t p e f h =
      ap (refuse_items s) (add-one k)
      ∙ first_later (refuse_items s k) (unless (item_fits s (behind s k)) 5 (suc k) ∷ []) p
      ∙ first_later (unless (item_fits s (behind s k)) 5 (suc k)) [] (unless_true _ 5 (suc k) (ap (item_fits s) (sym e) ∙ sym f ∙ h))

  stopped : (k at : ℕ) (t : Bool) → refuse_items s k ≡ none → at ≡ behind s k → t ≡ item_fits s at → t ≡ false → refuse_items s (suc k) ≡ refusal 5 (suc k)
  unfolding refuse_items
  stopped k at t p e f h =
      let u = unless_false (item_fits s (behind s k)) 5 (suc k) (ap (item_fits s) (sym e) ∙ sym f ∙ h) in
      first_later (refuse_items s k) _ p
      ∙ ap (λ (r : Refusal). first (r ∷ [])) u ∙ first_here (refusal 5 (suc k)) [] (λ (z : 5 ≡ 0). omega arith)

  -- a refusal stays, however many items there are
  stays : (n k : ℕ) (r : Refusal) → (r.number ≡ 0 → ⊥) → refuse_items s k ≡ r → k ≤ n → refuse_items s n ≡ r
  unfolding refuse_items
  stays zero k r h e l = let z : k ≡ 0 = omega arith in ap (refuse_items s) (sym z) ∙ e
  stays (suc n) k r h e l = go (eq-or-lt_of_le l) (λ (b : k ≤ n). stays n k r h e b)
    where
      go : (k ≡ suc n) ⊎ (k < suc n) → (k ≤ n → refuse_items s n ≡ r) → refuse_items s (suc n) ≡ r
      go (inl q) f = ap (refuse_items s) (sym q) ∙ e
      go (inr q) f =
          let p = f (le_of_suc-le-suc q) in
          ap (λ (x : Refusal). first (x ∷ unless (item_fits s (behind s n)) 5 (suc n) ∷ [])) p ∙ first_here r _ h

  pub items_stop : (k at n : ℕ) (t : Bool) → refuse_items s k ≡ none → at ≡ behind s k → t ≡ item_fits s at → t ≡ false → n ≡ item_count s → k < n
      → refusal 5 (k + 1) ≡ refuse5 s
  unfolding refuse5
  items_stop k at n t p e f h c l =
      let b : suc k ≤ item_count s = omega arith in
      let q = stays (item_count s) (suc k) (refusal 5 (suc k)) (λ (z : 5 ≡ 0). omega arith) (stopped k at t p e f h) b in
      ap (refusal 5) (add-one k)
      ∙ sym (ap (λ (r : Refusal). first (r ∷ unless (eqb (behind s (item_count s)) (length s)) 5 (item_count s + 1) ∷ [])) q ∙ first_here (refusal 5 (suc k)) _ (λ (z : 5 ≡ 0). omega arith))

  ended : (k at n : ℕ) → refuse_items s k ≡ none → at ≡ behind s k → n ≡ item_count s → k ≡ n
      → refuse5 s ≡ first (unless (eqb at (length s)) 5 (n + 1) ∷ [])
  unfolding refuse5
  ended k at n p e c q =
      let z = ap (refuse_items s) (sym (q ∙ c)) ∙ p in
      first_later (refuse_items s (item_count s)) _ z
      ∙ (λ i. first (unless (eqb ((ap (behind s) (sym (q ∙ c)) ∙ sym e) i) (length s)) 5 (sym c i + 1) ∷ []))

  pub items_end : (k at n : ℕ) → refuse_items s k ≡ none → at ≡ behind s k → n ≡ item_count s → k ≡ n → unless (eqb at (length s)) 5 (n + 1) ≡ refuse5 s
  items_end k at n p e c q =
      sym (ended k at n p e c q ∙ plain_last (unless (eqb at (length s)) 5 (n + 1)) (plain_unless _ 5 (n + 1) (omega arith)))

  -- every item of a file that is not refused fits
  items_fit : (n k : ℕ) → (refuse_items s n).number ≡ 0 → k < n → Fits s (behind s k)
  unfolding refuse_items
  items_fit zero k h l = absurd (not-suc-le-zero l)
  items_fit (suc n) k h l = go (eq-or-lt_of_le (le_of_suc-le-suc l)) (λ (b : k < n). items_fit n k both.0 b)
    where
      both : ((refuse_items s n).number ≡ 0) × ((first (unless (item_fits s (behind s n)) 5 (suc n) ∷ [])).number ≡ 0)
      both = rest-passes (refuse_items s n) _ h

      here : item_fits s (behind s n) ≡ true
      here = unless-passes _ 5 (suc n) (omega arith) (rest-passes (unless (item_fits s (behind s n)) 5 (suc n)) [] both.1).0

      go : (k ≡ n) ⊎ (k < n) → (k < n → Fits s (behind s k)) → Fits s (behind s k)
      go (inl q) f = fits-so s (behind s k) (ap (λ (j : ℕ). item_fits s (behind s j)) q ∙ here)
      go (inr q) f = f q

  pub item-fits : (k : ℕ) → (refuse5 s).number ≡ 0 → k < item_count s → Fits s (behind s k)
  unfolding refuse5
  item-fits k h l = items_fit (item_count s) k (rest-passes (refuse_items s (item_count s)) _ h).0 l

-- ---- what passes is none

pub plain3 : (s : List ℕ) → Plain (refuse3 s)
unfolding refuse3
plain3 s = plain_unless (begins_as message_letters newest_message (items_at (version_of s)) s && leb (length s) 65536) 3 0 (omega arith)

plain_items : (s : List ℕ) (k : ℕ) → Plain (refuse_items s k)
unfolding refuse_items
plain_items s zero h = refl
plain_items s (suc k) h =
    plain_first (refuse_items s k ∷ unless (item_fits s (behind s k)) 5 (suc k) ∷ [])
    (plain_items s k, (plain_unless (item_fits s (behind s k)) 5 (suc k) (omega arith), tt)) h

pub plain5 : (s : List ℕ) → Plain (refuse5 s)
unfolding refuse5
plain5 s =
    plain_first (refuse_items s (item_count s) ∷ unless (eqb (behind s (item_count s)) (length s)) 5 (item_count s + 1) ∷ [])
    (plain_items s (item_count s), (plain_unless (eqb (behind s (item_count s)) (length s)) 5 (item_count s + 1) (omega arith), tt))

-- ---- Fetch

-- a file and a number that Fetch does not refuse
pub record Fetchable (s : List ℕ) (j : ℕ) : Type 0 where
  pub long : items_at (version_of s) ≤ length s
  pub short : length s ≤ 65536
  pub whole : refuse5 s ≡ none
  pub low : 1 ≤ j
  pub high : j ≤ item_count s

pub fetchable : (s : List ℕ) (j : ℕ) (r : Refusal) → r ≡ fetch_refusal s j → r.number ≡ 0 → Fetchable s j
unfolding fetch_refusal refuse8
fetchable s j r e h =
    let a = rest-passes _ _ (number_along r _ e h) in
    let b = rest-passes _ _ a.1 in
    let t = unless-passes (leb 1 j && leb j (item_count s)) 8 0 (omega arith) (rest-passes (refuse8 (item_count s) j) [] b.1).0 in
    let l = headed s a.0 in
    record {
      long = l.0;
      short = l.1;
      whole = plain5 s b.0;
      low = leb-true 1 j (and_left (leb 1 j) (leb j (item_count s)) t);
      high = leb-true j (item_count s) (and_right (leb 1 j) (leb j (item_count s)) t);
    }

-- what Fetch gives
module _ (s r : Bor (List ℕ)) (j : ℕ) (q : Refusal) (e : q ≡ fetch_refusal s.now j) where
  pub fetched : q.number ≡ 0 → (at n : ℕ) → at ≡ behind s.now (j - 1) → n ≡ number16 s.now at
      → r.now ≡ take (at + 2 + n - (at + 2)) (drop (at + 2) s.now) → r.ref_ptr.0 ≡ s.ref_ptr.0 → r.ref_ptr.1 ≡ s.ref_ptr.1 + (at + 2)
      → PartOf s (fetch_start s.now j) (fetch_size s.now j) r
  unfolding fetch_start fetch_size item_start item_size
  fetched h at n p m b k o =
      let d : at + 2 + n - (at + 2) ≡ n = omega arith in
      simp (← e, eq-eqb _ _ h, ← p, ← m) record { bytes = rw d at b; block = k; offset = o }

  pub unfetched : (q.number ≡ 0 → ⊥) → r.now ≡ take 0 s.now → r.ref_ptr ≡ s.ref_ptr → PartOf s (fetch_start s.now j) (fetch_size s.now j) r
  unfolding fetch_start fetch_size
  unfetched h b k =
      simp (← e, ne_eqb _ _ h) record { bytes = b; block = ap (λ (x : ℕ × ℕ). x.0) k; offset = ap (λ (x : ℕ × ℕ). x.1) k ∙ omega arith }
