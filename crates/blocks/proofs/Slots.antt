-- Blocks one after another in a list: writing one leaves the others, and a walk writes them all.
use Rattle.std.specs.Prelude.{◌≡◌, ◌++◌, ◌⊎◌, ◌+◌, ◌-◌, ◌*◌, ◌≤◌, ◌<◌}
use Rattle.fips197.proofs.Kit.{refl, sym, ap, ap₂, ◌∙◌, List, append_assoc, inl, inr, ℕ, zero, suc, le_of_suc-le-suc, eq-or-lt_of_le, arith, add-one, length, take, drop, length-append, length-take, length-drop, take-append-drop, take-append-le, take-add, drop-append-le, drop-append-add, drop_at, take_at, drop-drop}
use Rattle.blocks.specs.Block.{slot, list_of}

pub slot-length : (s : List ℕ) (k : ℕ) → 16 * k + 16 ≤ length s → length (slot s k) ≡ 16
unfolding slot
slot-length s k h = simp (length-take, length-drop) (omega arith)

-- a block of the front is a block of the whole
pub slot-front : (a b : List ℕ) (k : ℕ) → 16 * k + 16 ≤ length a → slot (a ++ b) k ≡ slot a k
unfolding slot
slot-front a b k h =
    ap (take 16) (drop-append-le (16 * k) a b (omega arith)) ∙ take-append-le 16 (drop (16 * k) a) b (simp length-drop (omega arith))

-- and one behind it is one of the rest
pub slot-behind : (a b : List ℕ) (k n : ℕ) → length a ≡ 16 * n → slot (a ++ b) (n + k) ≡ slot b k
unfolding slot
slot-behind a b k n h =
    let e : 16 * (n + k) ≡ length a + 16 * k = omega arith in
    ap (λ (m : ℕ). take 16 (drop m (a ++ b))) e ∙ ap (take 16) (drop-append-add a b (16 * k))

pub slot-first : (a b : List ℕ) → length a ≡ 16 → slot (a ++ b) 0 ≡ a
unfolding slot
slot-first a b h = take_at a b 16 h

-- block k is written, and all else stays
abbrev pub written : List ℕ → ℕ → List ℕ → List ℕ
written s k new = take (16 * k) s ++ (new ++ drop (16 * k + 16) s)

module _ (s : List ℕ) (k : ℕ) (new : List ℕ) (fits : 16 * k + 16 ≤ length s) (long : length new ≡ 16) where
  head : length (take (16 * k) s) ≡ 16 * k
  head = simp length-take (omega arith)

  pub written_length : length (written s k new) ≡ length s
  written_length = simp (length-append, length-take, length-drop) (omega arith)

  pub slot_here : slot (written s k new) k ≡ new
  unfolding slot
  slot_here = ap (take 16) (drop_at (take (16 * k) s) (new ++ drop (16 * k + 16) s) (16 * k) head) ∙ take_at new (drop (16 * k + 16) s) 16 long

  pub slot_before : (j : ℕ) → j < k → slot (written s k new) j ≡ slot s j
  slot_before j l =
      let b : 16 * j + 16 ≤ length (take (16 * k) s) = omega (arith, head) in
      slot-front (take (16 * k) s) (new ++ drop (16 * k + 16) s) j b
      ∙ sym (slot-front (take (16 * k) s) (drop (16 * k) s) j b)
      ∙ ap (λ (t : List ℕ). slot t j) (take-append-drop (16 * k) s)

  -- all that is behind it
  pub drop-after : (m : ℕ) → 16 * k + 16 ≤ m → drop m (written s k new) ≡ drop m s
  drop-after m l =
      let n = m - (16 * k + 16) in
      let e : m ≡ length (take (16 * k) s ++ new) + n = simp length-append (omega (arith, head)) in
      let f : 16 * k + 16 + n ≡ m = omega arith in
      ap₂ drop e (sym (append_assoc (take (16 * k) s) new (drop (16 * k + 16) s)))
      ∙ drop-append-add (take (16 * k) s ++ new) (drop (16 * k + 16) s) n
      ∙ drop-drop n (16 * k + 16) s ∙ ap (λ (m : ℕ). drop m s) f

  pub slot-after : (j : ℕ) → k < j → slot (written s k new) j ≡ slot s j
  unfolding slot
  slot-after j l = ap (take 16) (drop-after (16 * j) (omega arith))

-- ---- blocks written one after another

-- the first k of a list of blocks stand at the front of what o was
pub record Front (f : ℕ → List ℕ) (o : List ℕ) (k : ℕ) (out : List ℕ) : Type 0 where
  pub long : length (list_of f k) ≡ 16 * k
  pub size : length out ≡ length o
  pub so : out ≡ list_of f k ++ drop (16 * k) o

pub front-first : (f : ℕ → List ℕ) (o : List ℕ) → Front f o 0 o
unfolding list_of
front-first f o = record { long = refl; size = refl; so = refl }

pub front-next : (f : ℕ → List ℕ) (o : List ℕ) (k : ℕ) (out r out' : List ℕ) → Front f o k out → 16 * (k + 1) ≤ length o → r ≡ f k → length r ≡ 16
    → out' ≡ take (16 * k) out ++ (r ++ drop (16 * k + 16) out) → Front f o (k + 1) out'
unfolding list_of
front-next f o k out r out' F h e l g =
    let P = list_of f k in
    let m : 16 * (k + 1) ≡ 16 * k + 16 = omega arith in
    let t : take (16 * k) out ≡ P = ap (take (16 * k)) F.so ∙ take_at P (drop (16 * k) o) (16 * k) F.long in
    let d : drop (16 * k + 16) out ≡ drop (16 * k + 16) o
    = sym (drop-drop 16 (16 * k) out) ∙ ap (λ (x : List ℕ). drop 16 (drop (16 * k) x)) F.so
    ∙ ap (drop 16) (drop_at P (drop (16 * k) o) (16 * k) F.long) ∙ drop-drop 16 (16 * k) o in
    let w : out' ≡ (P ++ r) ++ drop (16 * k + 16) o = g ∙ ap₂ (λ (x y : List ℕ). x ++ (r ++ y)) t d ∙ sym (append_assoc P r (drop (16 * k + 16) o)) in
    let q : length (P ++ r) ≡ 16 * k + 16 = length-append P r ∙ omega (arith, F.long) in
    let v : P ++ r ≡ list_of f (k + 1) = ap (λ (x : List ℕ). P ++ x) e ∙ ap (list_of f) (sym (add-one k)) in
    record {
      long = ap length (sym v) ∙ q ∙ sym m;
      size = ap length w ∙ simp (length-append, length-drop) (omega (arith, F.long));
      so = w ∙ ap₂ (λ (x : List ℕ) (y : ℕ). x ++ drop y o) v (sym m);
    }

pub front_done : (f : ℕ → List ℕ) (o : List ℕ) (k n : ℕ) (out : List ℕ) → Front f o k out → k ≡ n → out ≡ list_of f n ++ drop (16 * n) o
front_done f o k n out F e = F.so ∙ ap (λ (m : ℕ). list_of f m ++ drop (16 * m) o) e

-- the block that the walk comes to next is still o's
pub front_here : (f : ℕ → List ℕ) (o : List ℕ) (k : ℕ) (out : List ℕ) → Front f o k out → slot out k ≡ slot o k
unfolding slot
front_here f o k out F =
    ap (λ (x : List ℕ). take 16 (drop (16 * k) x)) F.so ∙ ap (take 16) (drop_at (list_of f k) (drop (16 * k) o) (16 * k) F.long)

-- so a walk may write each block over the one that it was made of
pub place-next : (g : ℕ → List ℕ → List ℕ) (o : List ℕ) (k : ℕ) (out b r out' : List ℕ) → Front (λ i. g i (slot o i)) o k out
    → 16 * (k + 1) ≤ length o → b ≡ take 16 (drop (16 * k) out) → r ≡ g k b → length r ≡ 16
    → out' ≡ take (16 * k) out ++ (r ++ drop (16 * k + 16) out) → Front (λ i. g i (slot o i)) o (k + 1) out'
unfolding slot
place-next g o k out b r out' F h eb er l e =
    front-next (λ i. g i (slot o i)) o k out r out' F h (er ∙ ap (g k) (eb ∙ front_here (λ i. g i (slot o i)) o k out F)) l e

-- ---- lists of blocks

-- the first n blocks of a list are its first 16 n elements
pub slots_front : (s : List ℕ) (n : ℕ) → list_of (slot s) n ≡ take (16 * n) s
unfolding list_of slot
slots_front s zero = refl
slots_front s (suc n) =
    let e : 16 * n + 16 ≡ 16 * suc n = omega arith in
    ap (λ (t : List ℕ). t ++ take 16 (drop (16 * n) s)) (slots_front s n) ∙ sym (take-add (16 * n) 16 s) ∙ ap (λ (k : ℕ). take k s) e

pub list_of-length : (f : ℕ → List ℕ) (n : ℕ) → ((k : ℕ) → k < n → length (f k) ≡ 16) → length (list_of f n) ≡ 16 * n
unfolding list_of
list_of-length f zero h = refl
list_of-length f (suc n) h =
    let r = list_of-length f n (λ k l. h k (omega arith)) in
    let e = h n (omega arith) in
    length-append (list_of f n) (f n) ∙ omega arith

pub list_of_ext : (f g : ℕ → List ℕ) (n : ℕ) → ((k : ℕ) → k < n → f k ≡ g k) → list_of f n ≡ list_of g n
unfolding list_of
list_of_ext f g zero h = refl
list_of_ext f g (suc n) h = ap₂ ◌++◌ (list_of_ext f g n (λ k l. h k (omega arith))) (h n (omega arith))

-- block k of a list of blocks is the one that was put there
pub slot-list_of : (f : ℕ → List ℕ) (n : ℕ) (rest : List ℕ) → ((k : ℕ) → k < n → length (f k) ≡ 16) → (k : ℕ) → k < n
    → slot (list_of f n ++ rest) k ≡ f k
unfolding list_of
slot-list_of f zero rest h k l = absurd (omega arith)
slot-list_of f (suc n) rest h k l = go (eq-or-lt_of_le (le_of_suc-le-suc l)) (slot-list_of f n (f n ++ rest) (λ m c. h m (omega arith)) k)
  where
    whole : length (list_of f n) ≡ 16 * n
    whole = list_of-length f n (λ m b. h m (omega arith))

    go : (k ≡ n) ⊎ (k < n) → (k < n → slot (list_of f n ++ (f n ++ rest)) k ≡ f k) → slot ((list_of f n ++ f n) ++ rest) k ≡ f k
    go (inl e) earlier =
        let z : n + 0 ≡ k = omega arith in
        ap (λ (x : List ℕ). slot x k) (append_assoc (list_of f n) (f n) rest)
        ∙ ap (slot (list_of f n ++ (f n ++ rest))) (sym z)
        ∙ slot-behind (list_of f n) (f n ++ rest) 0 n whole ∙ slot-first (f n) rest (h n (omega arith)) ∙ ap f (sym e)
    go (inr b) earlier = ap (λ (x : List ℕ). slot x k) (append_assoc (list_of f n) (f n) rest) ∙ earlier b

-- a walk in place over blocks that were put there makes its blocks of those
pub second_walk : (f : ℕ → List ℕ) (g : ℕ → List ℕ → List ℕ) (n : ℕ) (o a b : List ℕ) → ((k : ℕ) → k < n → length (f k) ≡ 16)
    → a ≡ list_of f n ++ drop (16 * n) o → b ≡ list_of (λ k. g k (slot a k)) n ++ drop (16 * n) a
    → b ≡ list_of (λ k. g k (f k)) n ++ drop (16 * n) o
second_walk f g n o a b h ea eb =
    let blocks : list_of (λ k. g k (slot a k)) n ≡ list_of (λ k. g k (f k)) n
    = list_of_ext (λ k. g k (slot a k)) (λ k. g k (f k)) n
    (λ k l. ap (g k) (ap (λ (x : List ℕ). slot x k) ea ∙ slot-list_of f n (drop (16 * n) o) h k l)) in
    let rest : drop (16 * n) a ≡ drop (16 * n) o
    = ap (drop (16 * n)) ea ∙ drop_at (list_of f n) (drop (16 * n) o) (16 * n) (list_of-length f n h) in
    eb ∙ ap₂ ◌++◌ blocks rest
