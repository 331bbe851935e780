-- Two lines that share two points are the same but for a factor, so two different cards share at most one point; and a line ax + by = 1
-- meets each chosen line but the one along it, each at a point of its own.
use Rattle.std.specs.Prelude.{◌≡◌, ◌+◌, ◌-◌, ◌*◌, ◌/◌, ◌%◌, ◌^◌, ◌≤◌, ◌<◌, if◌then◌else◌}
use Rattle.fips197.proofs.Kit.{refl, sym, ap, ap₂, ◌∙◌, Bool, true, false, ℕ, suc, arith, add-zero, mod-lt, mod-eq_of_lt, div-lt_iff_lt-mul, div-add-mod', eqb, leb, eqb-true, eqb-false, eq-eqb, leb-true, leb-false, bit_xor, xor_comm, xor_self, xor_lt}
use Rattle.fips197.proofs.Xor.{xor_cancel, sums}
use native.Mathlib.Nat.{mul-add-div_right, mul-add-mod_self_right, div-eq_of_lt, mul-le-mul_right}
use Rattle.affine.specs.Field.{product, element_inverse}
use Rattle.affine.specs.declared.Line.{Line}
use Rattle.affine.specs.Lines.{points, x_of, y_of, on_line, chosen, crossing, affine_items, line_of}
use Rattle.affine.proofs.FieldLaws.{Field, xor-equal, dist_left, one_right, zero_right, cancel}

-- what stands on one side of an equation of sums can be taken to the other
swap : (a b c d : ℕ) → bit_xor a b ≡ bit_xor c d → bit_xor a c ≡ bit_xor b d
swap a b c d h = ap (λ (z : ℕ). bit_xor z c) (sym (xor_cancel a b) ∙ ap (λ (z : ℕ). bit_xor z b) h) ∙ simp sums

module _ (s : ℕ) where
  -- the point with coordinates x and y
  abbrev pub spot : ℕ → ℕ → ℕ
  spot x y = suc (y * 2 ^ s + x)

  -- the points of a line ax + by = 0: (bt, at)
  abbrev pub point_at : Line → ℕ → ℕ
  point_at L t = spot (product s L.b t) (product s L.a t)

  -- how far two directions differ: 0 where one is along the other
  abbrev pub across : Line → Line → ℕ
  across L M = bit_xor (product s L.a M.b) (product s L.b M.a)

-- the line of a card: a chosen one, or a line ax + by = 1
module _ (s l j : ℕ) where
  pub of_chosen : leb j l ≡ true → line_of s l j ≡ chosen s j
  unfolding line_of
  of_chosen e = rw e

  pub of_crossing : leb j l ≡ false → line_of s l j ≡ crossing s (j - l)
  unfolding line_of
  of_crossing e = rw e

module _ (s : ℕ) (F : Field s) where
  -- there are elements
  positive : 0 < 2 ^ s
  positive = omega (arith, F.some)

  -- a b c = b a c
  turn : (a b c : ℕ) → product s a (product s b c) ≡ product s b (product s a c)
  turn a b c = sym (F.assoc a b c) ∙ ap (λ (z : ℕ). product s z c) (F.comm a b) ∙ F.assoc b a c

  -- two numbers that are the same times u and times v are the same, unless u and v are 0
  cancel_one : (m n u v : ℕ) → m < 2 ^ s → n < 2 ^ s → u < 2 ^ s → v < 2 ^ s → (u ≡ 0 → v ≡ 0 → ⊥)
      → product s m u ≡ product s n u → product s m v ≡ product s n v → m ≡ n
  cancel_one m n u v lm ln lu lv some p q = go (eqb u 0) refl (eqb v 0) refl
    where
      go : (t : Bool) → eqb u 0 ≡ t → (r : Bool) → eqb v 0 ≡ r → m ≡ n
      go false e r f = let ne : (u ≡ 0 → ⊥) = eqb-false u 0 e in cancel s F m n u lm ln (omega arith) lu p
      go true e false f = let ne : (v ≡ 0 → ⊥) = eqb-false v 0 f in cancel s F m n v lm ln (omega arith) lv q
      go true e true f = absurd (some (eqb-true u 0 e) (eqb-true v 0 f))

  -- two directions that are along a third one are along each other
  parallel : (a b a' b' u v : ℕ) → u < 2 ^ s → v < 2 ^ s → (u ≡ 0 → v ≡ 0 → ⊥)
      → product s a u ≡ product s b v → product s a' u ≡ product s b' v → product s a b' ≡ product s a' b
  parallel a b a' b' u v lu lv some p q =
      cancel_one (product s a b') (product s a' b) u v (F.small a b') (F.small a' b) lu lv some
      (F.assoc a b' u ∙ turn a b' u ∙ ap (product s b') p ∙ turn b' b v ∙ ap (product s b) (sym q) ∙ turn b a' u ∙ sym (F.assoc a' b u))
      (F.assoc a b' v ∙ ap (product s a) (sym q) ∙ turn a a' u ∙ ap (product s a') p ∙ sym (F.assoc a' b v))

  -- two lines of one direction that share a point
  minor : (a b c a' b' c' x y : ℕ) → bit_xor (product s a x) (product s b y) ≡ c → bit_xor (product s a' x) (product s b' y) ≡ c'
      → product s a b' ≡ product s a' b → product s b' c ≡ product s b c'
  minor a b c a' b' c' x y p q h =
      ap (product s b') (sym p)
      ∙ F.dist b' (product s a x) (product s b y)
      ∙ ap₂ bit_xor
      (sym (F.assoc b' a x) ∙ ap (λ (z : ℕ). product s z x) (F.comm b' a ∙ h ∙ F.comm a' b) ∙ F.assoc b a' x) (turn b' b y)
      ∙ sym (F.dist b (product s a' x) (product s b' y))
      ∙ ap (product s b) q

  -- ---- points

  -- a point's coordinates are elements
  pub x_low : (p : ℕ) → x_of s p < 2 ^ s
  unfolding x_of
  x_low p = mod-lt (p - 1) positive

  pub y_low : (p : ℕ) → 1 ≤ p → p ≤ points s → y_of s p < 2 ^ s
  unfolding y_of points
  y_low p l u = (div-lt_iff_lt-mul positive).1 (omega arith)

  -- points with the same coordinates are the same
  pub same_point : (p r : ℕ) → 1 ≤ p → 1 ≤ r → x_of s p ≡ x_of s r → y_of s p ≡ y_of s r → p ≡ r
  unfolding x_of y_of
  same_point p r l m ex ey =
      let e : p - 1 ≡ r - 1 =
      sym (div-add-mod' (p - 1) (2 ^ s)) ∙ ap₂ (λ (v w : ℕ). v * 2 ^ s + w) ey ex ∙ div-add-mod' (r - 1) (2 ^ s) in
      omega arith

  -- the point with coordinates x and y is one of them
  pub spot_high : (x y : ℕ) → x < 2 ^ s → y < 2 ^ s → spot s x y ≤ points s
  unfolding points
  spot_high x y u w = omega (arith, mul-le-mul_right (2 ^ s) w)

  -- and has these coordinates
  pub spot_x : (x y : ℕ) → x < 2 ^ s → x_of s (spot s x y) ≡ x
  unfolding x_of
  spot_x x y u = let e : spot s x y - 1 ≡ y * 2 ^ s + x = omega arith in rw e (mul-add-mod_self_right y (2 ^ s) x ∙ mod-eq_of_lt u)

  pub spot_y : (x y : ℕ) → x < 2 ^ s → y_of s (spot s x y) ≡ y
  unfolding y_of
  spot_y x y u =
      let e : spot s x y - 1 ≡ y * 2 ^ s + x = omega arith in
      rw e (mul-add-div_right positive y x ∙ ap (λ (z : ℕ). y + z) (div-eq_of_lt u) ∙ add-zero y)

  -- ---- lines

  -- what a line says of a point that it holds
  pub held : (L : Line) (p : ℕ) → on_line s L p ≡ true → bit_xor (product s L.a (x_of s p)) (product s L.b (y_of s p)) ≡ L.c
  unfolding on_line
  held L p h = eqb-true _ _ h

  -- it holds the points of which that is so
  pub holds_spot : (L : Line) (x y : ℕ) → x < 2 ^ s → bit_xor (product s L.a x) (product s L.b y) ≡ L.c → on_line s L (spot s x y) ≡ true
  unfolding on_line
  holds_spot L x y u h = rw (spot_x x y u, spot_y x y u) (eq-eqb _ _ h)

  -- a line's direction is that from one of its points to another
  direction : (L : Line) (p r : ℕ) → on_line s L p ≡ true → on_line s L r ≡ true
      → product s L.a (bit_xor (x_of s p) (x_of s r)) ≡ product s L.b (bit_xor (y_of s p) (y_of s r))
  direction L p r h k =
      F.dist L.a (x_of s p) (x_of s r)
      ∙ swap (product s L.a (x_of s p)) (product s L.b (y_of s p)) (product s L.a (x_of s r)) (product s L.b (y_of s r))
      (held L p h ∙ sym (held L r k))
      ∙ sym (F.dist L.b (y_of s p) (y_of s r))

  -- two lines that are the same but for a factor
  record Multiple (L M : Line) : Type 0 where
    ab : product s L.a M.b ≡ product s M.a L.b
    bc : product s M.b L.c ≡ product s L.b M.c
    ac : product s M.a L.c ≡ product s L.a M.c

  -- either of the other
  turned : (L M : Line) → Multiple L M → Multiple M L
  turned L M m = record { ab = sym m.ab; bc = sym m.bc; ac = sym m.ac }

  -- lines that share two points are
  multiple : (L M : Line) (p r : ℕ) → 1 ≤ p → p ≤ points s → 1 ≤ r → r ≤ points s → (p ≡ r → ⊥)
      → on_line s L p ≡ true → on_line s M p ≡ true → on_line s L r ≡ true → on_line s M r ≡ true → Multiple L M
  multiple L M p r lp up lr ur ne hl hm kl km = record {
    ab = along;
    bc = minor L.a L.b L.c M.a M.b M.c (x_of s p) (y_of s p) (held L p hl) (held M p hm) along;
    ac = minor L.b L.a L.c M.b M.a M.c (y_of s p) (x_of s p) (other L hl) (other M hm)
        (F.comm L.b M.a ∙ sym along ∙ F.comm L.a M.b);
  }
    where
      along : product s L.a M.b ≡ product s M.a L.b
      along =
          parallel L.a L.b M.a M.b (bit_xor (x_of s p) (x_of s r)) (bit_xor (y_of s p) (y_of s r))
          (xor_lt s (x_of s p) (x_of s r) (x_low p) (x_low r)) (xor_lt s (y_of s p) (y_of s r) (y_low p lp up) (y_low r lr ur))
          (λ ex ey. ne (same_point p r lp lr (xor-equal (x_of s p) (x_of s r) ex) (xor-equal (y_of s p) (y_of s r) ey)))
          (direction L p r hl kl) (direction M p r hm km)

      other : (N : Line) → on_line s N p ≡ true → bit_xor (product s N.b (y_of s p)) (product s N.a (x_of s p)) ≡ N.c
      other N h = xor_comm (product s N.b (y_of s p)) (product s N.a (x_of s p)) ∙ held N p h

  -- a line ax + by = c of elements, a and b not both 0
  pub record Proper (L : Line) : Type 0 where
    pub low_a : L.a < 2 ^ s
    pub low_b : L.b < 2 ^ s
    pub low_c : L.c < 2 ^ s
    pub some : L.a ≡ 0 → L.b ≡ 0 → ⊥

  -- where such a line is ax + by = 0, it is no multiple of a line ax + by = 1
  no_multiple : (L M : Line) → Proper L → L.c ≡ 0 → M.c ≡ 1 → Multiple L M → ⊥
  no_multiple L M P z o m = P.some (zeroed L.a M.a P.low_a m.ac) (zeroed L.b M.b P.low_b m.bc)
    where
      zeroed : (v w : ℕ) → v < 2 ^ s → product s w L.c ≡ product s v M.c → v ≡ 0
      zeroed v w u e = sym (one_right s F v u) ∙ ap (product s v) (sym o) ∙ sym e ∙ ap (product s w) z ∙ zero_right s F w

  -- ---- the cards' lines

  -- a chosen line, by whether it is one of y = kx
  abbrev chosen_by : ℕ → Bool → Line
  chosen_by k t = if t then (record { a = k - 1; b = 1; c = 0 }) else (record { a = 1; b = 0; c = 0 })

  -- chosen lines are ax + by = 0
  pub chosen_through : (k : ℕ) → (chosen s k).c ≡ 0
  unfolding chosen
  chosen_through k = go (leb k (2 ^ s))
    where
      go : (t : Bool) → (chosen_by k t).c ≡ 0
      go true = refl
      go false = refl

  -- the cards' lines have a and b not both 0
  pub chosen_proper : (k : ℕ) → 1 ≤ k → Proper (chosen s k)
  unfolding chosen
  chosen_proper k l = go (leb k (2 ^ s)) refl
    where
      go : (t : Bool) → leb k (2 ^ s) ≡ t → Proper (chosen_by k t)
      go true e = record { low_a = omega (arith, leb-true k (2 ^ s) e); low_b = F.some; low_c = positive; some = λ x y. omega arith }
      go false e = record { low_a = F.some; low_b = positive; low_c = positive; some = λ x y. omega arith }

  pub crossing_proper : (n : ℕ) → 0 < n → n < points s → Proper (crossing s n)
  unfolding crossing points
  crossing_proper n l u = record {
    low_a = (div-lt_iff_lt-mul positive).1 u;
    low_b = mod-lt n positive;
    low_c = F.some;
    some = λ x y.
        let d : n / 2 ^ s * 2 ^ s + n % 2 ^ s ≡ n = div-add-mod' n (2 ^ s) in
        let z : 0 * 2 ^ s + 0 ≡ n = rw (x, y) at d in
        omega arith;
  }

  -- the other lines are ax + by = 1
  pub crossing-one : (n : ℕ) → (crossing s n).c ≡ 1
  unfolding crossing
  crossing-one n = refl

  -- chosen lines of one direction are the same
  same_chosen : (k i : ℕ) → 1 ≤ k → k ≤ 2 ^ s + 1 → 1 ≤ i → i ≤ 2 ^ s + 1
      → product s (chosen s k).a (chosen s i).b ≡ product s (chosen s i).a (chosen s k).b → k ≡ i
  unfolding chosen
  same_chosen k i lk uk li ui = go (leb k (2 ^ s)) refl (leb i (2 ^ s)) refl
    where
      uneven : (v : ℕ) → product s v 0 ≡ product s 1 1 → ⊥
      uneven v h = let z : ◌≡◌ {A = ℕ} 0 1 = sym (zero_right s F v) ∙ h ∙ F.one 1 F.some in omega arith

      go : (t : Bool) → leb k (2 ^ s) ≡ t → (r : Bool) → leb i (2 ^ s) ≡ r
          → product s (chosen_by k t).a (chosen_by i r).b ≡ product s (chosen_by i r).a (chosen_by k t).b → k ≡ i
      go true e true f h =
          let u : k ≤ 2 ^ s = leb-true k (2 ^ s) e in
          let w : i ≤ 2 ^ s = leb-true i (2 ^ s) f in
          let z : k - 1 ≡ i - 1 = cancel s F (k - 1) (i - 1) 1 (omega arith) (omega arith) (omega arith) F.some h in
          omega arith
      go true e false f h = absurd (uneven (k - 1) h)
      go false e true f h = absurd (uneven (i - 1) (sym h))
      go false e false f h = omega (arith, leb-false k (2 ^ s) e, leb-false i (2 ^ s) f)

  -- lines ax + by = 1 that are the same but for a factor are the same
  same-crossing : (n m : ℕ) → 0 < n → n < points s → 0 < m → m < points s → Multiple (crossing s n) (crossing s m) → n ≡ m
  unfolding crossing
  same-crossing n m ln un lm um M =
      sym (div-add-mod' n (2 ^ s))
      ∙ ap₂ (λ (v w : ℕ). v * 2 ^ s + w)
      (cancel s F (n / 2 ^ s) (m / 2 ^ s) 1 N.low_a R.low_a (omega arith) F.some (sym M.ac))
      (cancel s F (n % 2 ^ s) (m % 2 ^ s) 1 N.low_b R.low_b (omega arith) F.some (sym M.bc))
      ∙ div-add-mod' m (2 ^ s)
    where
      N : Proper (crossing s n)
      N = crossing_proper n ln un

      R : Proper (crossing s m)
      R = crossing_proper m lm um

  module _ (l : ℕ) (most : l ≤ 2 ^ s + 1) where
    -- cards whose lines are the same but for a factor are the same
    same-card : (j k : ℕ) → 1 ≤ j → j ≤ affine_items s l → 1 ≤ k → k ≤ affine_items s l → Multiple (line_of s l j) (line_of s l k) → j ≡ k
    unfolding affine_items crossing
    same-card j k lj uj lk uk m = go (leb j l) refl (leb k l) refl
      where
        go : (t : Bool) → leb j l ≡ t → (r : Bool) → leb k l ≡ r → j ≡ k
        go true e true f =
            same_chosen j k lj (omega (arith, leb-true j l e)) lk (omega (arith, leb-true k l f)) (rw (of_chosen s l j e, of_chosen s l k f) at m.ab)
        go true e false f =
            absurd (no_multiple (chosen s j) (crossing s (k - l)) (chosen_proper j lj) (chosen_through j) refl
            (rw (of_chosen s l j e, of_crossing s l k f) at m))
        go false e true f =
            absurd (no_multiple (chosen s k) (crossing s (j - l)) (chosen_proper k lk) (chosen_through k) refl
            (rw (of_crossing s l j e, of_chosen s l k f) at (turned (line_of s l j) (line_of s l k) m)))
        go false e false f =
            let u : l < j = leb-false j l e in
            let w : l < k = leb-false k l f in
            let z : j - l ≡ k - l =
            same-crossing (j - l) (k - l) (omega arith) (omega arith) (omega arith) (omega arith) (rw (of_crossing s l j e, of_crossing s l k f) at m) in
            omega arith

    -- two different cards share at most one point
    pub share_one_point : (j k : ℕ) → 1 ≤ j → j ≤ affine_items s l → 1 ≤ k → k ≤ affine_items s l → (k ≡ j → ⊥)
        → (p r : ℕ) → 1 ≤ p → p ≤ points s → 1 ≤ r → r ≤ points s
        → on_line s (line_of s l j) p ≡ true → on_line s (line_of s l k) p ≡ true
        → on_line s (line_of s l j) r ≡ true → on_line s (line_of s l k) r ≡ true → p ≡ r
    share_one_point j k lj uj lk uk ne p r lp up lr ur hj hk gj gk = go (eqb p r) refl
      where
        go : (t : Bool) → eqb p r ≡ t → p ≡ r
        go true e = eqb-true p r e
        go false e =
            absurd (ne (sym (same-card j k lj uj lk uk
            (multiple (line_of s l j) (line_of s l k) p r lp up lr ur (eqb-false p r e) hj hk gj gk))))

  -- ---- where lines meet

  -- the points of a line are among the points
  pub point_at_high : (L : Line) (t : ℕ) → point_at s L t ≤ points s
  point_at_high L t = spot_high (product s L.b t) (product s L.a t) (F.small L.b t) (F.small L.a t)

  -- a chosen line holds its points
  pub chosen-holds : (k t : ℕ) → on_line s (chosen s k) (point_at s (chosen s k) t) ≡ true
  chosen-holds k t =
      holds_spot (chosen s k) (product s b t) (product s a t) (F.small b t)
      (ap (λ (w : ℕ). bit_xor w (product s b (product s a t))) (turn a b t) ∙ xor_self (product s b (product s a t)) ∙ sym (chosen_through k))
    where
      a : ℕ
      a = (chosen s k).a

      b : ℕ
      b = (chosen s k).b

  -- and they are different
  pub same_place : (k t u : ℕ) → 1 ≤ k → t < 2 ^ s → u < 2 ^ s → point_at s (chosen s k) t ≡ point_at s (chosen s k) u → t ≡ u
  same_place k t u l lt lu e =
      cancel_one t u a b lt lu P.low_a P.low_b P.some
      (F.comm t a ∙ sym (y_at t) ∙ ap (y_of s) e ∙ y_at u ∙ F.comm a u)
      (F.comm t b ∙ sym (x_at t) ∙ ap (x_of s) e ∙ x_at u ∙ F.comm b u)
    where
      a : ℕ
      a = (chosen s k).a

      b : ℕ
      b = (chosen s k).b

      P : Proper (chosen s k)
      P = chosen_proper k l

      x_at : (v : ℕ) → x_of s (point_at s (chosen s k) v) ≡ product s b v
      x_at v = spot_x (product s b v) (product s a v) (F.small b v)

      y_at : (v : ℕ) → y_of s (point_at s (chosen s k) v) ≡ product s a v
      y_at v = spot_y (product s b v) (product s a v) (F.small b v)

  -- at most one chosen line is along a line ax + by = 1
  pub one_along : (n : ℕ) → 0 < n → n < points s → (k i : ℕ) → 1 ≤ k → k ≤ 2 ^ s + 1 → 1 ≤ i → i ≤ 2 ^ s + 1
      → across s (crossing s n) (chosen s k) ≡ 0 → across s (crossing s n) (chosen s i) ≡ 0 → k ≡ i
  one_along n low high k i lk uk li ui e f =
      same_chosen k i lk uk li ui
      (F.comm (chosen s k).a (chosen s i).b
      ∙ parallel (chosen s i).b (chosen s i).a (chosen s k).b (chosen s k).a a b P.low_a P.low_b P.some (even i f) (even k e)
      ∙ F.comm (chosen s k).b (chosen s i).a)
    where
      a : ℕ
      a = (crossing s n).a

      b : ℕ
      b = (crossing s n).b

      P : Proper (crossing s n)
      P = crossing_proper n low high

      even : (m : ℕ) → across s (crossing s n) (chosen s m) ≡ 0 → product s (chosen s m).b a ≡ product s (chosen s m).a b
      even m z = F.comm (chosen s m).b a ∙ xor-equal (product s a (chosen s m).b) (product s b (chosen s m).a) z ∙ F.comm b (chosen s m).a

  -- it meets each of the others
  pub meets : (n : ℕ) (M : Line) → (across s (crossing s n) M ≡ 0 → ⊥)
      → on_line s (crossing s n) (point_at s M (element_inverse s (across s (crossing s n) M))) ≡ true
  meets n M ne =
      holds_spot (crossing s n) (product s M.b t) (product s M.a t) (F.small M.b t)
      (ap₂ bit_xor (sym (F.assoc a M.b t)) (sym (F.assoc b M.a t))
      ∙ sym (dist_left s F (product s a M.b) (product s b M.a) t)
      ∙ F.inv (across s (crossing s n) M) (omega arith) (xor_lt s (product s a M.b) (product s b M.a) (F.small a M.b) (F.small b M.a))
      ∙ sym (crossing-one n))
    where
      a : ℕ
      a = (crossing s n).a

      b : ℕ
      b = (crossing s n).b

      t : ℕ
      t = element_inverse s (across s (crossing s n) M)

  -- and no two of them at one point
  pub one_meets : (n k i p : ℕ) → 1 ≤ k → k ≤ 2 ^ s + 1 → 1 ≤ i → i ≤ 2 ^ s + 1 → 1 ≤ p → p ≤ points s
      → on_line s (crossing s n) p ≡ true → on_line s (chosen s k) p ≡ true → on_line s (chosen s i) p ≡ true → k ≡ i
  one_meets n k i p lk uk li ui lp up h hk hi =
      same_chosen k i lk uk li ui
      (parallel (chosen s k).a (chosen s k).b (chosen s i).a (chosen s i).b (x_of s p) (y_of s p) (x_low p) (y_low p lp up) origin
      (even k hk) (even i hi))
    where
      even : (m : ℕ) → on_line s (chosen s m) p ≡ true → product s (chosen s m).a (x_of s p) ≡ product s (chosen s m).b (y_of s p)
      even m g =
          xor-equal (product s (chosen s m).a (x_of s p)) (product s (chosen s m).b (y_of s p)) (held (chosen s m) p g ∙ chosen_through m)

      origin : x_of s p ≡ 0 → y_of s p ≡ 0 → ⊥
      origin x y =
          let z : bit_xor (product s (crossing s n).a 0) (product s (crossing s n).b 0) ≡ (crossing s n).c = rw (x, y) at (held (crossing s n) p h) in
          let o : ◌≡◌ {A = ℕ} 0 1 = sym (ap₂ bit_xor (zero_right s F (crossing s n).a) (zero_right s F (crossing s n).b)) ∙ z ∙ crossing-one n in
          omega arith
