-- The rows of a circulant as D(x) makes them: acting on the sequence that is 1 at card j and at every m-th place from it, D(x) gives at place i whether row i
-- holds card j; and any polynomial of degree below m shows its coefficients there.
use Rattle.std.specs.Prelude.{◌≡◌, ◌&&◌, ◌||◌, ◌∷◌, ◌+◌, ◌-◌, ◌*◌, ◌/◌, ◌%◌, ◌≤◌, ◌<◌, if◌then◌else◌}
use Rattle.fips197.proofs.Kit.{refl, sym, ap, ap₂, ◌∙◌, Bool, true, false, xor, and-true, and-false, List, [], ℕ, zero, suc, add-mod_right, mod-add-mod, mod-lt, mod-eq_of_lt, mod_self, div-add-mod', add-mul-mod_self_right, arith, eqb, ltb, get_or, set, take, get_or-set_same, get_or-set_other, eqb-true, eqb-false, eq-eqb, ne_eqb, ltb-true, ltb-false}
use Rattle.plane.specs.Plane.{member, on}
use Rattle.plane.proofs.Cyclic.{on-inside}
use Rattle.polynomials.specs.Polynomial.{poly_size}
use Rattle.incidence.proofs.Parity.{xor-none, xor_turn}
use Rattle.polynomials.proofs.Acting.{act, act_take, size_tail, take_few, zeros-at}
use Rattle.polynomials.proofs.Lessening.{size_by}
use Rattle.polynomials.proofs.Recurring.{act_quiet}
use Rattle.cyclic.specs.CyclicCode.{of_list}
use Rattle.cyclic.proofs.Terms.{of_list_length}

-- a polynomial on a sequence that is 1 at one of n places shows that coefficient
act_single : (p : List ℕ) (c n : ℕ) (f : ℕ → Bool) (u : ℕ) → c < n → poly_size p ≤ n → f (u + c) ≡ true
    → ((k : ℕ) → k < n → (k ≡ c → ⊥) → f (u + k) ≡ false) → act p f u ≡ eqb (get_or p c 0) 1
unfolding act
act_single [] c n f u l s here others = refl
act_single (a ∷ p) c zero f u l s here others = absurd (omega arith)
act_single (a ∷ p) zero (suc n) f u l s here others =
    let z : u ≡ u + 0 = omega arith in
    ap₂ (λ (x y : Bool). xor (eqb a 1 && x) y) (ap f z ∙ here)
    (sym (act_take n p f (suc u) (size_tail a n p s))
    ∙ act_quiet (take n p) f (suc u)
    (λ k b.
    let e : suc u + k ≡ u + suc k = omega arith in
    ap f e ∙ others (suc k) (omega (arith, take_few n p)) (λ q. omega arith)))
    ∙ xor_turn (eqb a 1 && true) false
    ∙ xor-none (eqb a 1 && true)
    ∙ and-true (eqb a 1)
act_single (a ∷ p) (suc c) (suc n) f u l s here others =
    let z : u ≡ u + 0 = omega arith in
    let e : suc u + c ≡ u + suc c = omega arith in
    ap₂ (λ (x y : Bool). xor (eqb a 1 && x) y) (ap f z ∙ others 0 (omega arith) (λ q. omega arith))
    (act_single p c n f (suc u) (omega arith) (size_tail a n p s) (ap f e ∙ here)
    (λ k b q. let e : suc u + k ≡ u + suc k = omega arith in ap f e ∙ others (suc k) (omega arith) (λ r. q (omega arith))))
    ∙ ap (λ (t : Bool). xor t (eqb (get_or p c 0) 1)) (and-false (eqb a 1))
    ∙ xor-none (eqb (get_or p c 0) 1)

-- ---- places that are card j

-- whether place z is card j, or a number of whole turns from it
unfoldable pub at_card : ℕ → ℕ → ℕ → Bool
at_card m j z = eqb (z % m) (j % m)

pub at_card_period : (m j z : ℕ) → at_card m j (z + m) ≡ at_card m j z
unfolding at_card
at_card_period m j z = ap (λ (x : ℕ). eqb x (j % m)) (add-mod_right z m)

module _ (m : ℕ) (some : 0 < m) where
  -- fewer than m places on, the remainder is another
  mod_moves : (a b : ℕ) → 0 < b → b < m → (a + b) % m ≡ a % m → ⊥
  mod_moves a b l u e = go (ltb (a % m + b) m) refl
    where
      r : ℕ
      r = a % m

      small : r < m
      small = mod-lt a some

      same : (r + b) % m ≡ r
      same = mod-add-mod a m b ∙ e

      go : (t : Bool) → ltb (r + b) m ≡ t → ⊥
      go true t = omega (arith, same, mod-eq_of_lt (ltb-true (r + b) m t))
      go false t =
          let h : m ≤ r + b = ltb-false (r + b) m t in
          let z : r + b ≡ r + b - m + m = omega arith in
          let s : r + b - m < m = omega (arith, small) in
          omega (arith, same, ap (λ (x : ℕ). x % m) z, add-mod_right (r + b - m) m, mod-eq_of_lt s)

  module _ (j u : ℕ) where
    -- how far card j is from place u, going on
    abbrev ahead : ℕ
    ahead = (j + (m - u % m)) % m

    ahead_at : (u + ahead) % m ≡ j % m
    ahead_at =
        let e : u + ahead ≡ ahead + u = omega arith in
        let whole : u / m * m + u % m ≡ u = div-add-mod' u m in
        let small : u % m < m = mod-lt u some in
        let z : j + (m - u % m) + u ≡ j + m + u / m * m = omega (arith, whole, small) in
        ap (λ (x : ℕ). x % m) e ∙ mod-add-mod (j + (m - u % m)) m u ∙ ap (λ (x : ℕ). x % m) z ∙ add-mul-mod_self_right (j + m) (u / m) m ∙ add-mod_right j m

    others : (k : ℕ) → k < m → (k ≡ ahead → ⊥) → at_card m j (u + k) ≡ false
    unfolding at_card
    others k l ne = ne_eqb ((u + k) % m) (j % m) (λ q. meets (q ∙ sym ahead_at))
      where
        small : ahead < m
        small = mod-lt (j + (m - u % m)) some

        meets : (u + k) % m ≡ (u + ahead) % m → ⊥
        meets q = go (ltb k ahead) refl
          where
            go : (t : Bool) → ltb k ahead ≡ t → ⊥
            go true t =
                let h : k < ahead = ltb-true k ahead t in
                let z : u + ahead ≡ u + k + (ahead - k) = omega arith in
                mod_moves (u + k) (ahead - k) (omega arith) (omega (arith, small)) (ap (λ (x : ℕ). x % m) (sym z) ∙ sym q)
            go false t =
                let h : ahead ≤ k = ltb-false k ahead t in
                let z : u + k ≡ u + ahead + (k - ahead) = omega arith in
                mod_moves (u + ahead) (k - ahead) (omega (arith, ne)) (omega arith) (ap (λ (x : ℕ). x % m) (sym z) ∙ q)

    -- a polynomial of degree below m shows the coefficient that is so far ahead
    pub shows : (p : List ℕ) → poly_size p ≤ m → act p (at_card m j) u ≡ eqb (get_or p ahead 0) 1
    unfolding at_card
    shows p s = act_single p ahead m (at_card m j) u (mod-lt (j + (m - u % m)) some) s (eq-eqb _ (j % m) ahead_at) others

-- ---- the coefficients of D(x)

list_at : (m : ℕ) (D : List ℕ) (c : ℕ) → c < m → eqb (get_or (of_list m D) c 0) 1 ≡ member c D
unfolding of_list
list_at m [] c l = ap (λ (x : ℕ). eqb x 1) (zeros-at (suc m) c)
list_at m (e ∷ D) c l = go (list_at m D c l) (ltb e m) refl (eqb c e) refl
  where
    go : eqb (get_or (of_list m D) c 0) 1 ≡ member c D → (t : Bool) → ltb e m ≡ t → (s : Bool) → eqb c e ≡ s
        → eqb (get_or (if t then set (of_list m D) e 1 else of_list m D) c 0) 1 ≡ s || member c D
    go ih true h true q =
        let z : c ≡ e = eqb-true c e q in
        ap (λ (x : ℕ). eqb (get_or (set (of_list m D) e 1) x 0) 1) z
        ∙ ap (λ (x : ℕ). eqb x 1) (get_or-set_same (of_list m D) e 1 0 (omega (arith, of_list_length m D)))
    go ih true h false q = ap (λ (x : ℕ). eqb x 1) (get_or-set_other (of_list m D) e c 1 0 (eqb-false c e q)) ∙ ih
    go ih false h true q = absurd (omega (arith, eqb-true c e q, ltb-false e m h))
    go ih false h false q = ih

-- none at x^m
list_top : (m : ℕ) (D : List ℕ) (i : ℕ) → m ≤ i → get_or (of_list m D) i 0 ≡ 0
unfolding of_list
list_top m [] i h = zeros-at (suc m) i
list_top m (e ∷ D) i h = go (list_top m D i h) (ltb e m) refl
  where
    go : get_or (of_list m D) i 0 ≡ 0 → (t : Bool) → ltb e m ≡ t → get_or (if t then set (of_list m D) e 1 else of_list m D) i 0 ≡ 0
    go ih true q = get_or-set_other (of_list m D) e i 1 0 (λ z. omega (arith, ltb-true e m q)) ∙ ih
    go ih false q = ih

list-size : (m : ℕ) (D : List ℕ) → poly_size (of_list m D) ≤ m
list-size m D = size_by (of_list m D) m (λ i h e. omega (arith, e, list_top m D i h))

-- ---- the rows

module _ (m : ℕ) (D : List ℕ) (some : 0 < m) where
  pub row_shows : (j i : ℕ) → act (of_list m D) (at_card m j) i ≡ member ((j + (m - i % m)) % m) D
  row_shows j i = shows m some j i (of_list m D) (list-size m D) ∙ list_at m D ((j + (m - i % m)) % m) (mod-lt (j + (m - i % m)) some)

  pub row_on : (i j : ℕ) → 1 ≤ i → i ≤ m → 1 ≤ j → j ≤ m → act (of_list m D) (at_card m j) i ≡ on m D i j
  row_on i j li ui lj uj = row_shows j i ∙ ap (λ (x : ℕ). member x D) (go (ltb i m) refl) ∙ sym (on-inside m D i j li ui lj uj)
    where
      go : (t : Bool) → ltb i m ≡ t → (j + (m - i % m)) % m ≡ (j + m - i) % m
      go true e =
          let l : i < m = ltb-true i m e in
          let z : j + (m - i) ≡ j + m - i = omega arith in
          ap (λ (x : ℕ). (j + (m - x)) % m) (mod-eq_of_lt l) ∙ ap (λ (x : ℕ). x % m) z
      go false e =
          let z : i ≡ m = omega (arith, ltb-false i m e) in
          let y : j + m - m ≡ j = omega arith in
          let x : j + (m - 0) ≡ j + m = omega arith in
          rw (z, mod_self m, y, x) (add-mod_right j m)
