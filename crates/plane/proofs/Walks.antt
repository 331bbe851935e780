-- Where the rows of an item and the items of a row stand, in rising order, by ranks in the difference list; the first rows are the tags.
use Rattle.std.specs.Prelude.{◌≡◌, ◌&&◌, ◌++◌, ◌+◌, ◌-◌, ◌≤◌, ◌<◌, ◌%◌, if◌then◌else◌}
use Rattle.fips197.proofs.Kit.{refl, sym, ap, ◌∙◌, subst, Bool, true, false, List, [], map, ℕ, suc, add-mod_right, mod-eq_of_lt, arith, ltb, leb, length, get_or, take, drop, length-append, length-drop, length-take-le, get_or-append-add, List·getD-append, get_or-take, get_or-drop, ext_get_or, ltb-true, ltb-false, length-map, lt-ltb, le-ltb, le-leb, lt-leb}
use Rattle.blocks.proofs.Loop.{map_at}
use Rattle.incidence.specs.Count.{indicator, count_up_to, listed, inside}
use Rattle.incidence.specs.Family.{rows_of, items_of, tags_of}
use Rattle.incidence.proofs.Booleans.{and_false_r}
use Rattle.incidence.proofs.Counting.{inside-low, inside-high, count_ext, count_up, count_before}
use Rattle.incidence.proofs.Listing.{Member, rows_of-at, items_of-at, listed_at, listed_ext, listed_upto, listed-length, stands, none-listed}
use Rattle.plane.specs.Table.{plane_items, plane_tags, plane_limit, differences, plane_pattern}
use Rattle.plane.specs.Plane.{member, on, made, tagged, plane}
use Rattle.plane.specs.Walk.{Walk}
use Rattle.plane.proofs.Ranks.{rank, above_at, under_at, member-at, rank_before, rank_most, rank_least, rank_length, count_add, count_down}
use Rattle.plane.proofs.Lookup.{items-most, differences_few, pattern_few, some_low, some_high}
use Rattle.plane.proofs.Rules.{rules}
use Rattle.plane.proofs.Cyclic.{Rules, within-at, on-inside, turned, hit, count_hits, count_turn, column-weight, row-weight}

-- ---- answers of the code's tests

pub tag_yes : (t u i : ℕ) → u ≡ t → i ≤ u → i ≡ tagged t i
unfolding tagged
tag_yes t u i e h = rw (le-leb i t (omega arith))

pub tag_no : (t u i : ℕ) → u ≡ t → u < i → 0 ≡ tagged t i
unfolding tagged
tag_no t u i e h = rw (lt-leb i t (omega arith))

-- ---- items of a row, rows of an item

module _ (m t d : ℕ) (D P : List ℕ) (R : Rules m t d D P) where
  H : ℕ → Bool
  H = hit m t d D P R

  -- the items 1 to n that row i holds
  first-items : (i n : ℕ) → 1 ≤ i → i ≤ m → n ≤ m → count_up_to (on m D i) n + rank D (m - i) ≡ count_up_to H (m - i + n)
  unfolding H
  first-items i n li ui u =
      let g : count_up_to (on m D i) n ≡ count_up_to (λ k. H (m - i + k)) n =
      count_ext (on m D i) (λ k. H (m - i + k)) n
      (λ r a b. on-inside m D i r li ui a (omega arith) ∙ ap H (let e : r + m - i ≡ m - i + r = omega arith in e)) in
      omega (arith, g, count_add H (m - i) n, count_hits m t d D P R (m - i) (omega arith))

  -- row i holds item j where j − i leads to a difference
  on_difference : (i j k : ℕ) → 1 ≤ i → i ≤ m → 1 ≤ j → j ≤ m → k < length D
      → (j + m - i) % m ≡ get_or D k 0 → on m D i j ≡ true
  on_difference i j k li ui lj uj l e = on-inside m D i j li ui lj uj ∙ ap (λ (x : ℕ). member x D) e ∙ member-at D k l

  small : (k : ℕ) → k < length D → get_or D k 0 % m ≡ get_or D k 0
  small k l = mod-eq_of_lt (under_at m D R.below k l)

  module _ (i : ℕ) (li : 1 ≤ i) (ui : i ≤ m) where
    pub items-length : length (listed (on m D i) m) ≡ length D
    items-length = listed-length (on m D i) m ∙ row-weight m t d D P R i li ui ∙ sym R.size

    -- a difference e above m − i goes round to item i + e − m
    item_by_round : (k n e : ℕ) → n < length D → e ≡ get_or D n 0 → m - i < e → n ≡ rank D (m - i) + k
        → get_or (listed (on m D i) m) k 0 ≡ i + e - m
    unfolding H
    item_by_round k n e l q u r =
        let hi : get_or D n 0 < m = under_at m D R.below n l in
        let f : i + e - m + m - i ≡ e = omega arith in
        let g : m - i + (i + e - m - 1) ≡ e - 1 = omega arith in
        stands (on m D i) m (i + e - m) k (omega arith) (omega arith)
        (on_difference i (i + e - m) n li ui (omega arith) (omega arith) l (ap (λ (x : ℕ). x % m) (f ∙ q) ∙ small n l))
        (omega (
          arith,
          first-items i (i + e - m - 1) li ui (omega arith),
          ap (count_up_to H) g,
          count_hits m t d D P R (e - 1) (omega arith),
          ap (λ (x : ℕ). rank D (x - 1)) q,
          rank_before 0 D R.rises n l,
        ))

    -- another leads to item i + e
    item_by_ahead : (k n e : ℕ) → n < length D → e ≡ get_or D n 0 → e ≤ m - i → n + suc d ≡ k + rank D (m - i)
        → get_or (listed (on m D i) m) k 0 ≡ i + e
    unfolding H
    item_by_ahead k n e l q u r =
        let lo : 0 < get_or D n 0 = above_at 0 D R.rises n l in
        let hi : get_or D n 0 < m = under_at m D R.below n l in
        let f : i + e + m - i ≡ e + m = omega arith in
        let g : m - i + (i + e - 1) ≡ m + (e - 1) = omega arith in
        stands (on m D i) m (i + e) k (omega arith) (omega arith)
        (on_difference i (i + e) n li ui (omega arith) (omega arith) l (ap (λ (x : ℕ). x % m) f ∙ add-mod_right e m ∙ ap (λ (x : ℕ). x % m) q ∙ small n l))
        (omega (
          arith,
          first-items i (i + e - 1) li ui (omega arith),
          ap (count_up_to H) g,
          count_turn m t d D P R (e - 1),
          count_hits m t d D P R (e - 1) (omega arith),
          ap (λ (x : ℕ). rank D (x - 1)) q,
          rank_before 0 D R.rises n l,
        ))

    -- the rows of item m + 1 − i are the items of row i, each counted from the other end
    rows-length : length (listed (λ r. on m D r (m + 1 - i)) m) ≡ length D
    rows-length = listed-length (λ r. on m D r (m + 1 - i)) m ∙ column-weight m t d D P R (m + 1 - i) (omega arith) (omega arith) ∙ sym R.size

    held : (r : ℕ) → 1 ≤ r → r ≤ m → on m D r (m + 1 - i) ≡ on m D i (m + 1 - r)
    held r l u =
        let e : m + 1 - (m + 1 - i) ≡ i = omega arith in
        turned m D r (m + 1 - i) l u (omega arith) (omega arith) ∙ ap (λ (x : ℕ). on m D x (m + 1 - r)) e

    row_back : (k x : ℕ) → k < length D → x ≡ get_or (listed (on m D i) m) (length D - 1 - k) 0
        → get_or (listed (λ r. on m D r (m + 1 - i)) m) k 0 ≡ m + 1 - x
    row_back k x h q =
        let M : Member (on m D i) m (length D - 1 - k) x
        = subst (Member (on m D i) m (length D - 1 - k)) (sym q)
        (listed_at (on m D i) m (length D - 1 - k) (omega (arith, row-weight m t d D P R i li ui, R.size))) in
        let y : m + 1 - (m + 1 - x) ≡ x = omega (arith, M.high) in
        let e : m + 1 - x - 1 ≡ m - x = omega arith in
        let g : x + suc (m - x) ≡ m + 1 = omega (arith, M.high) in
        let z : x + (m - x) ≡ m = omega (arith, M.high) in
        let w : suc (x - 1) ≡ x = omega (arith, M.low) in
        let back : count_up_to (λ r. on m D r (m + 1 - i)) (m - x) ≡ count_up_to (λ k. on m D i (x + k)) (m - x)
        = count_ext (λ r. on m D r (m + 1 - i)) (λ r. on m D i (x + suc (m - x) - r)) (m - x)
        (λ r a b. held r a (omega arith) ∙ ap (λ (v : ℕ). on m D i (v - r)) (sym g))
        ∙ count_down (on m D i) x (m - x) in
        stands (λ r. on m D r (m + 1 - i)) m (m + 1 - x) k (omega (arith, M.high)) (omega (arith, M.low))
        (held (m + 1 - x) (omega (arith, M.high)) (omega (arith, M.low)) ∙ ap (on m D i) y ∙ M.passes)
        (omega (
          arith,
          ap (count_up_to (λ r. on m D r (m + 1 - i))) e,
          back,
          count_add (on m D i) x (m - x),
          ap (count_up_to (on m D i)) z,
          ap (count_up_to (on m D i)) w,
          ap (λ (v : ℕ). indicator (on m D i v)) w,
          ap indicator M.passes,
          M.rank,
          row-weight m t d D P R i li ui,
          R.size,
        ))

-- ---- out of range

on_no_row : (m : ℕ) (D : List ℕ) (i j : ℕ) → inside m i ≡ false → on m D i j ≡ false
unfolding on
on_no_row m D i j e = rw e

on_no_item : (m : ℕ) (D : List ℕ) (i j : ℕ) → inside m j ≡ false → on m D i j ≡ false
unfolding on
on_no_item m D i j e = rw e (go (inside m i))
  where
    go : (b : Bool) → (b && false) && member ((j + m - i) % m) D ≡ false
    go true = refl
    go false = refl

module _ (s j : ℕ) (out : inside (plane_items s) j ≡ false) where
  pub tags_out : tags_of (plane s) j ≡ []
  unfolding plane tags_of
  tags_out = none-listed _ (plane_tags s) (λ k. on_no_item (plane_items s) (differences s) (tagged (plane_tags s) k) j out)

  pub items_out : items_of (plane s) j ≡ []
  unfolding plane items_of
  items_out = none-listed _ (plane_items s) (λ i. on_no_row (plane_items s) (differences s) j i out)

-- ---- by s, as the code goes

module _ {s i turn : ℕ} {D : List ℕ} (W : Walk s i D turn) where
  pub few : length D ≤ 17
  few = omega (arith, ap length W.list, differences_few s)

  pub walk_rules : Rules (plane_items s) (plane_tags s) (plane_limit s) D (plane_pattern s)
  walk_rules =
      subst (λ (L : List ℕ). Rules (plane_items s) (plane_tags s) (plane_limit s) L (plane_pattern s)) (sym W.list)
      (rules s (some_low s (omega (arith, W.low, W.high))) (some_high s (omega (arith, W.low, W.high))))

  pub walk_turn : turn ≤ length D
  walk_turn = omega (arith, W.place, rank_length D (plane_items s - i))

  pub difference_high : {k e : ℕ} → k < length D → e ≡ get_or D k 0 → e ≤ 273
  difference_high {k} h q = omega (arith, under_at (plane_items s) D walk_rules.below k h, items-most s)

  items_are : listed (on (plane_items s) D i) (plane_items s) ≡ items_of (plane s) i
  unfolding plane items_of
  items_are = ap (λ (L : List ℕ). listed (on (plane_items s) L i) (plane_items s)) W.list

  -- how many items the row has, and as many rows the item that stands as far from the end
  pub items-many : length (items_of (plane s) i) ≡ length D
  items-many = ap length (sym items_are) ∙ items-length (plane_items s) (plane_tags s) (plane_limit s) D (plane_pattern s) walk_rules i W.low W.high

  rows_are : listed (λ r. on (plane_items s) D r (plane_items s + 1 - i)) (plane_items s) ≡ rows_of (plane s) (plane_items s + 1 - i)
  unfolding plane rows_of
  rows_are = ap (λ (L : List ℕ). listed (λ r. on (plane_items s) L r (plane_items s + 1 - i)) (plane_items s)) W.list

  pub rows-many : length (rows_of (plane s) (plane_items s + 1 - i)) ≡ length D
  rows-many = ap length (sym rows_are) ∙ rows-length (plane_items s) (plane_tags s) (plane_limit s) D (plane_pattern s) walk_rules i W.low W.high

  pub walk_high : {k x : ℕ} → k < length D → x ≡ get_or (items_of (plane s) i) k 0 → x ≤ plane_items s
  unfolding plane
  walk_high {k} {x} h q = omega (arith, (items_of-at (plane s) i k (omega (arith, items-many))).high)

  module _ {k : ℕ} (h : k < length D) where
    -- the row at place k of the item that stands as far from the end
    pub walk_back : {x m : ℕ} → m ≡ plane_items s → x ≡ get_or (items_of (plane s) i) (length D - 1 - k) 0 → m + 1 - x ≡ get_or (rows_of (plane s) (plane_items s + 1 - i)) k 0
    walk_back {x} o q =
        let e : x ≡ get_or (listed (on (plane_items s) D i) (plane_items s)) (length D - 1 - k) 0
        = q ∙ ap (λ (L : List ℕ). get_or L (length D - 1 - k) 0) (sym items_are) in
        ap (λ (v : ℕ). v + 1 - x) o
        ∙ sym (row_back (plane_items s) (plane_tags s) (plane_limit s) D (plane_pattern s) walk_rules i W.low W.high k x h e)
        ∙ ap (λ (L : List ℕ). get_or L k 0) rows_are

    -- the item at place k: the differences from place `turn` on, and then the others
    module _ {e : ℕ} (l : turn + k < length D) (w : e ≡ get_or D (turn + k) 0) where
      leads_past : plane_items s - i < e
      leads_past = omega (arith, rank_least 0 D walk_rules.rises (plane_items s - i) (turn + k) l (omega (arith, W.place)))

      pub round_past : {m : ℕ} → m ≡ plane_items s → m ≤ i + e
      round_past o = omega (arith, leads_past)

      pub round_item : {m : ℕ} → m ≡ plane_items s → i + e - m ≡ get_or (items_of (plane s) i) k 0
      round_item o =
          ap (λ (v : ℕ). i + e - v) o
          ∙ sym (item_by_round (plane_items s) (plane_tags s) (plane_limit s) D (plane_pattern s) walk_rules i W.low W.high
          k (turn + k) e l w leads_past (omega (arith, W.place)))
          ∙ ap (λ (L : List ℕ). get_or L k 0) items_are

    module _ (l : length D ≤ turn + k) where
      pub ahead_place : turn + k - length D < length D
      ahead_place = omega (arith, walk_turn)

      pub ahead_item : {e : ℕ} → e ≡ get_or D (turn + k - length D) 0 → i + e ≡ get_or (items_of (plane s) i) k 0
      ahead_item {e} w =
          let u : e ≤ plane_items s - i
          = omega (arith, rank_most 0 D walk_rules.rises (plane_items s - i) (turn + k - length D) ahead_place (omega (arith, W.place))) in
          sym (item_by_ahead (plane_items s) (plane_tags s) (plane_limit s) D (plane_pattern s) walk_rules i W.low W.high
          k (turn + k - length D) e ahead_place w u (omega (arith, W.place, walk_rules.size)))
          ∙ ap (λ (L : List ℕ). get_or L k 0) items_are

  -- the list from place `turn` on and the list before it, each moved, are the items
  module _ {A B : List ℕ} {m : ℕ} (o : m ≡ plane_items s) (ea : A ≡ drop turn D) (eb : B ≡ take turn D) where
    round_long : length A ≡ length D - turn
    round_long = ap length ea ∙ length-drop turn D

    ahead_long : length B ≡ turn
    ahead_long = ap length eb ∙ length-take-le turn D walk_turn

    round_read : (k : ℕ) → get_or A k 0 ≡ get_or D (turn + k) 0
    round_read k = ap (λ (L : List ℕ). get_or L k 0) ea ∙ get_or-drop turn D k 0

    pub round_all : (k : ℕ) → k < length A → m ≤ i + get_or A k 0
    round_all k h = round_past (omega (arith, round_long, walk_turn)) (omega (arith, round_long)) (round_read k) o

    first : List ℕ
    first = map (λ e. i + e - m) A

    others : List ℕ
    others = map (λ e. i + e - 0) B

    first-long : length first ≡ length D - turn
    unfolding first
    first-long = length-map A (λ e. i + e - m) ∙ round_long

    others_long : length others ≡ turn
    unfolding others
    others_long = length-map B (λ e. i + e - 0) ∙ ahead_long

    parts_at : (k : ℕ) → k < length D → get_or (first ++ others) k 0 ≡ get_or (items_of (plane s) i) k 0
    unfolding first others
    parts_at k h = go (ltb (turn + k) (length D)) refl
      where
        go : (t : Bool) → ltb (turn + k) (length D) ≡ t → get_or (first ++ others) k 0 ≡ get_or (items_of (plane s) i) k 0
        go true t =
            let l : turn + k < length D = ltb-true (turn + k) (length D) t in
            List·getD-append first others 0 k (omega (arith, first-long))
            ∙ map_at (λ e. i + e - m) A k (omega (arith, round_long))
            ∙ round_item h l (round_read k) o
        go false t =
            let l : length D ≤ turn + k = ltb-false (turn + k) (length D) t in
            let j = turn + k - length D in
            let e : k ≡ length first + j = omega (arith, first-long, walk_turn) in
            let z : i + get_or B j 0 - 0 ≡ i + get_or B j 0 = omega arith in
            ap (λ (x : ℕ). get_or (first ++ others) x 0) e
            ∙ get_or-append-add first others j 0
            ∙ map_at (λ e. i + e - 0) B j (omega (arith, ahead_long))
            ∙ z
            ∙ ahead_item h l (ap (λ (L : List ℕ). get_or L j 0) eb ∙ get_or-take turn D j 0 (omega arith))

    pub parts_items : map (λ e. i + e - m) A ++ map (λ e. i + e - 0) B ≡ items_of (plane s) i
    unfolding first others
    parts_items =
        let long : length (first ++ others) ≡ length D = length-append first others ∙ omega (arith, first-long, others_long, walk_turn) in
        ext_get_or 0 (first ++ others) (items_of (plane s) i) (long ∙ sym items-many) (λ k h. parts_at k (omega (arith, long)))

-- rows 1 to t have the tags 1 to t, so the tags of an item are the first of its rows
module _ (s j : ℕ) (fits : plane_tags s ≤ plane_items s) where
  tags_are : tags_of (plane s) j ≡ listed (λ i. (plane s).on i j) (plane_tags s)
  unfolding plane tags_of
  tags_are =
      listed_ext _ (λ i. (plane s).on i j) (plane_tags s) (λ k l u. ap (λ (i : ℕ). (plane s).on i j) (sym (tag_yes (plane_tags s) (plane_tags s) k refl u)))

  tags-many : length (tags_of (plane s) j) ≡ count_up_to (λ i. (plane s).on i j) (plane_tags s)
  tags-many = ap length tags_are ∙ listed-length (λ i. (plane s).on i j) (plane_tags s)

  pub tags_fewer : length (tags_of (plane s) j) ≤ length (rows_of (plane s) j)
  unfolding plane rows_of
  tags_fewer =
      omega (
        arith,
        tags-many,
        count_up (λ i. (plane s).on i j) (plane_tags s) (plane_items s) fits,
        listed-length (λ i. (plane s).on i j) (plane_items s),
      )

  module _ {k r : ℕ} (h : k < length (rows_of (plane s) j)) (e : r ≡ get_or (rows_of (plane s) j) k 0) where
    row : Member (λ i. (plane s).on i j) (plane s).rows k r
    row = subst (Member (λ i. (plane s).on i j) (plane s).rows k) (sym e) (rows_of-at (plane s) j k h)

    -- up to t, a row is a tag
    pub tag_next : r ≤ plane_tags s → k < length (tags_of (plane s) j)
    tag_next u = omega (arith, tags-many, row.rank, count_before (λ i. (plane s).on i j) (plane_tags s) r row.low u row.passes)

    pub tag_at : r ≤ plane_tags s → r ≡ get_or (tags_of (plane s) j) k 0
    unfolding plane rows_of
    tag_at u =
        e
        ∙ listed_upto (λ i. (plane s).on i j) (plane_tags s) (plane_items s) k fits (omega (arith, tags-many, tag_next u))
        ∙ ap (λ (L : List ℕ). get_or L k 0) (sym tags_are)

    -- past t, there are no more
    pub tags_end : plane_tags s < r → length (tags_of (plane s) j) ≤ k
    tags_end u = omega (arith, tags-many, row.rank, count_up (λ i. (plane s).on i j) (plane_tags s) (r - 1) (omega arith))

-- what the code's tests and calls establish
pub walk_of : {s i m turn : ℕ} {D : List ℕ} → 1 ≤ i → i ≤ plane_items s → m ≡ plane_items s → D ≡ differences s → turn ≡ rank D (m - i) → Walk s i D turn
walk_of {s} {i} {m} {turn} {D} l u o e p =
    record { low = l; high = u; list = e; place = p ∙ ap (λ (v : ℕ). rank D (v - i)) o }

-- both lists fit into a buffer of 17, whatever s and the number
by_inside : {A : Type 0} (s i : ℕ) → (1 ≤ i → i ≤ plane_items s → A) → (inside (plane_items s) i ≡ false → A) → A
by_inside {A} s i f g = go (inside (plane_items s) i) refl
  where
    go : (b : Bool) → inside (plane_items s) i ≡ b → A
    go true e = f (inside-low (plane_items s) i e) (inside-high (plane_items s) i e)
    go false e = g e

pub item_list_few : (s i : ℕ) → length (items_of (plane s) i) ≤ 17
item_list_few s i =
    by_inside s i (λ l u. let W : Walk s i (differences s) _ = walk_of l u refl refl refl in omega (arith, few W, items-many W))
    (λ e. omega (arith, ap length (items_out s i e)))

pub tag_list_few : (s j : ℕ) → length (tags_of (plane s) j) ≤ 17
tag_list_few s j =
    by_inside s j
    (λ l u. let e : plane_items s + 1 - (plane_items s + 1 - j) ≡ j = omega arith in
    let W : Walk s (plane_items s + 1 - j) (differences s) _ = walk_of (omega arith) (omega arith) refl refl refl in
    omega (arith, few W, rows-many W, ap (λ (x : ℕ). length (rows_of (plane s) x)) e, tags_fewer s j (walk_rules W).fits))
    (λ e. omega (arith, ap length (tags_out s j e)))

-- ---- made rows

module _ (s i : ℕ) where
  pub made-none-low : i ≤ plane_tags s → (plane s).made i ≡ []
  unfolding plane made
  made-none-low u = rw (le-ltb (plane_tags s) i u)

  pub made-none-high : plane_items s < i → (plane s).made i ≡ []
  unfolding plane made
  made-none-high u = rw (lt-leb i (plane_items s) u, and_false_r (ltb (plane_tags s) i) false refl)

  pub made_list_few : length ((plane s).made i) ≤ 35
  unfolding plane made
  made_list_few = go (ltb (plane_tags s) i && leb i (plane_items s))
    where
      go : (b : Bool) → length (if b then map (λ k. i - k) (plane_pattern s) else []) ≤ 35
      go true = omega (arith, length-map (plane_pattern s) (λ k. i - k), pattern_few s)
      go false = omega arith

  -- where a row is made of others
  module _ (past : plane_tags s < i) (upto : i ≤ plane_items s) where
    made_is : (plane s).made i ≡ map (λ k. i - k) (plane_pattern s)
    unfolding plane made
    made_is = rw (lt-ltb (plane_tags s) i past, le-leb i (plane_items s) upto)

    pub made-length : length ((plane s).made i) ≡ length (plane_pattern s)
    made-length = ap length made_is ∙ length-map (plane_pattern s) (λ k. i - k)

    module _ {k e : ℕ} (h : k < length (plane_pattern s)) (r : e ≡ get_or (plane_pattern s) k 0) where
      pub made_row : i - e ≡ get_or ((plane s).made i) k 0
      made_row = sym (ap (λ (l : List ℕ). get_or l k 0) made_is ∙ map_at (λ k. i - k) (plane_pattern s) k h ∙ ap (λ (x : ℕ). i - x) (sym r))

      pub made_back : e ≤ i
      made_back =
          let R : Rules (plane_items s) (plane_tags s) (plane_limit s) (differences s) (plane_pattern s) =
          rules s (some_low s (omega (arith, past, upto))) (some_high s (omega (arith, past, upto))) in
          omega (arith, past, within-at (plane_tags s) (plane_pattern s) R.near k h)
