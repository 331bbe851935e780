-- The list from where it turns on, and then what stands before that place, each moved (Walks).
use Rattle.std.specs.Prelude.{◌≡◌, ◌++◌, ◌+◌, ◌-◌, ◌≤◌}
use Rattle.fips197.proofs.Kit.{rules, refl, sym, ap, ◌∙◌, List, map, ℕ, arith, length, take, drop, take_all, length-map, length-take-le, length-drop}
use Rattle.blocks.proofs.Loop.{put_behind, front_kept}
use Rattle.incidence.specs.Family.{items_of}
use Rattle.plane.specs.Plane.{plane}
use Rattle.plane.specs.Walk.{along}
use Rattle.plane.proofs.Lookup.{items-most}
use Rattle.plane.proofs.Walks.{few, walk_turn, items-many, round_all, parts_items}
use Rattle.plane.proofs.walk.write_items.Goals as goal

-- the part from a place to the end
to_end : (D : List ℕ) (a : ℕ) → take (length D - a) (drop a D) ≡ drop a D
to_end D a = take_all (length D - a) (drop a D) (omega (arith, length-drop a D))

pub write_moved-requires : goal.write_moved-requires
write_moved-requires c =
    let a = c.args in
    let W = c.requires.walk in
    let e = to_end a.d.now a.turn in
    record {
      up_bound = (omega (arith, W.high, items-most a.s), omega arith, omega (arith, ap length e, length-drop a.turn a.d.now, few W));
      by_index = round_all W c.items.ensures e refl;
    }

-- what the two calls write
module _ (D : List ℕ) (t : ℕ) (high : t ≤ length D) where
  abbrev A : List ℕ
  A = take (length D - t) (drop t D)

  abbrev B : List ℕ
  B = take (t - 0) (drop 0 D)

  before : B ≡ take t D
  before = let z : t - 0 ≡ t = omega arith in ap (λ (k : ℕ). take k D) z

  A-long : length A ≡ length D - t
  A-long = ap length (to_end D t) ∙ length-drop t D

  B-long : length B ≡ t
  B-long = ap length before ∙ length-take-le t D high

  module _ (o o1 : List ℕ) (f : ℕ → ℕ) (room : length D ≤ length o) (e1 : o1 ≡ take 0 o ++ (map f A ++ drop (0 + length A) o)) where
    first : o1 ≡ map f A ++ drop (length D - t) o
    first = let z : 0 + length A ≡ length D - t = omega (arith, A-long) in e1 ∙ ap (λ (k : ℕ). map f A ++ drop k o) z

    first-kept : length o1 ≡ length o
    first-kept = front_kept (map f A) o o1 (length D - t) (length-map A f ∙ A-long) (omega arith) first

    both : (o2 : List ℕ) (g : ℕ → ℕ) → o2 ≡ take (length D - t) o1 ++ (map g B ++ drop (length D - t + length B) o1) → o2 ≡ (map f A ++ map g B) ++ drop (length D) o
    both o2 g e2 =
        let z : length D - t + length B ≡ length D = omega (arith, B-long) in
        put_behind (map f A) (map g B) o o1 o2 (length D - t) (length B) (length-map A f ∙ A-long) first e2 ∙ ap (λ (k : ℕ). (map f A ++ map g B) ++ drop k o) z

pub write_moved-requires-2 : goal.write_moved-requires-2
write_moved-requires-2 c =
    let a = c.args in
    let W = c.requires.walk in
    let t = walk_turn W in
    let room : length a.d.now ≤ length a.out.now = omega (arith, few W) in
    let kept = first-kept a.d.now a.turn t a.out.now _ _ room c.write_moved.ensures in
    record {
      up_bound = (omega (arith, W.high, items-most a.s), omega (arith, few W), omega (arith, kept, B-long a.d.now a.turn t, room, t));
      by_index = λ k h. omega arith;
    }

pub returns : goal.returns
unfolding along
returns c =
    let a = c.args in
    let W = c.requires.walk in
    let t = walk_turn W in
    let room : length a.d.now ≤ length a.out.now = omega (arith, few W) in
    let e = parts_items W c.items.ensures (to_end a.d.now a.turn) (before a.d.now a.turn t) in
    record {
      written = both a.d.now a.turn t a.out.now _ _ room c.write_moved.ensures _ _ c.write_moved-2.ensures ∙ ap (λ (L : List ℕ). L ++ drop (length a.d.now) a.out.now) e ∙ ap (λ (k : ℕ). items_of (plane a.s) a.i ++ drop k a.out.now) (sym (items-many W));
      count = sym (items-many W);
    }

pub offset_bounds-d-turn : goal.offset_bounds-d-turn
offset_bounds-d-turn c = let h : c.args.turn ≤ length c.args.d.now = walk_turn c.requires.walk in search rules

pub slice_bounds-write_moved-count : goal.slice_bounds-write_moved-count
slice_bounds-write_moved-count c = walk_turn c.requires.walk

pub slice_bounds-write_moved-start : goal.slice_bounds-write_moved-start
slice_bounds-write_moved-start c = let h : c.args.turn ≤ length c.args.d.now = walk_turn c.requires.walk in search rules

pub slice_bounds-write_moved-end-3 : goal.slice_bounds-write_moved-end-3
slice_bounds-write_moved-end-3 c = let h : c.args.turn ≤ length c.args.d.now = walk_turn c.requires.walk in search rules
