-- Each turn stores one number (fips197's Loop).
use Rattle.std.specs.Prelude.{◌≡◌, ◌++◌, ◌+◌, ◌-◌}
use Rattle.fips197.proofs.Kit.{refl, sym, ap, ◌∙◌, map, ℕ, arith, length, take, drop, length-map, rules}
use Rattle.fips197.proofs.Loop.{part, place-first, place_turn, place_done}
use Rattle.blocks.proofs.Loop.{map_at}
use Rattle.plane.proofs.walk.write_moved.Goals as goal

pub loop-k-init : goal.loop-k-init
loop-k-init c =
    let moved : ℕ → ℕ = λ e. c.args.up + e - c.args.down in
    let long : length (map moved c.args.list.now) ≡ length c.args.list.now = length-map c.args.list.now moved in
    let a = c.args in
    let z : a.at ≡ a.at + 0 = omega arith in (
      refl,
      place-first a.out.now (map moved a.list.now) a.at (length a.list.now) c.requires.up_bound.2 long
          ∙ ap (λ (k : ℕ). part k (take a.at a.out.now ++ (map moved a.list.now ++ drop (a.at + length a.list.now) a.out.now)) a.out.now) z,
    )

pub loop-k-preserved : goal.loop-k-preserved
loop-k-preserved c =
    let moved : ℕ → ℕ = λ e. c.args.up + e - c.args.down in
    let long : length (map moved c.args.list.now) ≡ length c.args.list.now = length-map c.args.list.now moved in
    let a = c.args in
    let h = c.loop-k-test.true in (
      search rules,
      place_turn a.out.now (map moved a.list.now) a.at (length a.list.now) c.requires.up_bound.2 long c.loop-k.k c.loop-k.out _ h c.loop-k.invariant.1
          (ap moved c.from.ensures ∙ sym (map_at moved a.list.now c.loop-k.k h)),
    )

pub returns : goal.returns
returns c =
    let moved : ℕ → ℕ = λ e. c.args.up + e - c.args.down in
    let long : length (map moved c.args.list.now) ≡ length c.args.list.now = length-map c.args.list.now moved in
    let a = c.args in
    place_done a.out.now (map moved a.list.now) a.at (length a.list.now) c.requires.up_bound.2 long c.loop-k.k c.loop-k.out (omega arith) c.loop-k.invariant.1
