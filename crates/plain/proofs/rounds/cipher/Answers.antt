-- Each turn is a round (RoundTrip).
use Rattle.std.specs.Prelude.{◌≡◌, ◌-◌}
use Rattle.fips197.proofs.Kit.{refl, ap, ap₂, ◌∙◌, List, ℕ, arith}
use Rattle.fips197.specs.Block.{◌⊕◌}
use Rattle.fips197.specs.Aes.{sbox, sub_bytes, shift_rows, round_key, rounds, cipher}
use Rattle.fips197.proofs.RoundTrip.{rounds_more}
use Rattle.plain.proofs.rounds.cipher.Goals as goal

pub loop-n-init : goal.loop-n-init
unfolding rounds
loop-n-init c = refl

pub loop-n-preserved : goal.loop-n-preserved
loop-n-preserved c = c.round-s.ensures ∙ rounds_more c.args.w.now c.loop-n.n _ _ (omega arith) c.loop-n.invariant

pub returns : goal.returns
unfolding cipher sub_bytes
returns c =
    let w = c.args.w.now in
    let e : c.loop-n.n - 1 ≡ 9 = omega arith in
    c.store.ensures
    ∙ c.add_round_key.ensures
    ∙ ap (λ (s : List ℕ). s ⊕ round_key w 10)
    (c.shift.ensures sbox c.args.t.now.tabulates
    ∙ ap (λ (s : List ℕ). shift_rows (sub_bytes s))
    (c.loop-n.invariant ∙ ap₂ (rounds w) e (c.add_round_key-s.ensures ∙ ap (λ (s : List ℕ). s ⊕ round_key w 0) c.load.ensures)))
