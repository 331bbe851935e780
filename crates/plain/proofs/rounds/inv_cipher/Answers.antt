-- Each turn undoes a round: what is left to do gives what the whole gives (RoundTrip).
use Rattle.std.specs.Prelude.{◌≡◌, ◌-◌}
use Rattle.fips197.proofs.Kit.{ap, ◌∙◌, List, ℕ, arith}
use Rattle.fips197.specs.Block.{◌⊕◌}
use Rattle.fips197.specs.Aes.{inv_sbox, inv_sub_bytes, round_key, inv_rounds, inv_cipher}
use Rattle.fips197.proofs.RoundTrip.{inv_rounds-less}
use Rattle.fips197.specs.Words.{state_of}
use Rattle.plain.proofs.rounds.inv_cipher.Goals as goal

pub loop-n-preserved : goal.loop-n-preserved
loop-n-preserved c = inv_rounds-less c.args.w.now (c.loop-n.n - 1) _ _ (omega arith) c.inv_round-s.ensures ∙ c.loop-n.invariant

pub returns : goal.returns
unfolding inv_cipher inv_sub_bytes inv_rounds
returns c =
    let s = c.loop-n.s in
    let w = c.args.w.now in
    let e : 0 ≡ c.loop-n.n - 1 = omega arith in
    c.store.ensures
    ∙ c.add_round_key.ensures
    ∙ ap (λ (s : List ℕ). s ⊕ round_key w 0) (c.inv_shift.ensures inv_sbox c.args.t.now.tabulates)
    ∙ ap (λ (n : ℕ). inv_rounds w n (state_of s.a s.b s.c s.d)) e
    ∙ c.loop-n.invariant
    ∙ ap (inv_rounds w 9) (c.add_round_key-s.ensures ∙ ap (λ (s : List ℕ). s ⊕ round_key w 10) c.load.ensures)
