-- Each turn undoes a round: what is left to do gives what the whole gives (RoundTrip).
use Rattle.std.specs.Prelude.{◌≡◌, ◌-◌}
use Rattle.fips197.proofs.Kit.{ap, ◌∙◌, ℕ, arith}
use Rattle.fips197.specs.Block.{◌⊕◌}
use Rattle.fips197.specs.Aes.{inv_sbox, inv_sub_bytes, inv_rounds, inv_cipher}
use Rattle.fips197.specs.Words.{state_of}
use Rattle.fips197.proofs.RoundTrip.{inv_rounds-less}
use Rattle.tables.proofs.KeyLaws.{decipher-first, decipher-last, mixed_back}
use Rattle.tables.proofs.rounds.inv_cipher.Goals as goal

pub loop-n-preserved : goal.loop-n-preserved
loop-n-preserved c =
    let n = c.loop-n.n - 1 in
    let s = c.loop-n.s in
    λ w h e. inv_rounds-less w n _ _ (omega arith)
    (c.add_words-s-in-loop-n.ensures w e ∙ mixed_back w n (state_of s.a s.b s.c s.d) _ h (omega arith) (omega arith) c.inv_mix.ensures)
    ∙ c.loop-n.invariant w h e

pub returns : goal.returns
unfolding inv_cipher inv_sub_bytes inv_rounds
returns c =
    let s = c.loop-n.s in
    let e : 0 ≡ c.loop-n.n - 1 = omega arith in
    λ w h k. c.store.ensures
    ∙ c.add_words.ensures w k
    ∙ (λ i. c.inv_shift.ensures inv_sbox c.args.last.now.tabulates i ⊕ decipher-first w i)
    ∙ ap (λ (n : ℕ). inv_rounds w n (state_of s.a s.b s.c s.d)) e
    ∙ c.loop-n.invariant w h k
    ∙ ap (inv_rounds w 9) (c.add_words-s.ensures w k ∙ (λ i. c.load.ensures i ⊕ decipher-last w i))
