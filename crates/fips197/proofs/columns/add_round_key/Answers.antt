-- A round key is 16 bytes of the schedule.
use Rattle.fips197.proofs.Kit.{ap, ◌∙◌, List, ℕ}
use Rattle.fips197.specs.Block.{◌⊕◌}
use Rattle.fips197.specs.Aes.{round_key}
use Rattle.fips197.specs.Words.{state_of}
use Rattle.fips197.proofs.columns.add_round_key.Goals as goal

pub returns : goal.returns
unfolding round_key
returns c =
    let s = c.args.s in
    c.add.ensures ∙ ap (λ (l : List ℕ). state_of s.a s.b s.c s.d ⊕ l) c.load_at.ensures
