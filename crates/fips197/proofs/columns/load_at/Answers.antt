-- Four words that stand one after another are a block (States).
use Rattle.std.specs.Prelude.{◌++◌}
use Rattle.fips197.proofs.Kit.{sym, ◌∙◌}
use Rattle.fips197.specs.Words.{state_of}
use Rattle.fips197.proofs.States.{words-at}
use Rattle.fips197.proofs.columns.load_at.Goals as goal

pub returns : goal.returns
unfolding state_of
returns c =
    let d = c in
    (λ i. c.word_at.ensures i ++ c.word_at-2.ensures i ++ c.word_at-3.ensures i ++ c.word_at-4.ensures i)
    ∙ sym (words-at d.args.s.now d.args.at)
