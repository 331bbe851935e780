-- Each turn puts one step behind those that stand (printing's Behind, Words).
use Rattle.fips197.proofs.Kit.{arith, rules}
use Rattle.printing.specs.Text.{ascii, labelled}
use Rattle.derivation.specs.Lines.{words}
use Rattle.printing.proofs.Behind.{put_none}
use Rattle.derivation.proofs.Words.{words_put, words_room, words_all}
use Rattle.derivation.proofs.put_words.Goals as goal

pub loop-k-init : goal.loop-k-init
unfolding words
loop-k-init g c = put_none c.args.text.now

pub put_labelled-requires : goal.put_labelled-requires
unfolding labelled ascii
put_labelled-requires g c = (search rules, words_room _ c.loop-k.k-index c.args.steps.now _ c.loop-k.text (omega arith) (search rules) c.loop-k.invariant)

pub loop-k-preserved : goal.loop-k-preserved
unfolding labelled ascii
loop-k-preserved g c = words_put c.loop-k.k-index c.args.steps.now _ _ c.loop-k.invariant _ (omega arith) c.put_labelled.ensures

pub returns : goal.returns
returns g c = words_all c.loop-k.k-index c.args.steps.now _ _ c.loop-k.invariant (omega arith)
