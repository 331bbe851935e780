-- Each turn writes a round key (Schedules).
use Rattle.fips197.proofs.Kit.{ap, ◌∙◌, arith, rules}
use Rattle.fips197.specs.Aes.{sub_word}
use Rattle.fips197.proofs.Schedules.{written_first, written_next, written_all}
use Rattle.fips197.proofs.schedule.expand.Goals as goal

pub loop-n-init : goal.loop-n-init
loop-n-init g c = search (rules, written_first)

pub loop-n-preserved : goal.loop-n-preserved
loop-n-preserved g c =
    written_next _ _ _ c.loop-n.n _ _ _ c.loop-n-test.true c.loop-n.invariant (c.sub_word-x.ensures ∙ ap sub_word c.turn.ensures) c.next_key-k.ensures.first
    c.next_key-k.ensures.others c.put_key-in-loop-n.ensures

pub returns : goal.returns
returns g c = written_all _ _ _ c.loop-n.n _ c.load-k.ensures (omega arith) c.loop-n.invariant
