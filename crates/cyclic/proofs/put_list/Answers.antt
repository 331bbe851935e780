-- From the last member to the first, each turn adds one term (Terms).
use Rattle.fips197.proofs.Kit.{rules}
use Rattle.cyclic.proofs.Terms.{list-none, list_more, list_all}
use Rattle.cyclic.proofs.put_list.Goals as goal

pub loop-i-init : goal.loop-i-init
loop-i-init c = search (rules, list-none)

pub loop-i-preserved : goal.loop-i-preserved
loop-i-preserved c = search (rules, list_more)

pub returns : goal.returns
returns c = search (rules, list_all)
