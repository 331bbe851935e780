-- Each turn puts one size's line behind the others (Printing).
use Rattle.fips197.proofs.Kit.{arith, rules}
use Rattle.derivation.specs.Lines.{pattern_lines}
use Rattle.derivation.proofs.Printing.{lines_next, lines_room}
use Rattle.derivation.proofs.put_lines.Goals as goal

pub loop-s-init : goal.loop-s-init
unfolding pattern_lines
loop-s-init c = c.requires

pub put_line-requires : goal.put_line-requires
put_line-requires c = (search rules, (search rules, search rules, lines_room c.loop-s.s c.loop-s.text (search rules) (search rules) c.loop-s.invariant))

pub loop-s-preserved : goal.loop-s-preserved
loop-s-preserved c = lines_next c.loop-s.s _ _ (omega arith) c.loop-s.invariant c.put_line.ensures
