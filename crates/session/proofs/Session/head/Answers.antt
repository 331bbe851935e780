-- The number in a new stamp, size code and count.
use Rattle.files.specs.TagFile.{head_for}
use Rattle.session.specs.Session.{session_head}
use Rattle.session.proofs.Session.head.Goals as goal

pub returns : goal.returns
unfolding session_head
returns c = let s = c.args.self in λ i. head_for (c.stamp_for.ensures i) s.code s.count
