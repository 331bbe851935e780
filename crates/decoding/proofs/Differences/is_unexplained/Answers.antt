-- By its two tests.
use Rattle.std.specs.Prelude.{◌&&◌}
use Rattle.fips197.proofs.Kit.{◌∙◌, sym, ap, ap₂, Bool, not, length}
use Rattle.incidence.specs.Family.{holds_one}
use Rattle.sizes.specs.Sizes.{family_of}
use Rattle.decoding.specs.Decoding.{is_marked, unexplained_in}
use Rattle.decoding.proofs.Differences.is_unexplained.Goals as goal

pub returns-then-not-agree : goal.returns-then-not-agree
unfolding unexplained_in
returns-then-not-agree c = ap₂ ◌&&◌ (ap not (sym c.if-not-agree.true ∙ c.agree.ensures)) (ap not c.holds_named.ensures)

pub returns-else-not-agree : goal.returns-else-not-agree
unfolding unexplained_in
returns-else-not-agree c =
    ap not c.if-not-agree.false
    ∙ ap (λ (t : Bool). not t && not (holds_one (family_of c.args.self.now.code) (is_marked c.args.marks.now) (length c.args.marks.now) c.args.i)) (sym c.if-not-agree.false ∙ c.agree.ensures)
