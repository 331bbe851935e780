-- The chain looks at the items of the row (Picking).
use Rattle.std.specs.Prelude.{◌&&◌}
use Rattle.std.specs.List.{list_any}
use Rattle.fips197.proofs.Kit.{ap, ◌∙◌, length}
use Rattle.incidence.specs.Count.{inside}
use Rattle.incidence.specs.Family.{items_of}
use Rattle.sizes.specs.Sizes.{family_of}
use Rattle.sizes.proofs.Laws.{on_items, written_front}
use Rattle.decoding.specs.Decoding.{is_marked}
use Rattle.decoding.proofs.Picking.{holds_listed}
use Rattle.decoding.proofs.holds_named.Goals as goal

pub returns : goal.returns
returns c =
    let F = family_of c.args.code in
    let marks = c.args.marks.now in
    let w = c.items_of-held.ensures in
    c.any_named.ensures ∙ ap (list_any (λ j. inside (length marks) j && is_marked marks j)) (written_front (items_of F c.args.row) _ (w.written, w.count))
    ∙ holds_listed F c.args.row (length marks) (is_marked marks) (on_items c.args.code c.args.row)
