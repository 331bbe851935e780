-- The sums take the hash, whatever is handed over as a key made ready.
use Rattle.sizes.specs.Sizes.{family_of}
use Rattle.tagging.proofs.Summing.{added_as}
use Rattle.tagging.proofs.add_item.Goals as goal

pub returns : goal.returns
returns c =
    let t = c in
    let h = t in
    let d = h in
    let F = family_of d.args.code in
    record {
      added = added_as (λ t. F.on (F.row_of_tag t) d.args.j) F.tags _ _ _ _ h.item_hash-hash.ensures.hash t.add_to_tags.ensures;
      room = h.item_hash-hash.ensures.room;
    }
