-- The sums take the item's hash (Stepping).
use Rattle.std.specs.Prelude.{◌≡◌, ◌+◌}
use Rattle.fips197.proofs.Kit.{length, rules}
use Rattle.files.specs.TagFile.{stamp_for}
use Rattle.tagging.proofs.Summing.{added_ready}
use Rattle.session.proofs.Carried.{sums_fit, added_is}
use Rattle.session.proofs.Stepping.{with_item_is}
use Rattle.session.proofs.Session.with_item.Goals as goal

pub add_item-requires : goal.add_item-requires
add_item-requires c =
    let sums-long : length c.args.self.sums ≡ 1312 = search rules in
    record {
      code_in_bounds = sums_fit c.args.self.code c.args.self.sums sums-long;
      item_len_bound = (c.requires.item_len_bound, search rules);
    }

pub returns : goal.returns
returns c =
    let sums-long : length c.args.self.sums ≡ 1312 = search rules in
    let s = c.args.self in
    with_item_is s c.args.item.now _
    (added_is s.code _ _ s.sums _ sums-long
    (added_ready s.code (s.taken + 1) s.keys.item _ _ (stamp_for s.number) c.args.item.now _ _ c.prepare-k.ensures c.stamp_for-stamp.ensures c.add_item.ensures.added))
