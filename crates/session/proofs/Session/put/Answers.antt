-- With the item where nothing refuses, else as it was (Stepping).
use Rattle.fips197.proofs.Kit.{refl, ◌∙◌}
use Rattle.session.specs.Session.{put_gives}
use Rattle.files.proofs.Passing.{given_told, kept_told}
use Rattle.session.proofs.Stepping.{put_tells}
use Rattle.session.proofs.Session.put.Goals as goal

pub with_item-requires : goal.with_item-requires
with_item-requires c =
    let p = put_tells _ _ _ c.in-Ok.ensures refl in
    record { taken_lt_count = p.more; item_len_bound = p.short }

pub returns-in-Ok : goal.returns-in-Ok
unfolding put_gives
returns-in-Ok c = record { refused = c.in-Ok.ensures; session = c.with_item.ensures ∙ given_told _ _ _ c.in-Ok.ensures }

pub returns-in-Err : goal.returns-in-Err
unfolding put_gives
returns-in-Err c = record { refused = c.in-Err.ensures; session = kept_told _ _ _ _ c.in-Err.ensures }
