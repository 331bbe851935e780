-- The message's number and count, in a new stamp.
use Rattle.fips197.proofs.Kit.{ap, ◌∙◌, arith}
use Rattle.stamp.specs.declared.Stamp.{Stamp}
use Rattle.files.specs.Message.{items_at}
use Rattle.files.specs.TagFile.{stamp_for}
use Rattle.tagging.specs.Tagging.{tag_head}
use Rattle.tagging.proofs.head_for.Goals as goal

pub stamp_of-own-requires : goal.stamp_of-own-requires
unfolding items_at
stamp_of-own-requires c = omega (arith, c.requires)

pub returns : goal.returns
unfolding tag_head
returns c =
    λ i. record {
      stamp = (c.stamp_for.ensures ∙ ap (λ (st : Stamp). stamp_for st.number) c.stamp_of-own.ensures) i;
      code = c.args.code;
      count = c.item_count.ensures.0 i;
    }
