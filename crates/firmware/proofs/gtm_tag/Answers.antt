-- What the call says, packed.
use Rattle.fips197.proofs.Kit.{ap, ◌∙◌}
use Rattle.firmware.specs.Packed.{packed}
use Rattle.firmware.proofs.gtm_tag.Goals as goal

pub returns : goal.returns
returns c =
    record { says = c.pack_done.ensures ∙ ap packed c.tag.ensures.refused; written = c.tag.ensures.written }
