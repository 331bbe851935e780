-- What the call says, packed.
use Rattle.fips197.proofs.Kit.{ap, ◌∙◌}
use Rattle.firmware.specs.Packed.{packed}
use Rattle.firmware.proofs.gtm_replace.Goals as goal

pub returns : goal.returns
returns c =
    record { says = c.pack_done.ensures ∙ ap packed c.replace.ensures.refused; written = c.replace.ensures.written }
