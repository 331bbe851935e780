-- What the call says, packed.
use Rattle.fips197.proofs.Kit.{ap, ◌∙◌}
use Rattle.files.specs.Refusals.{Refusal}
use Rattle.scheme.specs.Calls.{verify_yes}
use Rattle.firmware.specs.Packed.{packed_yes}
use Rattle.firmware.proofs.gtm_verify.Goals as goal

pub returns : goal.returns
returns c = record { says = c.pack_verify.ensures _ c.verify.ensures.yes ∙ ap (λ (r : Refusal). packed_yes r (verify_yes c.args.keys.now c.args.message.now c.args.tagfile.now)) c.verify.ensures.refused }
