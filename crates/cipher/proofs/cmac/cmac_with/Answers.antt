-- The key made ready gives what the key gives (Laws).
use Rattle.fips197.proofs.Kit.{◌∙◌}
use Rattle.cipher.proofs.Laws.{mac_ready}
use Rattle.cipher.proofs.cmac.cmac_with.Goals as goal

pub returns : goal.returns
returns c =
    let d = c in
    c.mac.ensures ∙ mac_ready d.args.key _ d.args.message.now c.prepare.ensures
