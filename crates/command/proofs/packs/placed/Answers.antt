-- Each reason for itself (Placing).
use Rattle.command.proofs.Placing.{placed-room, placed_other}
use Rattle.command.proofs.packs.placed.Goals as goal

pub returns-in-Room : goal.returns-in-Room
returns-in-Room c = placed-room _ _ _ c.in-Room.is

pub returns-in_default : goal.returns-in_default
returns-in_default c = placed_other _ _ _ c.in_default.not-Room
