use Rattle.std.proofs.Common.{sym}
use Rattle.cells.proofs.Room.{room_is}
use Rattle.cells.proofs.one_step.has_room.Goals as goal

pub returns-in-Lengthens : goal.returns-in-Lengthens
returns-in-Lengthens c = rw c.in-Lengthens.is (sym (room_is c.args.trail.now c.in-Lengthens.field-0))
