use Rattle.om_machine.proofs.Stops.{room_at_call}
use Rattle.om_machine.proofs.laws.call_has_room.Goals as goal

pub returns : goal.returns
returns c = room_at_call
