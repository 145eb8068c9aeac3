use Rattle.std.proofs.Common.{◌≡◌, ◌+◌, ◌≤◌, length, arith}
use Rattle.std.proofs.lemmas.List.{length-take-le}
use Rattle.std.specs.Prelude.{take}
use Rattle.om_machine.specs.State.{reg}
use Rattle.om_machine.proofs.Stops.{buffer_at_body}
use Rattle.om_machine.proofs.machine.Machine.finish_receive.Goals as goal

pub write_all-requires : goal.write_all-requires
write_all-requires c =
    let buffer : reg c.args.self.now 10 + reg c.args.self.now 11 ≤ length c.args.self.now.memory = buffer_at_body c.args.self.now c.requires in
    let stored : length (take c.min.result c.args.body.now) ≡ c.min.result = length-take-le c.min.result c.args.body.now (omega arith) in
    omega (arith, c.number-addr.ensures.number, c.number-room.ensures.number)
