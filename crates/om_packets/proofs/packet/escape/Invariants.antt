use Rattle.std.proofs.Common.{◌≡◌, take}
use Rattle.om_packets.specs.Packets.{escaped}
use Rattle.om_packets.proofs.packet.escape.Given as goal

-- the bytes so far, as they are written
abbrev pub invariant-loop-byte : goal.invariant-loop-byte
invariant-loop-byte l = l.text.items ≡ escaped (take l.byte-index l.bytes)
