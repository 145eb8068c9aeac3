use Rattle.std.proofs.Common.{◌≡◌, take}
use Rattle.om_packets.specs.Packets.{checksum}
use Rattle.om_packets.proofs.packet.sum_of.Given as goal

-- the sum of the bytes so far
abbrev pub invariant-loop-byte : goal.invariant-loop-byte
invariant-loop-byte l = l.sum ≡ checksum (take l.byte-index l.text)
