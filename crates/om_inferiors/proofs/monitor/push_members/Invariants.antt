use Rattle.std.proofs.Common.{◌≡◌, ◌++◌, take, string_bytes}
use Rattle.std.specs.List.{flat_map}
use Rattle.om_inferiors.specs.Monitor.{member_line}
use Rattle.om_inferiors.proofs.monitor.push_members.Given as goal

-- the lines of the processes so far
abbrev pub invariant-loop-member : goal.invariant-loop-member
invariant-loop-member l = string_bytes l.text ≡ string_bytes l.initial.text ++ flat_map member_line (take l.member-index l.members)
