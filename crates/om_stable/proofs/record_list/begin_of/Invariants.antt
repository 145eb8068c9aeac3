use Rattle.std.proofs.Common.{◌≡◌, drop, take}
use Rattle.om_stable.specs.steps.Pieces.{total}
use Rattle.om_stable.proofs.record_list.begin_of.Given as goal

-- the bytes of those so far are passed
abbrev pub invariant-loop-len : goal.invariant-loop-len
invariant-loop-len l = l.rest ≡ drop (total (take l.len-index l.lens)) l.bytes
