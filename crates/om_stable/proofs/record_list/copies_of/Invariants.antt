use Rattle.std.proofs.Common.{◌≡◌, drop, take}
use Rattle.om_stable.specs.Content.{bytes_of}
use Rattle.om_stable.specs.steps.Pieces.{pieces, total}
use Rattle.om_stable.proofs.record_list.copies_of.Given as goal

-- the records so far are copied, and their bytes are passed
abbrev pub invariant-loop-len : goal.invariant-loop-len
invariant-loop-len l = record {
  copied : bytes_of l.found.items ≡ take l.len-index (pieces l.lens l.bytes);
  passed : l.rest ≡ drop (total (take l.len-index l.lens)) l.bytes;
}
