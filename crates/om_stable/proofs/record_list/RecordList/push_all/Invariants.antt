use Rattle.std.proofs.Common.{◌≡◌, ◌++◌, take}
use Rattle.om_stable.specs.Content.{bytes_of}
use Rattle.om_stable.proofs.record_list.RecordList.push_all.Given as goal

-- the records so far stand behind those that were there
abbrev pub invariant-loop-bytes : goal.invariant-loop-bytes
invariant-loop-bytes l = l.self ≡ l.fn.self ++ bytes_of (take l.bytes-index l.recs)
