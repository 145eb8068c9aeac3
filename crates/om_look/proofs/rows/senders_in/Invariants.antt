use Rattle.std.proofs.Common.{take}
use Rattle.std.specs.List.{AllZip}
use Rattle.om_stable.specs.Content.{rows_of}
use Rattle.om_look.specs.Rows.{IsSenderOf}
use Rattle.om_look.proofs.rows.senders_in.Given as goal

abbrev pub invariant-loop-y : goal.invariant-loop-y
invariant-loop-y l = AllZip (IsSenderOf l.own l.n) (rows_of (take l.y-index l.found)) l.senders.items
