use Rattle.std.proofs.Common.{take}
use Rattle.om_restart.specs.Senders.{AreSendersIn}
use Rattle.om_stable.specs.Content.{rows_of}
use Rattle.om_restart.proofs.finding.senders_of.Given as goal

abbrev pub invariant-loop-first : goal.invariant-loop-first
invariant-loop-first l = AreSendersIn (rows_of (take l.first-index l.rows)) l.senders.items
