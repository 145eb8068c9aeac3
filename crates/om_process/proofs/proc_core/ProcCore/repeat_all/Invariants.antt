use Rattle.std.proofs.Common.{take, ◌≡◌, List}
use Rattle.om_format.specs.Receipts.{ReceiptRecord}
use Rattle.om_stable.specs.Content.{rows_of}
use Rattle.om_process.specs.Core.{with_now, cluster_size}
use Rattle.om_process.specs.Replays.{Replayed}
use Rattle.om_process.specs.steps.Rows.{SpellRows}
use Rattle.om_process.proofs.proc_core.ProcCore.repeat_all.Given as goal

abbrev pub invariant-loop-y : goal.invariant-loop-y
invariant-loop-y l = record {
  replayed : (rs : List ReceiptRecord) × SpellRows (rows_of (take l.y-index l.found.items)) rs × Replayed l.fn.self.own (cluster_size l.fn.self.now) l.fn.self.now rs l.self.now;
  rest : l.self ≡ with_now l.fn.self l.self.now;
  size : cluster_size l.self.now ≡ cluster_size l.fn.self.now;
}
