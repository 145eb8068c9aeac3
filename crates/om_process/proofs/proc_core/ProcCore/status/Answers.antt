use Rattle.std.proofs.Common.{sym, ap, ◌∙◌}
use Rattle.om_machine.specs.derived.NextStep.{next_of}
use Rattle.om_process.specs.Core.{status_of}
use Rattle.om_process.proofs.CoreLemmas.{made_by, planned_move}
use Rattle.om_process.proofs.proc_core.ProcCore.status.Goals as goal

pub returns : goal.returns
returns c =
    let m = c.self.inside.machine in
    let i = c.self.invariant in
    rw (← c.self.view_is)
    (c.status.ensures c.self.inside.pid _ m (next_of m).1
    ∙ sym (ap status_of (planned_move c.self.inside.pid _ _ m _ _ c.peek.result c.plan_at.result c.peek.ensures.would (made_by _ _ c.self.inside.sent c.self.inside.made i.ends i.outputs_end) i.sent
    (c.plan_at.ensures.planned c.self.inside.pid c.self.inside.made (next_of m).1))))
