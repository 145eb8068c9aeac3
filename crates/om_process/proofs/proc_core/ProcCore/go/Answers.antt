use Rattle.om_process.proofs.Going.{goes_refuse, goes_turns}
use Rattle.om_process.proofs.proc_core.ProcCore.go.Goals as goal

pub returns-clause-turns : goal.returns-clause-turns
returns-clause-turns c =
    rw (← c.self.view_is) (goes_turns c.self.inside.pid _ c.run.result.steps _ c.run.new.self c.run.ensures.goes)

pub returns-clause-none_refused : goal.returns-clause-none_refused
returns-clause-none_refused c =
    rw (← c.self.view_is) (goes_refuse c.self.inside.pid _ c.run.result.steps _ c.run.new.self c.run.ensures.goes)
