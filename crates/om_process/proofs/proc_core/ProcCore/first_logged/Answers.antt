use Rattle.std.proofs.Common.{ap, rules}
use Rattle.om_process.proofs.Logging.{placed}
use Rattle.om_process.proofs.proc_core.ProcCore.first_logged.Goals as goal

pub returns-in-Some : goal.returns-in-Some
returns-in-Some c = λ some.
    (placed c.args.self.now c.self.inside.interval c.self.inside.log.items c.in-Some.oldest.now (ap (λ s. s.now.interval) c.self.view_is) (ap (λ s. s.log) c.self.view_is) c.self.invariant.logged (search rules)).0
