use Rattle.std.proofs.Common.{◌≡◌, [], false, inr, subst, sym}
use Rattle.om_member.specs.Handed.{outputs_from}
use Rattle.om_process.specs.Core.{CoreState}
use Rattle.om_worker.proofs.worker.Worker.report.Goals as goal

pub returns-clause-reported : goal.returns-clause-reported
returns-clause-reported g c = inr c.in_ok-phase.ensures.reported

pub returns-clause-idle : goal.returns-clause-idle
returns-clause-idle g c = λ runs calm told made.
    let link = c.args.self.now.manager_link in
    let core = c.core.ensures.core in
    let none : c.is_due.result ≡ false =
    c.is_due.ensures.nothing (λ yes. runs (c.has_ended-ended.ensures.0 yes)) calm
    (subst (λ (d : CoreState). d.pending ≡ []) (sym core) told)
    (subst (λ (d : CoreState). outputs_from d link.handed ≡ []) (sym core) made) in
    let due = c.if-not-is_due.false in cc
