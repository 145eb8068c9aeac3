use Rattle.std.proofs.Common.{ap, length, refl, subst, sym, ◌∙◌}
use Rattle.std.specs.Prelude.{Vec}
use Rattle.std.specs.declared.alloc.Global.{Global}
use Rattle.om_process.specs.declared.status.Status.{Status}
use Rattle.om_check.specs.Whole.{AreStatusesOf}
use Rattle.om_explore_command.specs.declared.outcome.Outcome.{Outcome}
use Rattle.om_explore_command.proofs.OutcomeLemmas.{cores_in, outcome_is}
use Rattle.om_explore_command.proofs.outcome.outcome_of.Goals as goal

pub statuses_of-requires-clause-cores : goal.statuses_of-requires-clause-cores
statuses_of-requires-clause-cores c =
    cores_in c.args.programs.now c.args.run.world c.args.run.end c.n.result c.requires.ends c.n.ensures.number

pub returns : goal.returns
returns c =
    let told : Outcome = record { text = c.in_ok-text.text; report = c.in_ok-report.report; events = c.args.run.events } in
    let kept = c.in_ok-report.ensures.statuses in
    outcome_is c.args.programs.now c.args.run c.manager.result.now told c.n.result c.requires c.manager.ensures c.n.ensures.number
    c.in_ok-report.ensures.outputs c.in_ok-report.ensures.processes
    (ap (λ (statuses : Vec Status Global). length statuses.items) kept ∙ c.in_ok-statuses.ensures.number)
    (subst (λ (statuses : Vec Status Global). AreStatusesOf c.args.run.world statuses.items) (sym kept) c.in_ok-statuses.ensures.statuses)
    refl c.in_ok-text.ensures
