use Rattle.std.proofs.Common.{ℕ, ◌∙◌, inr, subst, sym}
use Rattle.std.specs.Prelude.{IfSome, Option}
use Rattle.om_worker_parts.specs.declared.manager_link.RoundOutcome.{RoundOutcome}
use Rattle.om_worker.specs.steps.Turning.{WasTold}
use Rattle.om_worker.proofs.worker.Worker.wait_down.Goals as goal

pub returns-in_ok-state-in-Some-clause-turned : goal.returns-in_ok-state-in-Some-clause-turned
returns-in_ok-state-in-Some-clause-turned g c =
    let w = c.args.self.now in let n = g.K.Naming.cell.n in let outcome = c.in-Some.round_outcome in
    let heard : WasTold n w.manager_link.pid outcome =
    subst (λ (o : Option RoundOutcome). IfSome o (λ t. WasTold n w.manager_link.pid t)) c.in-Some.is c.in-Ok.ensures.heard in
    inr (outcome, subst (λ (p : ℕ). WasTold n p outcome) (sym (c.requires.own ∙ w.linked)) heard, c.in_ok-state-in-Some.ensures.back)
