use Rattle.std.proofs.Common.{sym, ap, ◌∙◌, refl, Some}
use Rattle.om_process.specs.Core.{cluster_size, status_of}
use Rattle.om_process.specs.declared.plan.Plan.TheVariants.{Refuse, Send, Output, Tell, Stop}
use Rattle.om_process.specs.Process.{made, moved}
use Rattle.om_process.proofs.Basics.{on_any_err}
use Rattle.om_process.proofs.CoreLemmas.{made_by, move_planned, status_stopped}
use Rattle.om_process.proofs.proc_core.ProcCore.turn.Goals as goal

pub returns-in-Stop-clause-stop : goal.returns-in-Stop-clause-stop
returns-in-Stop-clause-stop c = (
  sym (ap status_of (move_planned c.args.self.now c.self.inside.machine c.self.inside.sent c.self.inside.made c.args.event (Stop c.in-Stop.status) (ap (λ s. s.now.machine) c.self.view_is)
      (ap (λ s. made s.now.queues) (sym c.self.view_is) ∙ made_by _ _ c.self.inside.sent c.self.inside.made c.self.invariant.ends c.self.invariant.outputs_end)
      (c.self.invariant.sent ∙ ap (λ s. cluster_size s.now) c.self.view_is) (sym c.requires.at) c.in-Stop.ensures.planned)
      ∙ status_stopped _ c.in-Stop.status),
  refl,
)

pub returns-in-Refuse-clause-turn : goal.returns-in-Refuse-clause-turn
returns-in-Refuse-clause-turn c = λ _.
    ap (moved c.args.self.now.now) (move_planned c.args.self.now c.self.inside.machine c.self.inside.sent c.self.inside.made c.args.event Refuse (ap (λ s. s.now.machine) c.self.view_is)
    (ap (λ s. made s.now.queues) (sym c.self.view_is) ∙ made_by _ _ c.self.inside.sent c.self.inside.made c.self.invariant.ends c.self.invariant.outputs_end)
    (c.self.invariant.sent ∙ ap (λ s. cluster_size s.now) c.self.view_is) (sym c.requires.at) c.in-Refuse.ensures.planned)
    ∙ ap (λ s. Some s.now) (sym c.finish.ensures)

pub returns-in_ok-send-in-Send-clause-turn : goal.returns-in_ok-send-in-Send-clause-turn
returns-in_ok-send-in-Send-clause-turn c = λ _.
    ap (moved c.args.self.now.now) (move_planned c.args.self.now c.self.inside.machine c.self.inside.sent c.self.inside.made c.args.event (Send c.in-Send.to c.in-Send.addr c.in-Send.len) (ap (λ s. s.now.machine) c.self.view_is)
    (ap (λ s. made s.now.queues) (sym c.self.view_is) ∙ made_by _ _ c.self.inside.sent c.self.inside.made c.self.invariant.ends c.self.invariant.outputs_end)
    (c.self.invariant.sent ∙ ap (λ s. cluster_size s.now) c.self.view_is) (sym c.requires.at) c.in-Send.ensures.planned)
    ∙ c.in_ok-send-in-Send.ensures.ok

pub returns-in_ok-put_out-in-Output-clause-turn : goal.returns-in_ok-put_out-in-Output-clause-turn
returns-in_ok-put_out-in-Output-clause-turn c = λ _.
    ap (moved c.args.self.now.now) (move_planned c.args.self.now c.self.inside.machine c.self.inside.sent c.self.inside.made c.args.event (Output c.in-Output.addr c.in-Output.len) (ap (λ s. s.now.machine) c.self.view_is)
    (ap (λ s. made s.now.queues) (sym c.self.view_is) ∙ made_by _ _ c.self.inside.sent c.self.inside.made c.self.invariant.ends c.self.invariant.outputs_end)
    (c.self.invariant.sent ∙ ap (λ s. cluster_size s.now) c.self.view_is) (sym c.requires.at) c.in-Output.ensures.planned)
    ∙ c.in_ok-put_out-in-Output.ensures.ok

pub returns-in-Tell-clause-turn : goal.returns-in-Tell-clause-turn
returns-in-Tell-clause-turn c = λ _.
    ap (moved c.args.self.now.now) (move_planned c.args.self.now c.self.inside.machine c.self.inside.sent c.self.inside.made c.args.event Tell (ap (λ s. s.now.machine) c.self.view_is)
    (ap (λ s. made s.now.queues) (sym c.self.view_is) ∙ made_by _ _ c.self.inside.sent c.self.inside.made c.self.invariant.ends c.self.invariant.outputs_end)
    (c.self.invariant.sent ∙ ap (λ s. cluster_size s.now) c.self.view_is) (sym c.requires.at) c.in-Tell.ensures.planned)
    ∙ ap (λ s. Some s.now) (sym c.tell.ensures)

pub returns-in_err-send-in-Send-clause-due : goal.returns-in_err-send-in-Send-clause-due
returns-in_err-send-in-Send-clause-due c = on_any_err c.from_residual.result (
  _,
  ap (moved c.args.self.now.now) (move_planned c.args.self.now c.self.inside.machine c.self.inside.sent c.self.inside.made c.args.event (Send c.in-Send.to c.in-Send.addr c.in-Send.len) (ap (λ s. s.now.machine) c.self.view_is)
      (ap (λ s. made s.now.queues) (sym c.self.view_is) ∙ made_by _ _ c.self.inside.sent c.self.inside.made c.self.invariant.ends c.self.invariant.outputs_end)
      (c.self.invariant.sent ∙ ap (λ s. cluster_size s.now) c.self.view_is) (sym c.requires.at) c.in-Send.ensures.planned),
)

pub returns-in_err-put_out-in-Output-clause-due : goal.returns-in_err-put_out-in-Output-clause-due
returns-in_err-put_out-in-Output-clause-due c = on_any_err c.from_residual-in_err-put_out-in-Output.result (
  _,
  ap (moved c.args.self.now.now) (move_planned c.args.self.now c.self.inside.machine c.self.inside.sent c.self.inside.made c.args.event (Output c.in-Output.addr c.in-Output.len) (ap (λ s. s.now.machine) c.self.view_is)
      (ap (λ s. made s.now.queues) (sym c.self.view_is) ∙ made_by _ _ c.self.inside.sent c.self.inside.made c.self.invariant.ends c.self.invariant.outputs_end)
      (c.self.invariant.sent ∙ ap (λ s. cluster_size s.now) c.self.view_is) (sym c.requires.at) c.in-Output.ensures.planned),
)

pub returns-in_err-send-in-Send-clause-adds : goal.returns-in_err-send-in-Send-clause-adds
returns-in_err-send-in-Send-clause-adds c = on_any_err c.from_residual.result (
  _,
  _,
  _,
  move_planned c.args.self.now c.self.inside.machine c.self.inside.sent c.self.inside.made c.args.event (Send c.in-Send.to c.in-Send.addr c.in-Send.len) (ap (λ s. s.now.machine) c.self.view_is)
      (ap (λ s. made s.now.queues) (sym c.self.view_is) ∙ made_by _ _ c.self.inside.sent c.self.inside.made c.self.invariant.ends c.self.invariant.outputs_end)
      (c.self.invariant.sent ∙ ap (λ s. cluster_size s.now) c.self.view_is) (sym c.requires.at) c.in-Send.ensures.planned,
)

pub returns-in_err-put_out-in-Output-clause-adds : goal.returns-in_err-put_out-in-Output-clause-adds
returns-in_err-put_out-in-Output-clause-adds c = on_any_err c.from_residual-in_err-put_out-in-Output.result (
  _,
  _,
  _,
  move_planned c.args.self.now c.self.inside.machine c.self.inside.sent c.self.inside.made c.args.event (Output c.in-Output.addr c.in-Output.len) (ap (λ s. s.now.machine) c.self.view_is)
      (ap (λ s. made s.now.queues) (sym c.self.view_is) ∙ made_by _ _ c.self.inside.sent c.self.inside.made c.self.invariant.ends c.self.invariant.outputs_end)
      (c.self.invariant.sent ∙ ap (λ s. cluster_size s.now) c.self.view_is) (sym c.requires.at) c.in-Output.ensures.planned,
)
