use Rattle.std.proofs.Common.{ap, arith, length, refl, subst}
use Rattle.std.proofs.lemmas.List.{length-map}
use Rattle.om_manager.specs.Outputs.{held_of}
use Rattle.om_manager.specs.State.{ManagerState}
use Rattle.om_report.specs.Harvests.{AreAllOf}
use Rattle.om_worker_parts.specs.Acts.{HasReleasedAnother}
use Rattle.om_worker_parts.proofs.manager_link.ManagerLink.harvest.Goals as goal

pub returns-in-Ok-clause-all : goal.returns-in-Ok-clause-all
returns-in-Ok-clause-all g c = (
  _,
  _,
  c.manager-manager.ensures.sound,
  (
    subst (λ (m : ManagerState). AreAllOf m c.args.self.now.pid c.in-Ok.harvest.outputs.items) c.manager-manager.ensures.manager c.in-Ok.ensures.all,
    refl,
  ),
)

pub returns-then-released-made-clause-none : goal.returns-then-released-made-clause-none
returns-then-released-made-clause-none g c =
    let p = c.args.self.now.pid in
    let many = ap length c.released.ensures.outputs in
    let mapped = length-map c.released.result.now held_of in
    let others : HasReleasedAnother c.manager-manager.result.now p c.args.made = λ e. c.if-released-made.true (omega arith) in (
      _,
      _,
      c.manager-manager.ensures.sound,
      (subst (λ (m : ManagerState). HasReleasedAnother m p c.args.made) c.manager-manager.ensures.manager others, refl),
    )
