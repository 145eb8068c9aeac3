use Rattle.std.proofs.Common.{◌≡◌, sym, ap, ◌∙◌, subst}
use Rattle.std.specs.Prelude.{IfOk}
use Rattle.om_worker.specs.steps.Turning.{IsTurned}
use Rattle.om_node.specs.Nodes.{Member}
use Rattle.om_worker_parts.specs.Places.{member_of}
use Rattle.om_worker.proofs.turns.take_turn.Goals as goal

pub returns-in-AllQuiet-clause-turned : goal.returns-in-AllQuiet-clause-turned
returns-in-AllQuiet-clause-turned g c =
    let same : c.in-AllQuiet.node.member ≡ member_of c.args.state = sym (ap member_of c.in-AllQuiet.is) ∙ c.in-Ok.ensures.place in
    subst (λ (m : Member). IfOk c.leave.result (λ t. IsTurned g.S.Stable.is_clean m t)) same c.leave.ensures.turned

pub returns-in_default : goal.returns-in_default
returns-in_default g c = record { same = c.in-Ok.ensures.same; turned = (c.in-Ok.ensures.place, c.in-Ok.ensures.landed); fault = tt }
