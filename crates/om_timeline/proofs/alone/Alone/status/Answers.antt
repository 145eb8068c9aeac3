use Rattle.std.proofs.Common.{rules, ◌≡◌, ◌≤◌, ◌<◌}
use Rattle.om_format.specs.declared.limits.TheConstants.{MAX_BODY}
use Rattle.om_machine.specs.State.{State}
use Rattle.om_machine.specs.derived.NextStep.{next_of}
use Rattle.om_machine.specs.declared.event.Event.TheVariants.{Call}
use Rattle.om_machine.specs.declared.event.EnvCall.TheVariants.{Send, Output}
use Rattle.om_timeline.proofs.Finishing.{output_told, send_told}
use Rattle.om_timeline.proofs.alone.Alone.status.Goals as goal

pub returns-then-len-le-MAX_BODY : goal.returns-then-len-le-MAX_BODY
returns-then-len-le-MAX_BODY c =
    let m : State = c.args.self.now.machine in
    let at : (next_of m).0 ≡ Call (Send c.in-Call-Send.to c.in-Call-Send.addr c.in-Call-Send.len) = search rules in
    let place : c.in-Call-Send.to < c.args.self.now.n = search rules in
    let short : c.in-Call-Send.len ≤ MAX_BODY = search rules in
    send_told c.args.self.now.own c.args.self.now.n m c.in-Call-Send.to c.in-Call-Send.addr c.in-Call-Send.len c.status_at.result at place short (c.status_at.ensures c.in-Call-Send.to)

pub returns-then-len-le-MAX_BODY-2 : goal.returns-then-len-le-MAX_BODY-2
returns-then-len-le-MAX_BODY-2 c =
    let m : State = c.args.self.now.machine in
    let at : (next_of m).0 ≡ Call (Output c.in-Call-Output.addr c.in-Call-Output.len) = search rules in
    let short : c.in-Call-Output.len ≤ MAX_BODY = search rules in
    output_told c.args.self.now.own c.args.self.now.n m c.in-Call-Output.addr c.in-Call-Output.len c.status_at-then-len-le-MAX_BODY-2.result at short (c.status_at-then-len-le-MAX_BODY-2.ensures c.args.self.now.n)
