use Rattle.std.proofs.Common.{rules, ◌≡◌, ◌≤◌, ◌<◌, Some, None}
use Rattle.om_format.specs.declared.limits.TheConstants.{MAX_BODY}
use Rattle.om_machine.specs.State.{State}
use Rattle.om_machine.specs.derived.NextStep.{next_of}
use Rattle.om_machine.specs.declared.event.Event.TheVariants.{Call}
use Rattle.om_machine.specs.declared.event.EnvCall.TheVariants.{Send, Output}
use Rattle.om_timeline.proofs.Finishing.{puts_out_as, sends_as}
use Rattle.om_timeline.proofs.alone.Alone.turn.Goals as goal

pub returns-then-len-le-MAX_BODY-clause-went : goal.returns-then-len-le-MAX_BODY-clause-went
returns-then-len-le-MAX_BODY-clause-went c = λ h.
    let m : State = c.args.self.now.machine in
    let at : (next_of m).0 ≡ Call (Send c.in-Call-Send.to c.in-Call-Send.addr c.in-Call-Send.len) = search rules in
    let place : c.in-Call-Send.to < c.args.self.now.n = search rules in
    let short : c.in-Call-Send.len ≤ MAX_BODY = search rules in
    sends_as c.args.self.now.own c.args.self.now.n m c.in-Call-Send.to c.in-Call-Send.addr c.in-Call-Send.len (Some c.emit.new.self.machine) at place short (c.emit.ensures.went c.in-Call-Send.to h)

pub returns-then-len-le-MAX_BODY-clause-stood : goal.returns-then-len-le-MAX_BODY-clause-stood
returns-then-len-le-MAX_BODY-clause-stood c = λ h.
    let m : State = c.args.self.now.machine in
    let at : (next_of m).0 ≡ Call (Send c.in-Call-Send.to c.in-Call-Send.addr c.in-Call-Send.len) = search rules in
    let place : c.in-Call-Send.to < c.args.self.now.n = search rules in
    let short : c.in-Call-Send.len ≤ MAX_BODY = search rules in
    sends_as c.args.self.now.own c.args.self.now.n m c.in-Call-Send.to c.in-Call-Send.addr c.in-Call-Send.len None at place short (c.emit.ensures.stood c.in-Call-Send.to h)

pub returns-then-len-le-MAX_BODY-2-clause-went : goal.returns-then-len-le-MAX_BODY-2-clause-went
returns-then-len-le-MAX_BODY-2-clause-went c = λ h.
    let m : State = c.args.self.now.machine in
    let at : (next_of m).0 ≡ Call (Output c.in-Call-Output.addr c.in-Call-Output.len) = search rules in
    let short : c.in-Call-Output.len ≤ MAX_BODY = search rules in
    puts_out_as c.args.self.now.own c.args.self.now.n m c.in-Call-Output.addr c.in-Call-Output.len (Some c.emit-then-len-le-MAX_BODY-2.new.self.machine) at short (c.emit-then-len-le-MAX_BODY-2.ensures.went c.args.self.now.n h)

pub returns-then-len-le-MAX_BODY-2-clause-stood : goal.returns-then-len-le-MAX_BODY-2-clause-stood
returns-then-len-le-MAX_BODY-2-clause-stood c = λ h.
    let m : State = c.args.self.now.machine in
    let at : (next_of m).0 ≡ Call (Output c.in-Call-Output.addr c.in-Call-Output.len) = search rules in
    let short : c.in-Call-Output.len ≤ MAX_BODY = search rules in
    puts_out_as c.args.self.now.own c.args.self.now.n m c.in-Call-Output.addr c.in-Call-Output.len None at short (c.emit-then-len-le-MAX_BODY-2.ensures.stood c.args.self.now.n h)
