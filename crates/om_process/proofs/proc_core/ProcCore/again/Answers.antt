use Rattle.std.proofs.Common.{◌≡◌, ◌≢◌, ◌-◌, ◌≤◌, ◌∙◌, inr, rules, sym, ap, arith}
use Rattle.om_format.specs.Receipts.{receipt_record}
use Rattle.om_process.specs.declared.status.Status.TheVariants.{Waiting}
use Rattle.om_process.specs.Process.{Process, delivered}
use Rattle.om_process.specs.steps.Fitting.{MayTake}
use Rattle.om_process.proofs.Going.{stays_turns}
use Rattle.om_process.proofs.Fitting.{delivered_again, stands_at, stands_before}
use Rattle.om_process.proofs.proc_core.ProcCore.again.Goals as goal

pub returns-then-ran-turns-clause-other : goal.returns-then-ran-turns-clause-other
returns-then-ran-turns-clause-other c =
    let may : MayTake c.args.self.now (receipt_record c.args.receipt.now) = c.may_take.ensures.yes (search rules) in
    let count : c.count.result ≡ c.args.self.now.now.machine.count = c.count.ensures ∙ ap (λ s. s.now.machine.count) c.self.view_is in
    let passed : c.args.self.now.now.machine.count ≤ c.args.receipt.now.count = may.count in
    let own = ap (λ s. s.own) c.in_ok-ran.ensures.rest in
    λ no.
    inr (inr (inr (stands_before c.args.self.now c.run.new.self c.in_ok-ran.ran.steps (c.args.receipt.now.count - c.count.result) c.args.receipt.now.count c.in_ok-ran.ensures.turns own c.in_ok-ran.ensures.size (omega arith) c.if-ran-turns.true (c.in_ok-ran.ensures.no_more c.if-ran-turns.true))))

pub returns-then-ne-clause-other : goal.returns-then-ne-clause-other
returns-then-ne-clause-other c =
    let may : MayTake c.args.self.now (receipt_record c.args.receipt.now) = c.may_take.ensures.yes (search rules) in
    let count : c.count.result ≡ c.args.self.now.now.machine.count = c.count.ensures ∙ ap (λ s. s.now.machine.count) c.self.view_is in
    let passed : c.args.self.now.now.machine.count ≤ c.args.receipt.now.count = may.count in
    let within : c.in_ok-ran.ran.steps ≤ c.args.receipt.now.count - c.count.result = c.in_ok-ran.ensures.within in
    let all : c.args.receipt.now.count - c.count.result ≤ c.in_ok-ran.ran.steps = c.if-ran-turns.false in
    let own = ap (λ s. s.own) c.in_ok-ran.ensures.rest in
    let not : c.in_ok-ran.ran.status ≢ Waiting = search rules in
    λ no.
    inr (inr (inr (stands_at c.args.self.now c.run.new.self c.in_ok-ran.ran.steps c.args.receipt.now.count c.in_ok-ran.ran.status c.in_ok-ran.ensures.turns own c.in_ok-ran.ensures.size (omega arith) c.in_ok-ran.ensures.status not)))

pub deliver-requires-clause-room : goal.deliver-requires-clause-room
deliver-requires-clause-room c =
    let same : c.run.new.self.now.interval ≡ c.args.self.now.now.interval = ap (λ (p : Process). p.interval) (stays_turns _ _ c.in_ok-ran.ran.steps c.args.self.now.now c.run.new.self.now c.in_ok-ran.ensures.turns) in
    omega arith

pub returns-clause-fits : goal.returns-clause-fits
returns-clause-fits c =
    let may : MayTake c.args.self.now (receipt_record c.args.receipt.now) = c.may_take.ensures.yes (search rules) in
    let count : c.count.result ≡ c.args.self.now.now.machine.count = c.count.ensures ∙ ap (λ s. s.now.machine.count) c.self.view_is in
    let passed : c.args.self.now.now.machine.count ≤ c.args.receipt.now.count = may.count in
    let within : c.in_ok-ran.ran.steps ≤ c.args.receipt.now.count - c.count.result = c.in_ok-ran.ensures.within in
    let all : c.args.receipt.now.count - c.count.result ≤ c.in_ok-ran.ran.steps = c.if-ran-turns.false in
    let own = ap (λ s. s.own) c.in_ok-ran.ensures.rest in
    let waiting : c.in_ok-ran.ran.status ≡ Waiting = search rules in
    let is = ap (λ s. s.now) c.deliver.ensures ∙ ap (λ b. delivered c.run.new.self.own c.run.new.self.now (record { from = c.args.receipt.now.from; interval = c.args.receipt.now.sender_interval; body = b })) c.as_slice.ensures.bytes in
    λ yes.
    delivered_again c.args.self.now c.run.new.self c.deliver.new.self (receipt_record c.args.receipt.now) c.in_ok-ran.ran.steps may c.requires.next c.in_ok-ran.ensures.turns own c.in_ok-ran.ensures.size (omega arith) (sym c.in_ok-ran.ensures.status ∙ waiting) is
