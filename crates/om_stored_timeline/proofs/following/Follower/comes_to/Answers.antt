use Rattle.std.proofs.Common.{ℕ, ◌<◌, rules}
use Rattle.om_format.specs.Receipts.{receipt_record}
use Rattle.om_machine.specs.State.{State}
use Rattle.om_stored_timeline.specs.Following.{turns_to}
use Rattle.om_stored_timeline.proofs.Fitting.{unfit_short}
use Rattle.om_stored_timeline.proofs.following.Follower.comes_to.Goals as goal

pub returns-then-self-turns-clause-fits : goal.returns-then-self-turns-clause-fits
returns-then-self-turns-clause-fits c =
    let own : ℕ = c.args.self.now.alone.own in
    let n : ℕ = c.args.self.now.alone.n in
    let m : State = c.args.self.now.alone.machine in
    let here : State = c.go_while-self.new.self.machine in
    let less : c.go_while-self.result < turns_to m (receipt_record c.args.receipt.now) = search rules in
    unfit_short own n m here (receipt_record c.args.receipt.now) c.go_while-self.result less c.go_while-self.ensures.turns (search rules)
