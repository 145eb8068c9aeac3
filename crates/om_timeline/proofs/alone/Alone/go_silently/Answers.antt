use Rattle.std.proofs.Common.{ℕ, ◌≡◌, ◌+◌, true, arith, subst, ◌∙◌}
use Rattle.om_machine.specs.State.{State}
use Rattle.om_timeline.specs.steps.Parts.{GoesAlone, IsGoing}
use Rattle.om_timeline.proofs.Parting.{going_on, going_told}
use Rattle.om_timeline.proofs.alone.Alone.go_silently.Goals as goal

pub silent-preserved-then-done-turns : goal.silent-preserved-then-done-turns
silent-preserved-then-done-turns c =
    let own : ℕ = c.args.self.now.own in
    let n : ℕ = c.args.self.now.n in
    let m : State = c.args.self.now.machine in
    let mid : State = c.run-ran.new.self in
    let next : State = c.tell.new.self.machine in
    let steps : ℕ = c.run-ran.result.steps in
    let here = c.silent.invariant in
    let far : IsGoing own n (c.silent.done + steps) m mid = going_on own n c.silent.done steps m c.silent.self.machine mid here.going c.run-ran.ensures.goes in
    let yes : c.tell.result ≡ true = cc in
    let told : GoesAlone c.silent.self.own c.silent.self.n mid next = c.tell.ensures.told yes in
    let one : GoesAlone own n mid next = subst (λ i. GoesAlone own i mid next) here.n (subst (λ i. GoesAlone i c.silent.self.n mid next) here.own told) in
    record {
      going = going_told own n (c.silent.done + steps) m mid next far one;
      own = c.tell.ensures.own ∙ here.own;
      n = c.tell.ensures.n ∙ here.n;
      within = omega arith;
    }
