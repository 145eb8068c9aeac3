use Rattle.std.proofs.Common.{rules, ℕ, ◌≡◌, ◌≤◌, ◌+◌, None, ◌∙◌}
use Rattle.om_machine.specs.State.{State}
use Rattle.om_timeline.specs.Alone.{turn_alone, turns_alone}
use Rattle.om_timeline.proofs.Turning.{gone_on, stood_still}
use Rattle.om_timeline.proofs.alone.Alone.go.Goals as goal

pub returns-then-not-turn-clause-turns : goal.returns-then-not-turn-clause-turns
returns-then-not-turn-clause-turns c =
    let own : ℕ = c.args.self.now.own in
    let n : ℕ = c.args.self.now.n in
    let m : State = c.args.self.now.machine in
    let here : State = c.loop-done.self.machine in
    let mid : State = c.run-ran.new.self in
    let steps : ℕ = c.run-ran.result.steps in
    let same : c.turn.new.self.machine ≡ mid = search rules in
    let gone : mid ≡ turns_alone own n (c.loop-done.done + steps) m = gone_on own n c.loop-done.done steps m here mid c.loop-done.invariant.gone c.run-ran.ensures.goes in
    let none : turn_alone own n mid ≡ None = search rules in
    let within : c.loop-done.done + steps ≤ c.args.turns = search rules in
    same ∙ stood_still own n (c.loop-done.done + steps) c.args.turns m mid gone none within
