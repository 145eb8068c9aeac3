use Rattle.std.proofs.Common.{ℕ, ◌≤◌, ◌+◌, sym, subst}
use Rattle.om_machine.specs.State.{State}
use Rattle.om_timeline.specs.Deeds.{turns_at}
use Rattle.om_timeline.specs.Timeline.{TimelineState}
use Rattle.om_timeline.proofs.Keeping.{kept_at}
use Rattle.om_timeline.proofs.Placing.{placed_as, placed_on}
use Rattle.om_timeline.proofs.timeline.Timeline.step_many.Goals as goal

pub invariant_of-self : goal.invariant_of-self
invariant_of-self c =
    let here = c.self.inside.here in
    let event : ℕ = c.self.inside.at.event in
    let turns : ℕ = c.self.inside.at.turns in
    let next : State = c.go.new.self.machine in
    let few : turns + c.args.turns ≤ turns_at c.self.inside.tape.deeds event =
    subst (λ (t : TimelineState). t.turns + c.args.turns ≤ turns_at t.deeds t.event) (sym c.self.view_is) c.requires in
    kept_at c.self.inside.tape here.machine next here.own here.n event turns c.go.new.self.own c.go.new.self.n event (turns + c.args.turns) c.self.inside.stages.items c.self.invariant
    (placed_as c.self.inside.tape next here.own here.n c.go.new.self.own c.go.new.self.n event (turns + c.args.turns) c.go.ensures.own c.go.ensures.n
    (placed_on c.self.inside.tape here.machine next here.own here.n event turns c.args.turns c.self.invariant.placed few c.go.ensures.turns))
