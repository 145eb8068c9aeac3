use Rattle.std.proofs.Common.{rules, ℕ, ◌≡◌, ◌+◌, ◌<◌, ◌≤◌, List, length, Some, subst}
use Rattle.std.specs.Prelude.{slice_get}
use Rattle.std.proofs.lemmas.Option.{slice_get_read}
use Rattle.om_machine.specs.State.{State}
use Rattle.om_timeline.specs.declared.deed.Deed.{Deed}
use Rattle.om_timeline.specs.Deeds.{after_deed}
use Rattle.om_timeline.specs.Alone.{turns_alone}
use Rattle.om_timeline.proofs.Keeping.{kept_at}
use Rattle.om_timeline.proofs.Placing.{placed_as, placed_behind, turns_there}
use Rattle.om_timeline.proofs.timeline.Timeline.pass.Goals as goal

pub finish-requires : goal.finish-requires
finish-requires c =
    let deeds : List Deed = c.self.inside.tape.deeds in
    let event : ℕ = c.self.inside.at.event in
    let at : slice_get deeds event ≡ Some c.index-deeds-self.result = search (rules, slice_get_read) in
    subst (λ k. c.self.inside.at.turns ≤ k) (turns_there deeds event c.index-deeds-self.result at) c.self.invariant.placed.few

pub invariant_of-self-2 : goal.invariant_of-self-2
invariant_of-self-2 c =
    let here = c.self.inside.here in
    let deeds : List Deed = c.self.inside.tape.deeds in
    let event : ℕ = c.self.inside.at.event in
    let turns : ℕ = c.self.inside.at.turns in
    let deed : Deed = c.index-deeds-self.result in
    let next : State = c.finish.new.self.machine in
    let at : slice_get deeds event ≡ Some deed = search (rules, slice_get_read) in
    let there : event < length deeds = search rules in
    let finished : (x : State) → here.machine ≡ turns_alone here.own here.n turns x → next ≡ after_deed here.own here.n x deed = search rules in
    kept_at c.self.inside.tape here.machine next here.own here.n event turns c.finish.new.self.own c.finish.new.self.n (event + 1) 0 c.self.inside.stages.items c.self.invariant
    (placed_as c.self.inside.tape next here.own here.n c.finish.new.self.own c.finish.new.self.n (event + 1) 0 c.finish.ensures.own c.finish.ensures.n
    (placed_behind c.self.inside.tape here.machine next here.own here.n event turns deed c.self.invariant.placed at there finished))
