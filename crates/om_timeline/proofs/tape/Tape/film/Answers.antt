use Rattle.std.proofs.Common.{rules, ◌≡◌, ◌++◌, ◌∷◌, [], length, None, Some}
use Rattle.std.specs.Prelude.{slice_get}
use Rattle.std.proofs.lemmas.Option.{slice_get_read}
use Rattle.om_timeline.specs.steps.Filmed.{IsPlayedDeed, IsTape, TapeState}
use Rattle.om_timeline.specs.steps.Parts.{PlayerState}
use Rattle.om_timeline.proofs.Taping.{film_begun, film_longer, film_lost, film_part}
use Rattle.om_timeline.proofs.tape.Tape.film.Goals as goal

pub next_deed-requires : goal.next_deed-requires
next_deed-requires c =
    let t : TapeState = record { own = c.self.inside.process; n = c.self.inside.n; first = c.self.inside.first; begun = c.self.inside.begun.value; events = c.self.inside.events.items; deeds = c.self.inside.deeds.items } in
    let none : c.self.inside.fault ≡ None = search rules in
    let at : slice_get t.events (length t.deeds) ≡ Some c.index-event.result.now = search (rules, slice_get_read) in
    film_begun t c.self.inside.fault c.self.inside.player c.index-event.result.now none at c.self.invariant

pub invariant_of-self-in-Ok-Some : goal.invariant_of-self-in-Ok-Some
invariant_of-self-in-Ok-Some c =
    let t : TapeState = record { own = c.self.inside.process; n = c.self.inside.n; first = c.self.inside.first; begun = c.self.inside.begun.value; events = c.self.inside.events.items; deeds = c.self.inside.deeds.items } in
    let old : PlayerState = c.self.inside.player in
    let new : PlayerState = c.next_deed.new.player in
    let none : c.self.inside.fault ≡ None = search rules in
    let at : slice_get t.events (length t.deeds) ≡ Some c.index-event.result.now = search (rules, slice_get_read) in
    let next : IsPlayedDeed t.own t.n old.before c.index-event.result.now c.in-Ok-Some.deed new = search rules in
    let is : c.push_reserved.new.self.items ≡ t.deeds ++ c.in-Ok-Some.deed ∷ [] = search rules in
    film_longer t c.self.inside.fault c.push_reserved.new.self.items old new c.index-event.result.now c.in-Ok-Some.deed none at c.self.invariant next is

pub invariant_of-self-in-Ok-None : goal.invariant_of-self-in-Ok-None
invariant_of-self-in-Ok-None c =
    let t : TapeState = record { own = c.self.inside.process; n = c.self.inside.n; first = c.self.inside.first; begun = c.self.inside.begun.value; events = c.self.inside.events.items; deeds = c.self.inside.deeds.items } in
    let old : PlayerState = c.self.inside.player in
    let new : PlayerState = c.next_deed.new.player in
    let at : slice_get t.events (length t.deeds) ≡ Some c.index-event.result.now = search (rules, slice_get_read) in
    let part : new ≡ record { before = old.before; begun = Some c.index-event.result.now } = search rules in
    let same : c.try_reserve.new.self.items ≡ t.deeds = search rules in
    film_part t c.self.inside.fault c.try_reserve.new.self.items old new c.index-event.result.now at c.self.invariant part same

pub invariant_of-self-in-Err : goal.invariant_of-self-in-Err
invariant_of-self-in-Err c =
    let t : TapeState = record { own = c.self.inside.process; n = c.self.inside.n; first = c.self.inside.first; begun = c.self.inside.begun.value; events = c.self.inside.events.items; deeds = c.self.inside.deeds.items } in
    let is : c.try_reserve.new.self.items ≡ t.deeds = search rules in
    film_lost t c.in-Err.fault c.self.inside.fault c.try_reserve.new.self.items c.self.inside.player c.next_deed.new.player c.self.invariant is
