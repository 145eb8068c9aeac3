-- Events that are played in order.
use Rattle.std.specs.Prelude.{◌≡◌, ◌≢◌, ℕ, List, [], ◌∷◌}
use Rattle.om_manager.specs.Sound.{KeepsReleased}
use Rattle.om_world.specs.declared.event.Event.{Event}
use Rattle.om_world.specs.declared.event.Answer.{Answer}
use Rattle.om_world.specs.declared.event.Answer.TheVariants.{Refused}
use Rattle.om_world.specs.declared.event.Refusal.TheVariants.{Fault}
use Rattle.om_world.specs.World.{WorldState}
use Rattle.om_world.specs.Changes.{HasFailed}
use Rattle.om_world.specs.Holds.{Holds}
use Rattle.om_world.specs.Happened.{Happened}

-- one event: it did what it answers, what holds of every world holds, and what was released still is
pub record Step (old : WorldState) (event : Event) (answer : Answer) (new : WorldState) : Type 0 where
  pub happened : Happened old event answer new
  pub holds : Holds new
  pub released : KeepsReleased old.manager new.manager

-- the events, each with its answer
abbrev pub Played : WorldState → List Event → List Answer → WorldState → Type 0
Played old [] [] new = new ≡ old
Played old (e ∷ es) (a ∷ answers) new = (mid : WorldState) × Step old e a mid × Played mid es answers new
Played old events answers new = ⊥

-- an event was answered with anything but a fault of a store
abbrev pub IsFaultless : Answer → Type 0
IsFaultless answer = answer ≢ Refused Fault

-- an event that was answered with a fault is counted: some store counts more failures than before
abbrev pub IsCounted : WorldState → WorldState → Answer → Type 0
IsCounted old new answer = answer ≡ Refused Fault → (p : ℕ) × HasFailed old p new
