-- What events did to a process: those of a record that is played, or all of them at once.
use Rattle.std.specs.Prelude.{ℕ, List, Option, None, Some}
use Rattle.om_machine.specs.State.{State}
use Rattle.om_world.specs.World.{WorldState}
use Rattle.om_world.specs.declared.event.Event.{Event}
use Rattle.om_timeline.specs.declared.deed.Deed.{Deed}
use Rattle.om_timeline.specs.declared.reel.Source.{Source}
use Rattle.om_timeline.specs.declared.reel.Source.TheVariants.{Played, Told}
use Rattle.om_timeline.specs.declared.whole.Whole.{Whole}
use Rattle.om_timeline.specs.steps.Filmed.{TapeState}

pub record ReelState : Type 0 where
  pub own : ℕ
  pub n : ℕ
  pub first : State
  pub begun : Option WorldState  -- the world at the start, of a record that is played
  pub events : List Event
  pub deeds : List Deed

abbrev pub played_reel : TapeState → ReelState
played_reel t = record { own = t.own; n = t.n; first = t.first; begun = Some t.begun; events = t.events; deeds = t.deeds }

abbrev pub told_reel : Whole → ReelState
told_reel w = record { own = w.process; n = w.n; first = w.first; begun = None; events = w.events.items; deeds = w.deeds.items }

abbrev pub reel_of : Source → ReelState
reel_of (Played tape) = played_reel tape
reel_of (Told whole) = told_reel whole

-- the tape of a record that began with this world
abbrev pub tape_from : ReelState → WorldState → TapeState
tape_from r begun = record { own = r.own; n = r.n; first = r.first; begun = begun; events = r.events; deeds = r.deeds }
