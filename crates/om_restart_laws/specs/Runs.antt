-- Runs one after another: each was played and ended, and what it left was taken up by the next.
use Rattle.std.specs.Prelude.{◌≡◌, List, [], ◌∷◌}
use Rattle.om_manager.specs.Sound.{KeepsReleased}
use Rattle.om_manager.specs.State.{process_count}
use Rattle.om_world.specs.declared.event.Answer.{Answer}
use Rattle.om_world.specs.declared.event.Event.{Event}
use Rattle.om_world.specs.Disk.{IsOnDisk}
use Rattle.om_world.specs.Played.{Played}
use Rattle.om_world.specs.Restarted.{HasRestarted}
use Rattle.om_world.specs.Stopped.{along, stopped}
use Rattle.om_world.specs.World.{WorldState}

-- a world was played to another, as `World::play` says
pub record WasPlayed (old new : WorldState) : Type 0 where
  pub events : List Event
  pub answers : List Answer
  pub played : Played old events answers new
  pub released : KeepsReleased old.manager new.manager
  pub size : process_count new.manager ≡ process_count old.manager

-- a world ended and left this on its disk, and what it left was taken up by another, as `World::stop` and `World::take_up` say
pub record WasTakenUp (ended begun : WorldState) : Type 0 where
  pub restarted : HasRestarted (stopped ended) begun
  pub disk : IsOnDisk (along (stopped ended) restarted.run)

-- a world that ended, and the one that took up what it left
pub record Stop : Type 0 where
  pub ended : WorldState
  pub begun : WorldState

-- the first world is played until the first stop, the one that is taken up there until the next, and so on to the last
abbrev pub AreRuns : WorldState → List Stop → WorldState → Type 0
AreRuns first [] last = WasPlayed first last
AreRuns first (stop ∷ stops) last = WasPlayed first stop.ended × WasTakenUp stop.ended stop.begun × AreRuns stop.begun stops last
