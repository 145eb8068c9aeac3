-- What a run that is gone through without failures comes to.
use Rattle.std.specs.Prelude.{List}
use Rattle.om_process.specs.Process.{Program}
use Rattle.om_world.specs.Played.{Played}
use Rattle.om_world.specs.Started.{IsStarted}
use Rattle.om_world.specs.World.{WorldState, IsKnown}
use Rattle.om_world.specs.declared.event.Event.{Event}
use Rattle.om_world.specs.declared.event.Answer.{Answer}
use Rattle.om_check.specs.Whole.{IsStuck, IsWhole}
use Rattle.om_check.specs.declared.exploring.Explored.{Explored}
use Rattle.om_check.specs.declared.exploring.End.{End}
use Rattle.om_check.specs.declared.exploring.End.TheVariants.{Whole, Stuck}

-- from their start over stores that held nothing these events lead the programs to this world
pub record LeadTo (programs : List Program) (events : List Event) (w : WorldState) : Type 0 where
  pub begun : WorldState
  pub started : IsStarted programs begun
  pub known : IsKnown begun
  pub answers : List Answer
  pub played : Played begun events answers w

-- how the world stands in this end
abbrev pub EndsIn : List Program → WorldState → End → Type 0
EndsIn programs w Whole = IsWhole programs w
EndsIn programs w Stuck = IsStuck programs w

-- the events lead to the world, and it stands as is told
pub record IsExplored (programs : List Program) (run : Explored) : Type 0 where
  pub led : LeadTo programs run.events.items run.world
  pub ends : EndsIn programs run.world run.end
