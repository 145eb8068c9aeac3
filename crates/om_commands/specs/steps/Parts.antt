-- Events that are played part by part, each up to a restart.
use Rattle.std.specs.Prelude.{◌≡◌, ◌≢◌, ◌+◌, ◌<◌, List, ◌++◌, ℕ, All, length, slice_get, Some}
use Rattle.om_world.specs.Played.{IsFaultless}
use Rattle.om_world.specs.World.{WorldState}
use Rattle.om_world.specs.declared.event.Answer.{Answer}
use Rattle.om_world.specs.declared.event.Event.{Event}
use Rattle.om_commands.specs.Sim.{PlayedLines}

-- no event but the last is a restart
abbrev pub EndsPart : List Event → Type 0
EndsPart events = (i : ℕ) → i + 1 < length events → slice_get events i ≢ Some Event.Restart

-- the events were played, and the text has a line more for each; no store failed
pub record ArePlayed (old : WorldState) (events : List Event) (new : WorldState) (was text : List ℕ) : Type 0 where
  pub answers : List Answer
  pub lines : List ℕ
  pub played : PlayedLines old events answers new lines
  pub faultless : All IsFaultless answers
  pub written : text ≡ was ++ lines
