-- Events that made outputs.
use Rattle.std.specs.Prelude.{Bool, false, nat_lt}
use Rattle.om_world.specs.declared.event.Answer.{Answer}
use Rattle.om_world.specs.declared.event.Event.{Event}
use Rattle.om_world.specs.declared.event.Event.TheVariants as events
use Rattle.om_world.specs.declared.event.Answer.TheVariants as answers

-- a run with this answer made outputs
abbrev pub has_made : Answer → Bool
has_made (answers.Ran steps status sent made) = nat_lt 0 made
has_made _ = false

-- an event with this answer made outputs
abbrev pub makes : Event → Answer → Bool
makes (events.Run process fuel) answer = has_made answer
makes _ answer = false
