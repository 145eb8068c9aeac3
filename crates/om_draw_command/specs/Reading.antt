-- What is read of a world, before and behind an event.
use Rattle.std.specs.Prelude.{ℕ, ◌-◌, if◌then◌else◌, length, nat_lt}
use Rattle.om_manager.specs.State.{ManagerState, held_by, process_count}
use Rattle.om_world.specs.declared.event.Answer.{Answer}
use Rattle.om_world.specs.declared.event.Answer.TheVariants as answers
use Rattle.om_world.specs.declared.event.Event.{Event}
use Rattle.om_world.specs.declared.event.Event.TheVariants as events

-- how many outputs a process has handed in, if there is the process
abbrev pub handed_by : ManagerState → ℕ → ℕ
handed_by m p = if nat_lt p (process_count m) then length (held_by m p) else 0

-- how many outputs an event handed in with this answer, between these managers: of those that a run made, some may have been
-- handed in before
abbrev pub newly_handed : Event → Answer → ManagerState → ManagerState → ℕ
newly_handed (events.Run process fuel) (answers.Ran steps status sent made) old new =
    if nat_lt 0 made then handed_by new process - handed_by old process else 0
newly_handed _ answer old new = 0
