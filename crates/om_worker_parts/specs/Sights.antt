-- What is shown of a process.
use Rattle.om_process.specs.Core.{CoreState, move_of, status_of}
use Rattle.om_observers.specs.declared.sight.Doing.{Doing}
use Rattle.om_observers.specs.declared.sight.Doing.TheVariants as shown
use Rattle.om_observers.specs.declared.sight.Sight.{Sight}
use Rattle.om_worker_parts.specs.declared.worker_state.WorkerState.{WorkerState}
use Rattle.om_worker_parts.specs.declared.worker_state.WorkerState.TheVariants.{Up, MustJoin, Joined, Failed, Down, AllQuiet}

-- what a process does that stands there
abbrev pub doing_at : {J S : Type 0} → WorkerState J S → Doing
doing_at (Up node) = shown.Up (status_of (move_of node.core))
doing_at (AllQuiet node) = shown.Up (status_of (move_of node.core))
doing_at (MustJoin node) = shown.Called
doing_at (Joined node) = shown.Joined
doing_at (Failed down_node) = shown.Down
doing_at (Down down_node) = shown.Down

-- what is seen of a process that does this, once this was seen of it before
abbrev pub sight_of : Doing → Sight → CoreState → Sight
sight_of doing before core = record before {
  doing = doing;
  interval = core.now.interval;
  count = core.now.machine.count;
  pc = core.now.machine.pc;
}

-- what is seen of a process that stands there, once this was seen of it before; of one that is down, what it does
abbrev pub sight_at : {J S : Type 0} → Sight → WorkerState J S → Sight
sight_at before (Up node) = sight_of (shown.Up (status_of (move_of node.core))) before node.core
sight_at before (AllQuiet node) = sight_of (shown.Up (status_of (move_of node.core))) before node.core
sight_at before (MustJoin node) = sight_of shown.Called before node.core
sight_at before (Joined node) = sight_of shown.Joined before node.core
sight_at before (Failed down_node) = record before { doing = shown.Down }
sight_at before (Down down_node) = record before { doing = shown.Down }
