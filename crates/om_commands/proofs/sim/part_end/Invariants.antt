use Rattle.std.proofs.Common.{◌≡◌, ◌≢◌, ◌≤◌, ◌<◌, ℕ, slice_get, Some}
use Rattle.om_world.specs.declared.event.Event.{Event}
use Rattle.om_commands.proofs.sim.part_end.Given as goal

-- no restart stands between
abbrev pub invariant-loop-at : goal.invariant-loop-at
invariant-loop-at l = (i : ℕ) → l.from ≤ i → i < l.at → slice_get l.events i ≢ Some Event.Restart
