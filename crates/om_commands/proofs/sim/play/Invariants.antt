use Rattle.std.proofs.Common.{◌≡◌, ◌≤◌, ◌-◌, length, take, string_bytes}
use Rattle.om_manager.specs.State.{process_count}
use Rattle.om_world.specs.World.{IsKnown}
use Rattle.om_commands.specs.steps.Parts.{ArePlayed}
use Rattle.om_commands.proofs.sim.play.Given as goal

abbrev pub invariant-loop-done : goal.invariant-loop-done
invariant-loop-done l = record {
  within : l.done ≤ length l.events;
  told : ArePlayed l.fn.world (take l.done l.events) l.world (string_bytes l.fn.text) (string_bytes l.text);
  known : IsKnown l.world;
  size : process_count l.world.manager ≡ process_count l.fn.world.manager;
}

abbrev pub decreases-loop-done : goal.decreases-loop-done
decreases-loop-done l = length l.events - l.done
