-- What a restart does to a world: all that runs ends, and a new manager starts over the stores.
use Rattle.std.specs.Prelude.{◌≡◌, ℕ, ◌<◌, List, [], length, replicate, None, true, false}
use Rattle.om_interval.specs.Vectors.{IsBelow}
use Rattle.om_recover.specs.Recoverable.{IsGreatest}
use Rattle.om_manager.specs.State.{ManagerState, held_by, released_by}
use Rattle.om_take_up.specs.Anew.{EachFailed, IsFirst}
use Rattle.om_world.specs.Disk.{held_in}
use Rattle.om_world.specs.Live.{cut_list}
use Rattle.om_world.specs.Stopped.{IsLeft, along}
use Rattle.om_take_up.specs.StoreRows.{HasRowsOf}
use Rattle.om_world.specs.World.{WorldState}
use Rattle.om_world.specs.declared.entry.Entry.{Entry}
use Rattle.om_world.specs.declared.process_state.ProcessState.{ProcessState}

-- all is gone but the stores, and what was received up to this manager's recovery state: each process is down, and it is declared; and a
-- round is finished
abbrev pub anew : WorldState → ManagerState → WorldState
anew w m = record w {
  live = cut_list m.recovery w.live;
  frames = [];
  cores = replicate (length w.programs) None;
  places = replicate (length w.programs) (ProcessState.Down true);
  rounds = replicate (length w.programs) 0;
  manager = m;
  since = record { before = w.live; stored = false };
}

-- the stores are of one run. A new manager was told the rows of the stores, and what was released, under its numbers; it recovers the
-- greatest state that these rows allow, which is no less than was recovered. Then each process failed, and the round is finished with
-- that state, to which the run is cut
pub record HasRestarted (old new : WorldState) : Type 0 where
  pub run : List Entry
  pub left : IsLeft old run
  pub told : ManagerState
  pub first : IsFirst (length old.programs) told
  pub rows : HasRowsOf (length old.programs) (held_in old) told.rows
  pub greatest : IsGreatest (length old.programs) told.rows told.recovery
  pub kept : IsBelow old.manager.recovery told.recovery
  pub outputs : (p : ℕ) → p < length old.programs → held_by told p ≡ released_by old.manager p
  pub failed : EachFailed told new.manager
  pub recovery : new.manager.recovery ≡ told.recovery
  pub others : new ≡ record (anew (along old run) new.manager) { health = new.health }
