-- What is left of a world that ended, as clauses see it.
use Rattle.std.specs.Prelude.{◌≡◌, ℕ, ◌<◌, List, [], length, replicate, None, true, false}
use Rattle.om_world.specs.Failures.{HasNews}
use Rattle.om_world.specs.World.{WorldState}
use Rattle.om_world.specs.declared.entry.Entry.{Entry}
use Rattle.om_world.specs.declared.process_state.ProcessState.{ProcessState}

-- nothing runs any more, and no frame is left
abbrev pub stopped : WorldState → WorldState
stopped w = record w {
  frames = [];
  cores = replicate (length w.programs) None;
  places = replicate (length w.programs) (ProcessState.Down true);
}

-- each process knows the last finished round
abbrev pub AreCurrent : WorldState → Type 0
AreCurrent w = (p : ℕ) → p < length w.programs → HasNews w p → ⊥

-- what is on the disks of a world is of this run: where each process knows the last finished round, of what was received. Where a process
-- is not back from it, and none has stored since, of what had been received when it finished: that a round is finished stands on no disk,
-- and the stores hold what they held then, but for what was cut of those that are back
pub data IsLeft (w : WorldState) (run : List Entry) : Type 0 where
  current : AreCurrent w → run ≡ w.live → IsLeft w run
  between : (p : ℕ) → p < length w.programs → HasNews w p → w.since.stored ≡ false → run ≡ w.since.before → IsLeft w run

-- there is a run that the world is left with
abbrev pub IsWhole : WorldState → Type 0
IsWhole w = (run : List Entry) × IsLeft w run

-- the world along this run
abbrev pub along : WorldState → List Entry → WorldState
along w run = record w { live = run }
